-- Lawful classes, and the first that fits a size.
use Rattle.std.proofs.Common.{ℕ, zero, suc, ◌<◌, ◌≤◌, List, [], ◌∷◌, length, length-append, get_or, arith, ◌&&◌, ◌≡◌, ◌+◌, ◌-◌, inl, inr, Bool, true, false, ◌||◌, Some, Err, map, ◌++◌, drop, refl, ap, ◌∙◌, if◌then◌else◌}
use Rattle.std.specs.Prelude.{IsTrue, nat_lt, nat_le, ok_or, slice_get}
use Rattle.std.proofs.lemmas.Bool.{and_parts, cases_lt, ltb-true, leb-true, cond-true, cond-false, lt-leb, le-leb}
use Rattle.std.specs.List.{flat_map, zip, list_any}
use Rattle.std.proofs.lemmas.List.{drop_more, get_or_past}
use Rattle.std.proofs.lemmas.List.Folds.{list_any_at}
use Rattle.strm_data.specs.declared.class_spec.ClassSpec.{ClassSpec}
use Rattle.strm_data.specs.Classes.{total_of, are_lawful, sizes_rise, each_has_blocks}
use Rattle.strm_data.specs.DataStore.{no_class_spec, DataStore, free_of, fitting_blocks, IsClassFor, IsTakenFrom, class_spec_at}
use Rattle.strm_data.specs.Limits.{most_classes, most_data_block_bytes, most_data_blocks}
use Rattle.strm_data.specs.declared.refusal.Refusal.TheVariants.{NoData, TooLarge}

-- ---- what lawful classes are: how many, of which sizes, and of how many data blocks

-- a size is above the ones before, and most_data_block_bytes at most
size_within : (below : ℕ) (specs : List ClassSpec) (c : ℕ) → c < length specs → IsTrue (sizes_rise below specs)
    → (below < (get_or specs c no_class_spec).size) × ((get_or specs c no_class_spec).size ≤ most_data_block_bytes)
size_within below [] c within rise = absurd (omega arith)
size_within below (x ∷ xs) zero within rise =
    let parts = and_parts (nat_lt below x.size) _ rise in
    (ltb-true _ _ parts.0, leb-true _ most_data_block_bytes (and_parts (nat_le x.size most_data_block_bytes) _ parts.1).0)
size_within below (x ∷ xs) (suc c) within rise =
    let parts = and_parts (nat_lt below x.size) _ rise in
    let later = size_within x.size xs c (omega arith) (and_parts (nat_le x.size most_data_block_bytes) _ parts.1).1 in
    (omega (arith, ltb-true _ _ parts.0, later.0), later.1)

-- a size is at least those of the classes before
size_rises : (below : ℕ) (specs : List ClassSpec) (c e : ℕ) → c ≤ e → e < length specs → IsTrue (sizes_rise below specs)
    → (get_or specs c no_class_spec).size ≤ (get_or specs e no_class_spec).size
size_rises below [] c e before within rise = absurd (omega arith)
size_rises below (x ∷ xs) zero zero before within rise = omega arith
size_rises below (x ∷ xs) zero (suc e) before within rise =
    let parts = and_parts (nat_lt below x.size) _ rise in
    let later = size_within x.size xs e (omega arith) (and_parts (nat_le x.size most_data_block_bytes) _ parts.1).1 in
    omega (arith, later.0)
size_rises below (x ∷ xs) (suc c) zero before within rise = absurd (omega arith)
size_rises below (x ∷ xs) (suc c) (suc e) before within rise =
    let parts = and_parts (nat_lt below x.size) _ rise in
    size_rises x.size xs c e (omega arith) (omega arith) (and_parts (nat_le x.size most_data_block_bytes) _ parts.1).1

module _ (specs : List ClassSpec) (lawful : IsTrue (are_lawful specs)) where
  -- most_classes at most
  pub lawful_few : length specs ≤ most_classes
  lawful_few = leb-true _ most_classes (and_parts _ _ (and_parts (nat_le 1 (length specs)) _ lawful).1).0

  -- there is one
  pub lawful_some : 1 ≤ length specs
  lawful_some = leb-true 1 (length specs) (and_parts (nat_le 1 (length specs)) _ lawful).0

  -- the sizes rise, each class has data blocks, and there are most_data_blocks at most
  rising : IsTrue (sizes_rise 0 specs && (each_has_blocks specs && nat_le (total_of specs) most_data_blocks))
  rising = (and_parts (nat_le (length specs) most_classes) _ (and_parts (nat_le 1 (length specs)) _ lawful).1).1

  pub lawful_total : total_of specs ≤ most_data_blocks
  lawful_total = leb-true _ most_data_blocks (and_parts (each_has_blocks specs) _ (and_parts (sizes_rise 0 specs) _ rising).1).1

  -- each size is 1 to most_data_block_bytes
  pub lawful_size : (c : ℕ) → c < length specs → (1 ≤ (get_or specs c no_class_spec).size) × ((get_or specs c no_class_spec).size ≤ most_data_block_bytes)
  lawful_size c within =
      let sizes = size_within 0 specs c within (and_parts (sizes_rise 0 specs) _ rising).0 in
      (omega (arith, sizes.0), sizes.1)

  -- no class before another has larger data blocks
  pub lawful_rise : (c e : ℕ) → c ≤ e → e < length specs → (get_or specs c no_class_spec).size ≤ (get_or specs e no_class_spec).size
  lawful_rise c e before within = size_rises 0 specs c e before within (and_parts (sizes_rise 0 specs) _ rising).0

-- ---- the search for the first class that fits a size and has a free data block

-- the free blocks of a class, if it fits
abbrev pub if_fits : ℕ → ClassSpec × List ℕ → List ℕ
if_fits size p = if nat_le size p.0.size then p.1 else []

-- what the classes from i on give
abbrev pub fitting_from : ℕ → DataStore → ℕ → List ℕ
fitting_from size s i = flat_map (if_fits size) (zip (drop i s.classes) (drop i s.free))

-- class i, and those behind it
fitting_from-here : (size : ℕ) (s : DataStore) (i : ℕ) (d : ClassSpec) → i < length s.classes → i < length s.free
    → fitting_from size s i ≡ if_fits size (get_or s.classes i d, free_of s i) ++ fitting_from size s (i + 1)
fitting_from-here size s i d in_classes in_free = rw (drop_more s.classes i d in_classes, drop_more s.free i [] in_free) refl

same_either : {X : Type 0} (b : Bool) (x : X) → (if b then x else x) ≡ x
same_either true x = refl
same_either false x = refl

-- a class that doesn't fit gives nothing, and neither does one with no free block
pub if_fits-small : (size : ℕ) (c : ClassSpec) (xs : List ℕ) → c.size < size → if_fits size (c, xs) ≡ []
if_fits-small size c xs small = cond-false _ xs [] (lt-leb size c.size small)

pub if_fits-empty : (size : ℕ) (c : ClassSpec) (xs : List ℕ) → length xs ≡ 0 → if_fits size (c, xs) ≡ []
if_fits-empty size c [] none = same_either (nat_le size c.size) []
if_fits-empty size c (x ∷ xs) none = absurd (omega arith)

-- the search goes on behind a class that gives nothing
pub fitting_from_next : (size : ℕ) (s : DataStore) (i : ℕ) (d : ClassSpec) → i < length s.classes → i < length s.free
    → if_fits size (get_or s.classes i d, free_of s i) ≡ [] → fitting_blocks size s ≡ fitting_from size s i → fitting_blocks size s ≡ fitting_from size s (i + 1)
fitting_from_next size s i d in_classes in_free none left =
    left ∙ fitting_from-here size s i d in_classes in_free ∙ ap (λ xs. xs ++ fitting_from size s (i + 1)) none

-- what is first in front of more
first_of_both : (xs ys : List ℕ) → 0 < length xs → slice_get (xs ++ ys) 0 ≡ Some (get_or xs 0 0)
first_of_both [] ys some = absurd (omega arith)
first_of_both (x ∷ xs) ys some = refl

-- the search ends at a class that fits and has a free data block
pub IsTakenFrom-found : (size : ℕ) (s : DataStore) (i : ℕ) → i < length s.classes → i < length s.free
    → size ≤ (class_spec_at s i).size → 0 < length (free_of s i) → fitting_blocks size s ≡ fitting_from size s i → IsTakenFrom size s i
IsTakenFrom-found size s i in_classes in_free wide some left =
    let fits : nat_le size (class_spec_at s i).size ≡ true = le-leb size _ wide in
    let found : fitting_blocks size s ≡ free_of s i ++ fitting_from size s (i + 1) =
    cc (left, fitting_from-here size s i no_class_spec in_classes in_free, cond-true _ (free_of s i) [] fits) in
    record {
      wide = wide;
      some = some;
      front =
          cond-true _ (ok_or (slice_get (fitting_blocks size s) 0) NoData) (Err TooLarge) (list_any_at (λ c. nat_le size c.size) s.classes i no_class_spec in_classes fits)
          ∙ ap (λ xs. ok_or (slice_get xs 0) NoData) found ∙ ap (λ o. ok_or o NoData) (first_of_both (free_of s i) (fitting_from size s (i + 1)) some);
    }

-- ---- a class for a size

-- the classes from i on give no less than those n classes behind
falls : (size : ℕ) (s : DataStore) → length s.free ≡ length s.classes → (i n : ℕ) → i + n ≤ length s.classes → length (fitting_from size s (i + n)) ≤ length (fitting_from size s i)
falls size s lists i zero within =
    let none : i + zero ≡ i = omega arith in
    omega (arith, ap (λ j. length (fitting_from size s j)) none)
falls size s lists i (suc n) within =
    let next : i + suc n ≡ (i + n) + 1 = omega arith in
    let one = ap length (fitting_from-here size s (i + n) no_class_spec (omega (arith, within)) (omega (arith, within, lists)))
    ∙ length-append (if_fits size (class_spec_at s (i + n), free_of s (i + n))) (fitting_from size s ((i + n) + 1)) in
    omega (arith, falls size s lists i n (omega (arith, within)), one, ap (λ j. length (fitting_from size s j)) next)

-- if the classes before c give nothing, those that fit have no free data block
pub none_before : (size : ℕ) (s : DataStore) → length s.free ≡ length s.classes → (c k : ℕ) → k < c → c ≤ length s.classes → fitting_blocks size s ≡ fitting_from size s c
    → size ≤ (class_spec_at s k).size → length (free_of s k) ≡ 0
none_before size s lists c k below within found wide =
    let start : fitting_blocks size s ≡ fitting_from size s 0 = refl in
    let here = ap length (fitting_from-here size s k no_class_spec (omega (arith, below, within)) (omega (arith, below, within, lists)))
    ∙ length-append (if_fits size (class_spec_at s k, free_of s k)) (fitting_from size s (k + 1)) in
    let all : length (if_fits size (class_spec_at s k, free_of s k)) ≡ length (free_of s k) = ap length (cond-true _ (free_of s k) [] (le-leb size _ wide)) in
    let from_start : 0 + k ≡ k = omega arith in
    let to_class : (k + 1) + (c - (k + 1)) ≡ c = omega (arith, below) in
    omega (
      arith,
      here,
      all,
      ap length start,
      ap length found,
      falls size s lists 0 k (omega (arith, below, within)),
      ap (λ j. length (fitting_from size s j)) from_start,
      falls size s lists (k + 1) (c - (k + 1)) (omega (arith, below, within)),
      ap (λ j. length (fitting_from size s j)) to_class,
    )

-- the search goes on to class c if those before it give nothing
pub fitting_to : (size : ℕ) (s : DataStore) → length s.free ≡ length s.classes → (c : ℕ) → c ≤ length s.classes
    → ((k : ℕ) → k < c → if_fits size (class_spec_at s k, free_of s k) ≡ []) → fitting_blocks size s ≡ fitting_from size s c
fitting_to size s lists zero within none = refl
fitting_to size s lists (suc c) within none =
    let next : c + 1 ≡ suc c = omega arith in
    fitting_from_next size s c no_class_spec (omega (arith, within)) (omega (arith, within, lists)) (none c (omega arith))
    (fitting_to size s lists c (omega (arith, within)) (λ k below. none k (omega (arith, below))))
    ∙ ap (fitting_from size s) next

-- a class with a free data block is there
pub class_there : (s : DataStore) (c : ℕ) → 0 < length (free_of s c) → c < length s.free
class_there s c some = elim (cases_lt c (length s.free)) [
  | inl there ↦ there
  | inr past ↦ absurd (omega (arith, some, ap length (get_or_past s.free c [] past)))
]

-- from a class for a size the size takes, if it has a free data block
pub IsTakenFrom-class : (size : ℕ) (s : DataStore) → length s.free ≡ length s.classes → (c : ℕ) → IsClassFor size s c → 0 < length (free_of s c) → IsTakenFrom size s c
IsTakenFrom-class size s lists c is some =
    let there = class_there s c some in
    IsTakenFrom-found size s c (omega (arith, there, lists)) there is.wide some
    (fitting_to size s lists c (omega (arith, there, lists)) (λ k below. elim (cases_lt (class_spec_at s k).size size) [
      | inl small ↦ if_fits-small size (class_spec_at s k) (free_of s k) small
      | inr wide ↦ if_fits-empty size (class_spec_at s k) (free_of s k) (is.before k below wide)
    ]))

-- a store whose classes are the same, and whose free lists before class c are the same, has the class for a size still
pub IsClassFor-kept : (size : ℕ) (s t : DataStore) (c : ℕ) → t.classes ≡ s.classes → ((k : ℕ) → k < c → free_of t k ≡ free_of s k) → IsClassFor size s c → IsClassFor size t c
IsClassFor-kept size s t c classes free is = record {
  wide = omega (arith, is.wide, ap (λ (cs : List ClassSpec). (get_or cs c no_class_spec).size) classes);
  before = λ k below wide. ap length (free k below) ∙ is.before k below (omega (arith, wide, ap (λ (cs : List ClassSpec). (get_or cs k no_class_spec).size) classes));
}

-- a test on what a function gives
pub list_any-map : {X Y : Type 0} (f : X → Y) (p : Y → Bool) (xs : List X) → list_any p (map f xs) ≡ list_any (λ x. p (f x)) xs
list_any-map f p [] = refl
list_any-map f p (x ∷ xs) = ap (λ b. p (f x) || b) (list_any-map f p xs)
