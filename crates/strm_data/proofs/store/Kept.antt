-- A data block is taken, gets or loses a reference, or is written to: what still holds, and the fewest that were free.
use Rattle.std.proofs.Common.{◌≡◌, ◌≢◌, ℕ, ◌+◌, ◌-◌, ◌<◌, ◌≤◌, true, false, ◌&&◌, ◌==◌, List, [], ◌∷◌, length, get_or, set, drop, Ok, refl, sym, ap, ◌∙◌, inl, inr, subst, arith, if◌then◌else◌, length-set, get_or-set_same, get_or-set_other, count_by, suc, zero, min, map}
use Rattle.std.specs.Prelude.{nat_lt}
use Rattle.std.specs.List.{zip}
use Rattle.std.proofs.lemmas.Bool.{cases_eq, cases_lt, cond-true, cond-false, cond_both, eq-eqb, ne_eqb, lt-ltb, and_left, and_right, and_parts, ltb-true, eqb-true}
use Rattle.std.proofs.lemmas.List.{length-map, set_past, set-get_or}
use Rattle.std.proofs.lemmas.Slice.Zip.{length-zip}
use Rattle.std.proofs.lemmas.List.Sums.{sum_by-cons}
use Rattle.std.proofs.Math.Nat.{min-le_right}
use Rattle.std.proofs.lemmas.List.FromFn.{length-range_with_len}
use Rattle.strm_links.proofs.lists.Counting.{times_here, times_other, times_rest_same, times_rest_other, times_some, few_of}
use Rattle.strm_data.specs.CountedStore.{CountedStore, count_of, is_unused, IsUnused, IsKept, after_take, with_reference, without_reference}
use Rattle.strm_data.specs.DataStore.{class_infos, times, DataBlock, no_data_block, class_of, free_of, IsTakenFrom, take_data, blocks_in, class_spec_at, capacity_of, no_class_spec, DataStore, IsLeast, least_of, numbers_from, opening_store, with_data_freed, with_data_reset, with_data_taken}
use Rattle.strm_data.specs.Classes.{are_lawful}
use Rattle.strm_data.specs.Limits.{most_data_block_bytes, most_references}
use Rattle.strm_data.specs.declared.class_spec.ClassSpec.{ClassSpec}
use Rattle.strm_data.proofs.Lists.{map-get_or}
use Rattle.strm_data.proofs.store.Lawful.{lawful_size}

-- ---- a data block is taken, gets or loses a reference, or is written to: `IsKept` still holds

-- ---- how many data blocks are of a class

-- as many among data blocks of the same classes
blocks_in-same : (xs ys : List DataBlock) (c : ℕ) → length xs ≡ length ys → ((k : ℕ) → (get_or xs k no_data_block).class ≡ (get_or ys k no_data_block).class)
    → count_by (λ (b : DataBlock). b.class == c) xs ≡ count_by (λ (b : DataBlock). b.class == c) ys
blocks_in-same [] [] c long same = refl
blocks_in-same [] (y ∷ ys) c long same = absurd (omega (arith, long))
blocks_in-same (x ∷ xs) [] c long same = absurd (omega (arith, long))
blocks_in-same (x ∷ xs) (y ∷ ys) c long same =
    let one_if : DataBlock → ℕ = λ b. if b.class == c then 1 else 0 in
    sum_by-cons one_if x xs
    ∙ (λ i. (if same 0 i == c then 1 else 0) + blocks_in-same xs ys c (omega (arith, long)) (λ k. same (suc k)) i)
    ∙ sym (sum_by-cons one_if y ys)

-- ---- what is unused

named_is : (s : CountedStore) (c d : ℕ) → count_of s d ≢ 0 → is_unused s c d ≡ false
named_is s c d some = and_right (nat_lt d (length s.store.blocks)) _ (and_right (class_of s.store d == c) _ (ne_eqb _ 0 some))

elsewhere_is : (s : CountedStore) (c d : ℕ) → class_of s.store d ≢ c → is_unused s c d ≡ false
elsewhere_is s c d other = and_right (nat_lt d (length s.store.blocks)) _ (and_left _ _ (ne_eqb _ c other))

-- two stores that agree on a data block
same_is : (s new : CountedStore) (c d : ℕ) → length new.store.blocks ≡ length s.store.blocks → class_of new.store d ≡ class_of s.store d → count_of new d ≡ count_of s d → is_unused new c d ≡ is_unused s c d
same_is s new c d long class count = λ i. nat_lt d (long i) && (class i == c && count i == 0)

module _ (s : CountedStore) (kept : IsKept s) where
  -- a data block in a free list
  listed_is : (c d : ℕ) → 0 < times d (free_of s.store c) → is_unused s c d ≡ true
  listed_is c d some = cond_both (is_unused s c d) 1 0 (λ n. 0 < n → is_unused s c d ≡ true) (λ is _. is) (λ _ none. absurd (omega arith)) (omega (arith, kept.listed c d))

  pub listed_once : (c d : ℕ) → times d (free_of s.store c) ≤ 1
  listed_once c d = rw (kept.listed c d) (cond_both (is_unused s c d) 1 0 (λ n. n ≤ 1) (λ _. omega arith) (λ _. omega arith))

  pub listed_within : (c d : ℕ) → 0 < times d (free_of s.store c) → d < length s.store.blocks
  listed_within c d some = ltb-true _ _ (and_parts _ _ (listed_is c d some)).0

  pub listed_class : (c d : ℕ) → 0 < times d (free_of s.store c) → class_of s.store d ≡ c
  listed_class c d some = eqb-true _ _ (and_parts _ _ (and_parts _ _ (listed_is c d some)).1).0

  pub listed_unnamed : (c d : ℕ) → 0 < times d (free_of s.store c) → count_of s d ≡ 0
  listed_unnamed c d some = eqb-true _ _ (and_parts _ _ (and_parts _ _ (listed_is c d some)).1).1

  -- the first data block of a free list
  pub first_unused : (c : ℕ) → 0 < length (free_of s.store c) → (class_of s.store (get_or (free_of s.store c) 0 0) ≡ c) × IsUnused s (get_or (free_of s.store c) 0 0)
  first_unused c some =
      let d = get_or (free_of s.store c) 0 0 in
      let listed = times_some (free_of s.store c) 0 some in
      let there = listed_within c d listed in
      (listed_class c d listed, record { there = there; counted = omega (arith, kept.counted); classed = kept.classed d there; unnamed = listed_unnamed c d listed })

  unlisted : (c d : ℕ) → is_unused s c d ≡ false → times d (free_of s.store c) ≡ 0
  unlisted c d is = kept.listed c d ∙ cond-false _ 1 0 is

  -- no more of a class are free than there are of it
  pub free_few : (c : ℕ) → length (free_of s.store c) ≤ blocks_in s.store c
  free_few c =
      let bs = s.store.blocks in
      let block_at : ℕ → DataBlock = λ d. get_or bs d no_data_block in
      omega (
        arith,
        few_of (λ (b : DataBlock). if b.class == c then 1 else 0) block_at (length bs) (free_of s.store c)
            (λ d. cond_both (class_of s.store d == c) 1 0 (λ n. times d (free_of s.store c) ≤ n)
            (λ _. listed_once c d)
            (λ differs. omega (arith, unlisted c d (and_right (nat_lt d (length bs)) _ (and_left _ _ differs)))))
            (listed_within c),
        ap (count_by (λ (b : DataBlock). b.class == c)) (map-get_or bs no_data_block),
      )

  -- and no more than the class says
  pub free_within : (c : ℕ) → length (free_of s.store c) ≤ (class_spec_at s.store c).count
  free_within c = omega (arith, free_few c, kept.complete c)

  -- a store that differs in the references of one data block, and in whether its free list has it
  kept_but : (new : CountedStore) (d : ℕ) → new.store.classes ≡ s.store.classes → length new.store.free ≡ length s.store.free
      → length new.store.blocks ≡ length s.store.blocks → length new.counts ≡ length s.counts
      → ((k : ℕ) → class_of new.store k ≡ class_of s.store k) → ((k : ℕ) → capacity_of new.store k ≡ capacity_of s.store k) → ((k : ℕ) → k ≢ d → count_of new k ≡ count_of s k)
      → ((c k : ℕ) → k ≢ d → times k (free_of new.store c) ≡ times k (free_of s.store c))
      → count_of new d ≤ most_references → ((c : ℕ) → times d (free_of new.store c) ≡ (if is_unused new c d then 1 else 0)) → IsKept new
  kept_but new d classes lists blocks counts class capacity count others few_here here =
      record {
        lawful = ap are_lawful classes ∙ kept.lawful;
        complete = λ c. blocks_in-same new.store.blocks s.store.blocks c blocks class ∙ kept.complete c ∙ ap (λ cs. (get_or cs c no_class_spec).count) (sym classes);
        lists = omega (arith, ap length classes, kept.lists);
        counted = omega (arith, kept.counted);
        classed = λ k within. omega (arith, class k, ap length classes, kept.classed k (omega arith));
        sized = λ k within. capacity k ∙ kept.sized k (omega arith) ∙ sym (λ i. (get_or (classes i) (class k i) no_class_spec).size);
        few_references = λ k. elim (cases_eq k d) [
          | inl same ↦ rw same few_here
          | inr other ↦ omega (arith, count k other, kept.few_references k)
        ];
        listed = λ c k. elim (cases_eq k d) [
          | inl same ↦ rw same (here c)
          | inr other ↦ others c k other ∙ kept.listed c k ∙ ap (λ b. if b then 1 else 0) (sym (same_is s new c k blocks (class k) (count k other)))
        ];
      }

-- ---- a data block of the same class and as long in its place, and another number of references

-- what the data block in its place has alike
part-set : {X : Type 0} (part : DataBlock → X) (bs : List DataBlock) (d k : ℕ) (b : DataBlock) → part b ≡ part (get_or bs d no_data_block)
    → part (get_or (set bs d b) k no_data_block) ≡ part (get_or bs k no_data_block)
part-set part bs d k b stays =
    elim (cases_eq k d) [
      | inr other ↦ ap part (get_or-set_other bs d k b no_data_block other)
      | inl same ↦
          elim (cases_lt d (length bs)) [
            | inr past ↦ ap (λ xs. part (get_or xs k no_data_block)) (set_past bs d b past)
            | inl within ↦ cc (same, get_or-set_same bs d b no_data_block within, stays)
          ]
    ]

-- its class
pub class-set : (bs : List DataBlock) (d k : ℕ) (b : DataBlock) → b.class ≡ (get_or bs d no_data_block).class → (get_or (set bs d b) k no_data_block).class ≡ (get_or bs k no_data_block).class
class-set = part-set (λ (x : DataBlock). x.class)

-- and for how many bytes it has room
pub capacity-set : (bs : List DataBlock) (d k : ℕ) (b : DataBlock) → length b.bytes ≡ length (get_or bs d no_data_block).bytes → length (get_or (set bs d b) k no_data_block).bytes ≡ length (get_or bs k no_data_block).bytes
capacity-set = part-set (λ (x : DataBlock). length x.bytes)

-- ---- the steps

unused_by_count : (s : CountedStore) (c d : ℕ) → d < length s.store.blocks → class_of s.store d ≡ c → is_unused s c d ≡ (count_of s d == 0)
unused_by_count s c d there class = rw (lt-ltb d _ there, eq-eqb _ c class) refl

-- a store with other data blocks of the same classes and as long, with another number of references for d, and with another free list for
-- the class of d, which differs in d alone
replaced : (s : CountedStore) (d c v : ℕ) (bs : List DataBlock) (ys : List ℕ) → IsKept s → d < length s.store.blocks → class_of s.store d ≡ c → length bs ≡ length s.store.blocks
    → ((k : ℕ) → (get_or bs k no_data_block).class ≡ class_of s.store k) → ((k : ℕ) → length (get_or bs k no_data_block).bytes ≡ capacity_of s.store k)
    → ((k : ℕ) → k ≢ d → times k ys ≡ times k (free_of s.store c)) → times d ys ≡ (if v == 0 then 1 else 0) → v ≤ most_references
    → IsKept (record { store = record s.store { blocks = bs; free = set s.store.free c ys }; counts = set s.counts d v })
replaced s d c v bs ys kept there class long classes capacities others here most =
    let new : CountedStore = record { store = record s.store { blocks = bs; free = set s.store.free c ys }; counts = set s.counts d v } in
    let inside : c < length s.store.free = omega (arith, class, kept.lists, kept.classed d there) in
    let counted : d < length s.counts = omega (arith, kept.counted) in
    let list : (e : ℕ) → e ≡ c → free_of new.store e ≡ ys =
    λ e same. ap (λ j. get_or (set s.store.free c ys) j []) same ∙ get_or-set_same s.store.free c ys [] inside in
    let lists : (e : ℕ) → e ≢ c → free_of new.store e ≡ free_of s.store e = λ e other. get_or-set_other s.store.free c e ys [] other in
    let count : count_of new d ≡ v = get_or-set_same s.counts d v 0 counted in
    kept_but s kept new d refl (length-set s.store.free c ys) long (length-set s.counts d v) classes capacities (λ k other. get_or-set_other s.counts d k v 0 other)
    (λ e k other. elim (cases_eq e c) [
      | inl same ↦ ap (times k) (list e same) ∙ others k other ∙ ap (λ j. times k (free_of s.store j)) (sym same)
      | inr differs ↦ ap (times k) (lists e differs)
    ])
    (omega (arith, count, most))
    (λ e. elim (cases_eq e c) [
      | inl same ↦
          ap (times d) (list e same) ∙ here ∙ ap (λ n. if n == 0 then 1 else 0) (sym count)
          ∙ ap (λ b. if b then 1 else 0) (sym (unused_by_count new e d (omega (arith, long)) (classes d ∙ class ∙ sym same)))
      | inr differs ↦
          ap (times d) (lists e differs) ∙ unlisted s kept e d (elsewhere_is s e d (λ is. differs (sym is ∙ class)))
          ∙ sym (cond-false _ 1 0 (elsewhere_is new e d (λ is. differs (sym is ∙ classes d ∙ class))))
    ])

-- whatever the fewest free ones are
pub IsKept-least : (s : CountedStore) (least : List ℕ) → IsKept s → IsKept (record s { store = record s.store { least = least } })
IsKept-least s least kept = record {
  lawful = kept.lawful;
  complete = kept.complete;
  lists = kept.lists;
  counted = kept.counted;
  classed = kept.classed;
  sized = kept.sized;
  few_references = kept.few_references;
  listed = kept.listed;
}

IsKept-taken : (s : CountedStore) (c : ℕ) → IsKept s → 0 < length (free_of s.store c) → IsKept (after_take s (Ok (get_or (free_of s.store c) 0 0)))
IsKept-taken s c kept some =
    let d = get_or (free_of s.store c) 0 0 in
    let first = first_unused s kept c some in
    let list : free_of s.store (class_of s.store d) ≡ free_of s.store c = ap (free_of s.store) first.0 in
    let some' : 0 < length (free_of s.store (class_of s.store d)) = omega (arith, ap length list) in
    let front : get_or (free_of s.store (class_of s.store d)) 0 0 ≡ d = ap (λ xs. get_or xs 0 0) list in
    IsKept-least _ _
    (replaced s d (class_of s.store d) 1 _ (drop 1 (free_of s.store (class_of s.store d))) kept first.1.there refl (length-set s.store.blocks d _)
    (λ k. class-set s.store.blocks d k _ refl) (λ k. capacity-set s.store.blocks d k _ refl)
    (λ k other. times_rest_other k _ some' (λ is. other (sym is ∙ front)))
    (omega (arith, times_rest_same d _ some' front, listed_once s kept (class_of s.store d) d)) (omega arith))

pub IsKept-take : (size : ℕ) (s : CountedStore) (c : ℕ) → IsTakenFrom size s.store c → IsKept s → IsKept (after_take s (take_data size s.store))
IsKept-take size s c from kept = subst (λ r. IsKept (after_take s r)) (sym from.front) (IsKept-taken s c kept from.some)

-- another number of references, above 0 as before
recounted : (s : CountedStore) (d v : ℕ) → IsKept s → 0 < count_of s d → d < length s.store.blocks → 0 < v → v ≤ most_references → IsKept (record s { counts = set s.counts d v })
recounted s d v kept used there some most =
    let c = class_of s.store d in
    let xs = free_of s.store c in
    let absent : times d xs ≡ 0 = unlisted s kept c d (named_is s c d (λ none. omega arith)) in
    subst (λ fs. IsKept (record { store = record s.store { free = fs }; counts = set s.counts d v })) (set-get_or s.store.free c [])
    (replaced s d c v s.store.blocks xs kept there refl refl (λ k. refl) (λ k. refl) (λ k other. refl) (absent ∙ sym (cond-false _ 1 0 (ne_eqb _ 0 (λ none. omega arith)))) most)

pub IsKept-with_name : (s : CountedStore) (d : ℕ) → IsKept s → 0 < count_of s d → d < length s.store.blocks → count_of s d < most_references → IsKept (with_reference d s)
IsKept-with_name s d kept used there few = recounted s d (count_of s d + 1) kept used there (omega arith) (omega arith)

pub IsKept-without_name : (s : CountedStore) (d : ℕ) → IsKept s → 0 < count_of s d → d < length s.store.blocks → IsKept (without_reference d s)
IsKept-without_name s d kept used there =
    let c = class_of s.store d in
    let xs = free_of s.store c in
    let absent : times d xs ≡ 0 = unlisted s kept c d (named_is s c d (λ none. omega arith)) in
    let fewer : count_of s d - 1 ≤ most_references = omega (arith, kept.few_references d) in
    elim (cases_eq (count_of s d) 1) [
      | inl last ↦
          let gone : count_of s d - 1 ≡ 0 = omega arith in
          rw (eq-eqb (count_of s d) 1 last) (replaced s d c (count_of s d - 1) s.store.blocks (d ∷ xs) kept there refl refl (λ k. refl) (λ k. refl)
          (λ k other. times_other k d xs (λ is. other (sym is)))
          (times_here d d xs refl ∙ ap (λ n. 1 + n) absent ∙ sym (cond-true _ 1 0 (eq-eqb _ 0 gone))) fewer)
      | inr more ↦ rw (ne_eqb (count_of s d) 1 more) (recounted s d (count_of s d - 1) kept used there (omega (arith, more)) fewer)
    ]

-- a data block of the same class and as long in its place
pub IsKept-altered : (s : CountedStore) (d : ℕ) (b : DataBlock) → b.class ≡ class_of s.store d → length b.bytes ≡ capacity_of s.store d → IsKept s → IsKept (record s { store = record s.store { blocks = set s.store.blocks d b } })
IsKept-altered s d b class capacity kept =
    let new : CountedStore = record s { store = record s.store { blocks = set s.store.blocks d b } } in
    let long = length-set s.store.blocks d b in
    let classes : (k : ℕ) → class_of new.store k ≡ class_of s.store k = λ k. class-set s.store.blocks d k b class in
    record {
      lawful = kept.lawful;
      complete = λ c. blocks_in-same new.store.blocks s.store.blocks c long classes ∙ kept.complete c;
      lists = kept.lists;
      counted = omega (arith, kept.counted, long);
      classed = λ k within. omega (arith, classes k, kept.classed k (omega (arith, long)));
      sized = λ k within. capacity-set s.store.blocks d k b capacity ∙ kept.sized k (omega (arith, long)) ∙ ap (λ c. (class_spec_at s.store c).size) (sym (classes k));
      few_references = kept.few_references;
      listed = λ c k. kept.listed c k ∙ ap (λ b. if b then 1 else 0) (sym (same_is s new c k long (classes k) refl));
    }

-- a data block has room for 1 to most_data_block_bytes bytes
pub capacity_range : (s : CountedStore) (d : ℕ) → IsKept s → d < length s.store.blocks → (1 ≤ capacity_of s.store d) × (capacity_of s.store d ≤ most_data_block_bytes)
capacity_range s d kept there =
    let sizes = lawful_size s.store.classes kept.lawful (class_of s.store d) (kept.classed d there) in
    (omega (arith, sizes.0, kept.sized d there), omega (arith, sizes.1, kept.sized d there))

-- there is a `class_info` for each class
pub length-class_infos : (s : CountedStore) → IsKept s → length (class_infos s.store) ≡ length s.store.classes
length-class_infos s kept = length-map (zip s.store.classes s.store.free) _ ∙ omega (arith, length-zip s.store.classes s.store.free, kept.lists)

-- ---- the fewest data blocks of a class that were free: no more than are free

-- an item of a list of values is the value of an item, also past the end
pub get_or-map_all : {X Y : Type 0} (f : X → Y) (xs : List X) (i : ℕ) (d : X) → f (get_or xs i d) ≡ get_or (map f xs) i (f d)
get_or-map_all f [] i d = refl
get_or-map_all f (x ∷ xs) zero d = refl
get_or-map_all f (x ∷ xs) (suc i) d = get_or-map_all f xs i d

pub IsLeast-taken : (s : DataStore) (d : ℕ) → class_of s d < length s.classes → length s.free ≡ length s.classes → IsLeast s → IsLeast (with_data_taken d s)
IsLeast-taken s d within lists least =
    let c = class_of s d in
    let rest = drop 1 (free_of s c) in
    let fewest = min (least_of s c) (length rest) in
    let there : c < length s.least = omega (arith, least.each) in
    let listed : c < length s.free = omega (arith, lists) in
    record {
      each = length-set s.least c fewest ∙ least.each;
      fewest = λ e. elim (cases_eq e c) [
        | inl same ↦
            omega (
              arith,
              min-le_right (least_of s c) (length rest),
              ap (λ j. get_or (set s.least c fewest) j 0) same ∙ get_or-set_same s.least c fewest 0 there,
              ap (λ j. length (get_or (set s.free c rest) j [])) same ∙ ap length (get_or-set_same s.free c rest [] listed),
            )
        | inr other ↦
            omega (arith, get_or-set_other s.least c e fewest 0 other, ap length (get_or-set_other s.free c e rest [] other), least.fewest e)
      ];
    }

-- a free list only grows
IsLeast-freed : (s : DataStore) (d : ℕ) → class_of s d < length s.free → IsLeast s → IsLeast (with_data_freed d s)
IsLeast-freed s d within least =
    let c = class_of s d in
    let more = d ∷ free_of s c in
    record {
      each = least.each;
      fewest = λ e. elim (cases_eq e c) [
        | inl same ↦
            omega (
              arith,
              ap (λ j. length (get_or (set s.free c more) j [])) same ∙ ap length (get_or-set_same s.free c more [] within),
              ap (λ j. least_of s j) same,
              least.fewest c,
            )
        | inr other ↦ omega (arith, ap length (get_or-set_other s.free c e more [] other), least.fewest e)
      ];
    }

pub IsLeast-take : (size : ℕ) (s : CountedStore) (c : ℕ) → IsTakenFrom size s.store c → IsKept s → IsLeast s.store → IsLeast (after_take s (take_data size s.store)).store
IsLeast-take size s c from kept least =
    let first = first_unused s kept c from.some in
    subst (λ r. IsLeast (after_take s r).store) (sym from.front) (IsLeast-taken s.store (get_or (free_of s.store c) 0 0) first.1.classed kept.lists least)

pub IsLeast-without_name : (s : CountedStore) (d : ℕ) → IsKept s → d < length s.store.blocks → IsLeast s.store → IsLeast (without_reference d s).store
IsLeast-without_name s d kept there least =
    cond_both (count_of s d == 1) (with_data_freed d s.store) s.store IsLeast
    (λ _. IsLeast-freed s.store d (omega (arith, kept.classed d there, kept.lists)) least) (λ _. least)

pub IsLeast-reset : (s : DataStore) → length s.free ≡ length s.classes → IsLeast (with_data_reset s)
IsLeast-reset s lists = record {
  each = length-map s.free length ∙ lists;
  fewest = λ c. omega (arith, get_or-map_all length s.free c []);
}

opening_free : (first : ℕ) (cs : List ClassSpec) (c : ℕ) → get_or (map (λ (x : ClassSpec). x.count) cs) c 0 ≡ length (get_or (numbers_from first cs) c [])
opening_free first [] c = refl
opening_free first (x ∷ xs) zero = sym (length-range_with_len first x.count)
opening_free first (x ∷ xs) (suc c) = opening_free (first + x.count) xs c

pub IsLeast-opening : (cs : List ClassSpec) → IsLeast (opening_store cs)
IsLeast-opening cs = record {
  each = length-map cs (λ (x : ClassSpec). x.count);
  fewest = λ c. omega (arith, opening_free 0 cs c);
}
