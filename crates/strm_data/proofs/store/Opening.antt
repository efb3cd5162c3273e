-- The data blocks of a new pool: how many, in which class, and in which free list.
use Rattle.std.proofs.Common.{◌≡◌, ℕ, zero, suc, ◌+◌, ◌-◌, ◌<◌, ◌≤◌, Bool, true, false, ◌&&◌, ◌==◌, List, [], ◌∷◌, ◌++◌, length, get_or, replicate, refl, sym, ap, ◌∙◌, inl, inr, arith, if◌then◌else◌, append_assoc, length-append, zero-add, count_by, ◌*◌, ◌≢◌, IsTrue}
use Rattle.std.specs.Prelude.{nat_lt, nat_le}
use Rattle.std.specs.List.{flat_map, enumerate_from, range_with_len}
use Rattle.std.proofs.lemmas.Bool.{cases_lt, cond-false, eq-eqb, ne_eqb, lt-ltb, le-ltb, le-leb, lt-leb, and_from, and_left, and_right, cond-true}
use Rattle.std.proofs.lemmas.Bool.Decides.{nat_tests}
use Rattle.std.proofs.lemmas.List.{append-nil, length-replicate, get_or-replicate, get_or_append_left, get_or-append_right, get_or_past}
use Rattle.std.proofs.lemmas.List.Sums.{sum_by-cons, sum_by-append}
use Rattle.std.proofs.lemmas.List.Folds.{sum_by-replicate}
use Rattle.strm_data.specs.declared.class_spec.ClassSpec.{ClassSpec}
use Rattle.strm_data.specs.Classes.{total_of, are_lawful}
use Rattle.strm_data.specs.CountedStore.{IsKept, opening_counted}
use Rattle.strm_data.specs.DataStore.{times, DataBlock, no_data_block, fresh_data_block, numbers_from, no_class_spec}
use Rattle.strm_links.proofs.lists.Counting.{times-range_with_len}

-- the data blocks of classes that are numbered from this one on
abbrev pub blocks_from : ℕ → List ClassSpec → List DataBlock
blocks_from n cs = flat_map (λ p. replicate p.1.count (fresh_data_block p.0 p.1)) (enumerate_from n cs)

pub total_of-cons : (c : ClassSpec) (cs : List ClassSpec) → total_of (c ∷ cs) ≡ c.count + total_of cs
total_of-cons c cs = sum_by-cons (λ (x : ClassSpec). x.count) c cs

pub length-blocks_from : (n : ℕ) (cs : List ClassSpec) → length (blocks_from n cs) ≡ total_of cs
length-blocks_from n [] = refl
length-blocks_from n (c ∷ cs) =
    cc (length-append (replicate c.count (fresh_data_block n c)) (blocks_from (n + 1) cs), length-replicate c.count (fresh_data_block n c), length-blocks_from (n + 1) cs, total_of-cons c cs)

-- ---- one class more

pub blocks_from-push : (n : ℕ) (cs : List ClassSpec) (c : ClassSpec) → blocks_from n (cs ++ c ∷ []) ≡ blocks_from n cs ++ replicate c.count (fresh_data_block (n + length cs) c)
blocks_from-push n [] c = append-nil _ ∙ ap (λ m. replicate c.count (fresh_data_block m c)) (let e : n ≡ n + 0 = omega arith in e)
blocks_from-push n (x ∷ xs) c =
    ap (λ bs. replicate x.count (fresh_data_block n x) ++ bs) (blocks_from-push (n + 1) xs c)
    ∙ ap (λ m. replicate x.count (fresh_data_block n x) ++ (blocks_from (n + 1) xs ++ replicate c.count (fresh_data_block m c))) (let e : n + 1 + length xs ≡ n + length (x ∷ xs) = omega arith in e)
    ∙ sym (append_assoc (replicate x.count (fresh_data_block n x)) (blocks_from (n + 1) xs) (replicate c.count (fresh_data_block (n + length (x ∷ xs)) c)))

pub numbers_from-push : (first : ℕ) (cs : List ClassSpec) (c : ClassSpec) → numbers_from first (cs ++ c ∷ []) ≡ numbers_from first cs ++ range_with_len (first + total_of cs) c.count ∷ []
numbers_from-push first [] c = ap (λ m. range_with_len m c.count ∷ []) (let e : first ≡ first + total_of [] = omega arith in e)
numbers_from-push first (x ∷ xs) c =
    ap (λ ys. range_with_len first x.count ∷ ys) (numbers_from-push (first + x.count) xs c
    ∙ ap (λ m. numbers_from (first + x.count) xs ++ range_with_len m c.count ∷ []) (omega (arith, total_of-cons x xs)))

-- ---- the class of a data block

-- whether e is a data block of class c
abbrev is_of : List DataBlock → ℕ → ℕ → Bool
is_of bs c e = nat_lt e (length bs) && ((get_or bs e no_data_block).class == c)

is_of-left : (xs ys : List DataBlock) (c e : ℕ) → e < length xs → is_of (xs ++ ys) c e ≡ is_of xs c e
is_of-left xs ys c e within =
    λ i. (lt-ltb e (length (xs ++ ys)) (omega (arith, length-append xs ys)) ∙ sym (lt-ltb e (length xs) within)) i && ((get_or_append_left xs ys no_data_block e within i).class == c)

lt_from : (a e n : ℕ) → a ≤ e → nat_lt e (a + n) ≡ nat_lt (e - a) n
lt_from a e n past = grind (arith, nat_tests)

is_of-right : (xs ys : List DataBlock) (n c e : ℕ) → length xs ≡ n → n ≤ e → is_of (xs ++ ys) c e ≡ is_of ys c (e - n)
is_of-right xs ys n c e long past =
    λ i. (ap (nat_lt e) (length-append xs ys ∙ ap (λ m. m + length ys) long) ∙ lt_from n e (length ys) past) i && ((get_or-append_right xs ys n e no_data_block long past i).class == c)

-- the numbers of later classes are greater
numbers_later : (first d : ℕ) (cs : List ClassSpec) (c : ℕ) → d < first → times d (get_or (numbers_from first cs) c []) ≡ 0
numbers_later first d [] c before = refl
numbers_later first d (x ∷ xs) zero before = times-range_with_len d first x.count ∙ cond-false _ 1 0 (and_left _ _ (lt-leb first d before))
numbers_later first d (x ∷ xs) (suc c) before = numbers_later (first + x.count) d xs c (omega arith)

-- the class of a data block among these
classes_within : (n : ℕ) (cs : List ClassSpec) (e : ℕ) → e < length (blocks_from n cs)
    → (n ≤ (get_or (blocks_from n cs) e no_data_block).class) × ((get_or (blocks_from n cs) e no_data_block).class < n + length cs)
classes_within n [] e within = absurd (omega arith)
classes_within n (x ∷ xs) e within =
    let first = replicate x.count (fresh_data_block n x) in
    let rest = blocks_from (n + 1) xs in
    let long : length first ≡ x.count = length-replicate x.count (fresh_data_block n x) in
    elim (cases_lt e x.count) [
      | inl here ↦
          let is : (get_or (first ++ rest) e no_data_block).class ≡ n =
          ap (λ (b : DataBlock). b.class) (get_or_append_left first rest no_data_block e (omega (arith, long)) ∙ get_or-replicate x.count e (fresh_data_block n x) no_data_block here) in
          (omega (arith, is), omega (arith, is))
      | inr past ↦
          let is = ap (λ (b : DataBlock). b.class) (get_or-append_right first rest x.count e no_data_block long past) in
          let later = classes_within (n + 1) xs (e - x.count) (omega (arith, long, length-append first rest)) in
          (omega (arith, is, later.0), omega (arith, is, later.1))
    ]

-- and how many bytes it has
bytes_within : (n : ℕ) (cs : List ClassSpec) (e : ℕ) → e < length (blocks_from n cs)
    → length (get_or (blocks_from n cs) e no_data_block).bytes ≡ (get_or cs ((get_or (blocks_from n cs) e no_data_block).class - n) no_class_spec).size
bytes_within n [] e within = absurd (omega arith)
bytes_within n (x ∷ xs) e within =
    let first = replicate x.count (fresh_data_block n x) in
    let rest = blocks_from (n + 1) xs in
    let long : length first ≡ x.count = length-replicate x.count (fresh_data_block n x) in
    let block = get_or (first ++ rest) e no_data_block in
    elim (cases_lt e x.count) [
      | inl here ↦
          let is : block ≡ fresh_data_block n x =
          cc (get_or_append_left first rest no_data_block e (omega (arith, long)), get_or-replicate x.count e (fresh_data_block n x) no_data_block here) in
          let place : 0 ≡ block.class - n = omega (arith, ap (λ (b : DataBlock). b.class) is) in
          ap (λ (b : DataBlock). length b.bytes) is ∙ length-replicate x.size 0 ∙ ap (λ m. (get_or (x ∷ xs) m no_class_spec).size) place
      | inr past ↦
          let there : e - x.count < length rest = omega (arith, long, length-append first rest) in
          let is = get_or-append_right first rest x.count e no_data_block long past in
          let later = classes_within (n + 1) xs (e - x.count) there in
          let place : suc ((get_or rest (e - x.count) no_data_block).class - (n + 1)) ≡ block.class - n = omega (arith, ap (λ (b : DataBlock). b.class) is, later.0) in
          ap (λ (b : DataBlock). length b.bytes) is ∙ bytes_within (n + 1) xs (e - x.count) there ∙ ap (λ m. (get_or (x ∷ xs) m no_class_spec).size) place
    ]

-- ---- how many data blocks are of a class

-- of the first of these classes
first_counted : (n m : ℕ) (c : ClassSpec) (cs : List ClassSpec)
    → count_by (λ (b : DataBlock). b.class == m) (blocks_from n (c ∷ cs)) ≡ c.count * (if n == m then 1 else 0) + count_by (λ (b : DataBlock). b.class == m) (blocks_from (n + 1) cs)
first_counted n m c cs =
    let one_if : DataBlock → ℕ = λ b. if b.class == m then 1 else 0 in
    cc (sum_by-append one_if (replicate c.count (fresh_data_block n c)) (blocks_from (n + 1) cs), sum_by-replicate one_if c.count (fresh_data_block n c))

-- all of them, or none
first_is : (n m k : ℕ) → n ≡ m → k * (if n == m then 1 else 0) ≡ k
first_is n m k same = ap (λ v. k * v) (cond-true _ 1 0 (eq-eqb n m same)) ∙ omega arith

first_not : (n m k : ℕ) → n ≢ m → k * (if n == m then 1 else 0) ≡ 0
first_not n m k other = ap (λ v. k * v) (cond-false _ 1 0 (ne_eqb n m other)) ∙ omega arith

-- none is of an earlier class
none_before : (n m : ℕ) (cs : List ClassSpec) → m < n → count_by (λ (b : DataBlock). b.class == m) (blocks_from n cs) ≡ 0
none_before n m [] before = refl
none_before n m (c ∷ cs) before =
    omega (arith, first_counted n m c cs, first_not n m c.count (λ is. absurd (omega (arith, is))), none_before (n + 1) m cs (omega arith))

-- each class has as many as it says
blocks_counted : (n : ℕ) (cs : List ClassSpec) (c : ℕ) → count_by (λ (b : DataBlock). b.class == n + c) (blocks_from n cs) ≡ (get_or cs c no_class_spec).count
blocks_counted n [] c = refl
blocks_counted n (x ∷ xs) zero =
    omega (arith, first_counted n (n + zero) x xs, first_is n (n + zero) x.count (omega arith), none_before (n + 1) (n + zero) xs (omega arith))
blocks_counted n (x ∷ xs) (suc c) =
    let class : n + suc c ≡ n + 1 + c = omega arith in
    omega (
      arith,
      first_counted n (n + suc c) x xs,
      first_not n (n + suc c) x.count (λ is. absurd (omega (arith, is))),
      ap (λ m. count_by (λ (b : DataBlock). b.class == m) (blocks_from (n + 1) xs)) class,
      blocks_counted (n + 1) xs c,
    )

-- ---- which data block is in which free list

-- each number is in the list of its data block's class once, and in no other list
numbers_listed : (first n : ℕ) (cs : List ClassSpec) (c e : ℕ) → times (first + e) (get_or (numbers_from first cs) c []) ≡ (if is_of (blocks_from n cs) (n + c) e then 1 else 0)
numbers_listed first n [] c e = sym (cond-false _ 1 0 (and_left _ _ (le-ltb e 0 (omega arith))))
numbers_listed first n (x ∷ xs) zero e =
    let front = replicate x.count (fresh_data_block n x) in
    let rest = blocks_from (n + 1) xs in
    let long : length front ≡ x.count = length-replicate x.count (fresh_data_block n x) in
    times-range_with_len (first + e) first x.count
    ∙ ap (λ b. if b then 1 else 0) (elim (cases_lt e x.count) [
      | inl here ↦
          let class : (get_or front e no_data_block).class ≡ n + 0 = omega (arith, ap (λ (b : DataBlock). b.class) (get_or-replicate x.count e (fresh_data_block n x) no_data_block here)) in
          and_from _ _ (le-leb first (first + e) (omega arith)) (lt-ltb (first + e) (first + x.count) (omega arith))
          ∙ sym (is_of-left front rest (n + 0) e (omega (arith, long)) ∙ and_from _ _ (lt-ltb e (length front) (omega (arith, long))) (eq-eqb _ (n + 0) class))
      | inr past ↦
          and_right (nat_le first (first + e)) _ (le-ltb (first + e) (first + x.count) (omega arith))
          ∙ sym (is_of-right front rest x.count (n + 0) e long past ∙ elim (cases_lt (e - x.count) (length rest)) [
            | inl there ↦ and_right (nat_lt (e - x.count) (length rest)) _ (ne_eqb _ (n + 0) (λ is. absurd (omega (arith, is, (classes_within (n + 1) xs (e - x.count) there).0))))
            | inr behind ↦ and_left _ _ (le-ltb (e - x.count) (length rest) behind)
          ])
    ])
numbers_listed first n (x ∷ xs) (suc c) e =
    let front = replicate x.count (fresh_data_block n x) in
    let rest = blocks_from (n + 1) xs in
    let long : length front ≡ x.count = length-replicate x.count (fresh_data_block n x) in
    elim (cases_lt e x.count) [
      | inl here ↦
          let class : (get_or front e no_data_block).class ≡ n = ap (λ (b : DataBlock). b.class) (get_or-replicate x.count e (fresh_data_block n x) no_data_block here) in
          numbers_later (first + x.count) (first + e) xs c (omega arith)
          ∙ sym (cond-false _ 1 0 (is_of-left front rest (n + suc c) e (omega (arith, long)) ∙ and_right (nat_lt e (length front)) _ (ne_eqb _ (n + suc c) (λ is. absurd (omega (arith, is, class))))))
      | inr past ↦
          let place : first + e ≡ first + x.count + (e - x.count) = omega arith in
          let class : n + 1 + c ≡ n + suc c = omega arith in
          cc (place, numbers_listed (first + x.count) (n + 1) xs c (e - x.count), class, is_of-right front rest x.count (n + suc c) e long past)
    ]

pub length-numbers_from : (first : ℕ) (cs : List ClassSpec) → length (numbers_from first cs) ≡ length cs
length-numbers_from first [] = refl
length-numbers_from first (c ∷ cs) = omega (arith, length-numbers_from (first + c.count) cs)

no_names : (n d : ℕ) → get_or (replicate n zero) d zero ≡ zero
no_names n d = elim (cases_lt d n) [
  | inl within ↦ get_or-replicate n d 0 0 within
  | inr past ↦ get_or_past (replicate n 0) d 0 (omega (arith, length-replicate n zero))
]

and_true : (x y : Bool) → y ≡ true → (x && y) ≡ x
and_true true y is = is
and_true false y is = refl

pub IsKept-opening : (cs : List ClassSpec) → IsTrue (are_lawful cs) → IsKept (opening_counted cs)
IsKept-opening cs lawful =
    let bs = blocks_from 0 cs in
    record {
      lawful = lawful;
      complete = λ c. ap (λ m. count_by (λ (b : DataBlock). b.class == m) bs) (sym (zero-add c)) ∙ blocks_counted 0 cs c;
      lists = length-numbers_from 0 cs;
      counted = length-replicate (length bs) 0;
      classed = λ d within. omega (arith, (classes_within 0 cs d within).1);
      sized = λ d within.
          bytes_within 0 cs d within
          ∙ ap (λ m. (get_or cs m no_class_spec).size) (let e : (get_or bs d no_data_block).class - 0 ≡ (get_or bs d no_data_block).class = omega arith in e);
      few_references = λ d. omega (arith, no_names (length bs) d);
      listed = λ c d.
          ap (λ k. times k (get_or (numbers_from 0 cs) c [])) (sym (zero-add d)) ∙ numbers_listed 0 0 cs c d
          ∙ ap (λ b. if b then 1 else 0) (ap (λ m. is_of bs m d) (zero-add c) ∙ ap (λ b. nat_lt d (length bs) && b) (sym (and_true ((get_or bs d no_data_block).class == c) _ (eq-eqb _ 0 (no_names (length bs) d)))));
    }
