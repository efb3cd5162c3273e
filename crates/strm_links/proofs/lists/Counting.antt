-- How often lists have a number, and chains by their links.
use Rattle.std.proofs.Common.{◌≡◌, ◌≢◌, ℕ, zero, suc, ◌+◌, zero-add, ◌<◌, ◌≤◌, Bool, true, false, not, ◌&&◌, ◌==◌, List, [], ◌∷◌, ◌++◌, length, get_or, drop, take, map, reverse, sum_by, if◌then◌else◌, refl, sym, ap, ◌∙◌, inl, inr, arith, replicate, set, Option, Some, None, IsSome, length-set, get_or-set_same, get_or-set_other}
use Rattle.std.specs.Prelude.{nat_lt, nat_le}
use Rattle.std.specs.List.{range_with_len}
use Rattle.std.proofs.lemmas.Bool.{cases_Bool, cases_eq, cond-true, cond-false, eq-eqb, ne_eqb, false≢true, false_from_ne_true, le-ltb, cases_lt}
use Rattle.std.proofs.lemmas.Bool.Decides.{nat_tests}
use Rattle.std.proofs.lemmas.List.{drop-drop, reverse-append, take-append-drop}
use Rattle.std.proofs.lemmas.List.FromFn.{sum_by-map-range_with_len_more}
use Rattle.std.proofs.lemmas.List.Filters.{length-filter_both}
use Rattle.std.proofs.lemmas.List.Sums.{length-filter, sum_by-cons, sum_by-append}
use Rattle.strm_links.specs.Rows.{has, IsApart, without}
use Rattle.strm_links.specs.Counting.{times}
use Rattle.strm_links.specs.Chains.{items_of, chain_in, items_in}
use Rattle.strm_links.proofs.lists.OneList.{absent_parts}

-- ---- how often a number is in a list, and what the counts say of the list. Callers cite these lemmas too

-- ---- a list made longer

pub times-cons : (n x : ℕ) (xs : List ℕ) → times n (x ∷ xs) ≡ (if x == n then 1 else 0) + times n xs
times-cons n x xs = sum_by-cons (λ y. if y == n then 1 else 0) x xs

pub times-append : (n : ℕ) (xs ys : List ℕ) → times n (xs ++ ys) ≡ times n xs + times n ys
times-append n xs ys = sum_by-append (λ y. if y == n then 1 else 0) xs ys

-- a list is its first item, the next n items, and the others
pub split_behind : (xs : List ℕ) (n : ℕ) → xs ≡ take 1 xs ++ (take n (drop 1 xs) ++ drop (n + 1) xs)
split_behind xs n =
    let one_more : 1 + n ≡ n + 1 = omega arith in
    sym (take-append-drop 1 xs) ∙ ap (λ ys. take 1 xs ++ ys) (sym (take-append-drop n (drop 1 xs)) ∙ ap (λ ys. take n (drop 1 xs) ++ ys) (drop-drop n 1 xs ∙ ap (λ k. drop k xs) one_more))

-- a part of a list has a number at most as often as the list
pub times-take : (n k : ℕ) (xs : List ℕ) → times n (take k xs) ≤ times n xs
times-take n k xs = omega (arith, times-append n (take k xs) (drop k xs), ap (times n) (take-append-drop k xs))

pub times-drop : (n k : ℕ) (xs : List ℕ) → times n (drop k xs) ≤ times n xs
times-drop n k xs = omega (arith, times-append n (take k xs) (drop k xs), ap (times n) (take-append-drop k xs))

pub times_here : (n x : ℕ) (xs : List ℕ) → x ≡ n → times n (x ∷ xs) ≡ 1 + times n xs
times_here n x xs same = times-cons n x xs ∙ ap (λ m. m + times n xs) (cond-true _ 1 0 (eq-eqb x n same))

pub times_other : (n x : ℕ) (xs : List ℕ) → x ≢ n → times n (x ∷ xs) ≡ times n xs
times_other n x xs other = times-cons n x xs ∙ ap (λ m. m + times n xs) (cond-false _ 1 0 (ne_eqb x n other)) ∙ zero-add (times n xs)

pub times-reverse : (n : ℕ) (xs : List ℕ) → times n (reverse xs) ≡ times n xs
times-reverse n [] = refl
times-reverse n (x ∷ xs) = grind (arith, reverse-append (x ∷ []) xs, times-append n (reverse xs) (x ∷ []), times-reverse n xs, times-append n (x ∷ []) xs)

-- the first item, and the others
pub times_first : (n : ℕ) (xs : List ℕ) → 0 < length xs → times n xs ≡ (if get_or xs 0 0 == n then 1 else 0) + times n (drop 1 xs)
times_first n [] some = absurd (omega arith)
times_first n (x ∷ xs) some = times-cons n x xs

pub times_rest_same : (n : ℕ) (xs : List ℕ) → 0 < length xs → get_or xs 0 0 ≡ n → times n xs ≡ 1 + times n (drop 1 xs)
times_rest_same n xs some same = grind (arith, nat_tests, times_first n xs some, same)

pub times_rest_other : (n : ℕ) (xs : List ℕ) → 0 < length xs → get_or xs 0 0 ≢ n → times n (drop 1 xs) ≡ times n xs
times_rest_other n xs some other = grind (arith, nat_tests, times_first n xs some, other)

-- the item at a place is in the list
pub times_some : (xs : List ℕ) (k : ℕ) → k < length xs → 0 < times (get_or xs k 0) xs
times_some [] k within = absurd (omega arith)
times_some (x ∷ xs) zero within = omega (arith, times_here x x xs refl)
times_some (x ∷ xs) (suc k) within = omega (arith, times_some xs k (omega arith), times-cons (get_or xs k 0) x xs)

-- ---- what is in a list

-- a number that is not in the list counts 0
pub times_absent : (n : ℕ) (xs : List ℕ) → has n xs ≡ false → times n xs ≡ 0
times_absent n [] absent = refl
times_absent n (x ∷ xs) absent = let off = absent_parts x n xs absent in times_other n x xs off.0 ∙ times_absent n xs off.1

-- a number that is in the list counts at least 1
pub times_has : (n : ℕ) (xs : List ℕ) → has n xs ≡ true → 0 < times n xs
times_has n [] there = absurd (false≢true there)
times_has n (x ∷ xs) there = grind (arith, nat_tests, times-cons n x xs, times_has n xs)

-- a number that counts at least 1 is in the list
pub has_times : (n : ℕ) (xs : List ℕ) → 0 < times n xs → has n xs ≡ true
has_times n xs some = elim (cases_Bool (has n xs)) [ inl there ↦ there | inr absent ↦ absurd (omega (arith, some, times_absent n xs absent)) ]

-- a number that counts 0 is not in the list
pub absent : (n : ℕ) (xs : List ℕ) → times n xs ≡ 0 → has n xs ≡ false
absent n xs none = false_from_ne_true _ (λ there. absurd (omega (arith, none, times_has n xs there)))

-- ---- lists that have each number once at most

-- if every count is at most 1, no number is in the list twice
pub apart_once : (xs : List ℕ) → ((k : ℕ) → times k xs ≤ 1) → IsApart xs
apart_once [] once = tt
apart_once (x ∷ xs) once = (
  absent x xs (omega (arith, once x, times_here x x xs refl)),
  apart_once xs (λ k. omega (arith, once k, times-cons k x xs)),
)

-- ---- the numbers from one on

-- 1 for true, 0 for false
abbrev pub one_if : Bool → ℕ
one_if b = if b then 1 else 0

more_of_range : (k a n : ℕ) → one_if (a == k) + one_if (nat_le (a + 1) k && nat_lt k (a + 1 + n)) ≡ one_if (nat_le a k && nat_lt k (a + suc n))
more_of_range k a n = grind (arith, nat_tests)

none_of_range : (k a : ℕ) → one_if (nat_le a k && nat_lt k (a + zero)) ≡ zero
none_of_range k a = grind (arith, nat_tests)

pub times-range_with_len : (k a n : ℕ) → times k (range_with_len a n) ≡ (if nat_le a k && nat_lt k (a + n) then 1 else 0)
times-range_with_len k a zero = sym (none_of_range k a)
times-range_with_len k a (suc n) =
    times-cons k a (range_with_len (a + 1) n) ∙ ap (λ m. (if a == k then 1 else 0) + m) (times-range_with_len k (a + 1) n)
    ∙ more_of_range k a n

from_zero : (k n : ℕ) → one_if (nat_le 0 k && nat_lt k (0 + n)) ≡ one_if (nat_lt k n)
from_zero k n = grind (arith, nat_tests)

-- each number below n is once among the numbers from 0 to n - 1
pub times_below : (k n : ℕ) → times k (range_with_len 0 n) ≡ (if nat_lt k n then 1 else 0)
times_below k n = times-range_with_len k 0 n ∙ from_zero k n

-- ---- how long a list of numbers below a bound is

length-without : (n : ℕ) (xs : List ℕ) → times n xs + length (without n xs) ≡ length xs
length-without n xs =
    ap (λ m. m + length (without n xs)) (sym (length-filter (λ x. x == n) xs)) ∙ length-filter_both (λ x. x == n) (λ x. not (x == n)) (λ x. refl) xs

times-without_same : (n : ℕ) (xs : List ℕ) → times n (without n xs) ≡ 0
times-without_same n [] = refl
times-without_same n (x ∷ xs) = grind (arith, nat_tests, times-cons n x (without n xs), times-without_same n xs)

times-without_other : (k n : ℕ) (xs : List ℕ) → k ≢ n → times k (without n xs) ≡ times k xs
times-without_other k n [] differs = refl
times-without_other k n (x ∷ xs) differs = grind (arith, nat_tests, times-cons k x xs, times-cons k x (without n xs), times-without_other k n xs)

-- if each number below n counts at most `most`, the list is no longer than the sum of these bounds
pub few_of : {X : Type 0} (most : X → ℕ) (f : ℕ → X) (n : ℕ) (xs : List ℕ) → ((k : ℕ) → times k xs ≤ most (f k)) → ((k : ℕ) → 0 < times k xs → k < n)
    → length xs ≤ sum_by most (map f (range_with_len 0 n))
few_of most f zero [] each below = omega arith
few_of most f zero (x ∷ xs) each below = absurd (omega (arith, below x (omega (arith, times_here x x xs refl))))
few_of most f (suc n) xs each below =
    let fewer = few_of most f n (without n xs)
    (λ k. grind (arith, nat_tests, times-without_same n xs, times-without_other k n xs, each k))
    (λ k some. elim (cases_eq k n) [
      | inl same ↦ absurd (omega (arith, ap (λ j. times j (without n xs)) same, times-without_same n xs))
      | inr other ↦ omega (arith, below k (omega (arith, times-without_other k n xs other)))
    ]) in
    let more : sum_by most (map f (range_with_len 0 (suc n))) ≡ sum_by most (map f (range_with_len 0 n)) + most (f n) =
    ap (λ m. sum_by most (map f (range_with_len 0 m))) (let e : suc n ≡ n + 1 = omega arith in e)
    ∙ sum_by-map-range_with_len_more most f 0 n n (zero-add n) in
    omega (arith, fewer, each n, length-without n xs, more)

-- a list with each number below n once, and no other, has n items
pub as_many : (n : ℕ) (xs : List ℕ) → ((k : ℕ) → times k xs ≡ (if nat_lt k n then 1 else 0)) → length xs ≡ n
as_many zero [] each = refl
as_many zero (x ∷ xs) each = absurd (omega (arith, each x ∙ cond-false _ 1 0 (le-ltb x 0 (omega arith)), times_here x x xs refl))
as_many (suc n) xs each =
    let fewer = as_many n (without n xs) (λ k. grind (arith, nat_tests, times-without_same n xs, times-without_other k n xs, each k)) in
    grind (arith, nat_tests, fewer, each n, length-without n xs)

-- ---- chains of which one or two change, and how often a number is in them

-- ---- in one or two of them

pub times_one : (k h : ℕ) (chains : List (Option (List ℕ))) → times k (items_of (chain_in chains h)) ≤ times k (items_in chains)
times_one k h [] = omega arith
times_one k zero (m ∷ chains) = omega (arith, times-append k (items_of m) (items_in chains))
times_one k (suc h) (m ∷ chains) = omega (arith, times-append k (items_of m) (items_in chains), times_one k h chains)

pub times_two : (k g h : ℕ) (chains : List (Option (List ℕ))) → g ≢ h → times k (items_of (chain_in chains g)) + times k (items_of (chain_in chains h)) ≤ times k (items_in chains)
times_two k g h [] other = omega arith
times_two k zero zero (m ∷ chains) other = absurd (other refl)
times_two k zero (suc h) (m ∷ chains) other = omega (arith, times-append k (items_of m) (items_in chains), times_one k h chains)
times_two k (suc g) zero (m ∷ chains) other = omega (arith, times-append k (items_of m) (items_in chains), times_one k g chains)
times_two k (suc g) (suc h) (m ∷ chains) other = omega (arith, times-append k (items_of m) (items_in chains), times_two k g h chains (λ same. other (ap suc same)))

-- a number in all chains together is in one of them
pub some_chain : (k : ℕ) (chains : List (Option (List ℕ))) → 0 < times k (items_in chains) → (h : ℕ) × (has k (items_of (chain_in chains h)) ≡ true)
some_chain k [] some = absurd (omega (arith, some))
some_chain k (m ∷ chains) some =
    elim (cases_lt 0 (times k (items_of m))) [
      | inl here ↦ (0, has_times k (items_of m) here)
      | inr none ↦ let later = some_chain k chains (omega (arith, some, none, times-append k (items_of m) (items_in chains))) in (suc later.0, later.1)
    ]

-- a chain that has an item is there
pub is_there : (m : Option (List ℕ)) (k : ℕ) → k < length (items_of m) → IsSome m
is_there None k within = absurd (omega (arith, within))
is_there (Some xs) k within = refl

-- no chain, no item
pub items_none : (n : ℕ) → items_in {X = ℕ} (replicate n None) ≡ []
items_none zero = refl
items_none (suc n) = items_none n

-- ---- a change

pub times-set : (k h : ℕ) (m : Option (List ℕ)) (chains : List (Option (List ℕ))) → h < length chains
    → times k (items_in (set chains h m)) + times k (items_of (chain_in chains h)) ≡ times k (items_in chains) + times k (items_of m)
times-set k h m [] within = absurd (omega arith)
times-set k zero m (o ∷ chains) within = omega (arith, times-append k (items_of m) (items_in chains), times-append k (items_of o) (items_in chains))
times-set k (suc h) m (o ∷ chains) within =
    omega (arith, times-append k (items_of o) (items_in (set chains h m)), times-append k (items_of o) (items_in chains), times-set k h m chains (omega arith))

-- after the change the chain at a is `m`, the one at b is `o`, and the others are as before
pub record Changes (old new : List (Option (List ℕ))) (a b : ℕ) (m o : Option (List ℕ)) : Type 0 where
  pub long : length new ≡ length old
  pub here : chain_in new a ≡ m
  pub there : chain_in new b ≡ o
  pub others : (g : ℕ) → g ≢ a → g ≢ b → chain_in new g ≡ chain_in old g

pub Changes-one : (chains : List (Option (List ℕ))) (a : ℕ) (m : Option (List ℕ)) → a < length chains → Changes chains (set chains a m) a a m m
Changes-one chains a m within = record {
  long = length-set chains a m;
  here = get_or-set_same chains a m None within;
  there = get_or-set_same chains a m None within;
  others = λ g other _. get_or-set_other chains a g m None other;
}

pub Changes-two : (chains : List (Option (List ℕ))) (a b : ℕ) (m o : Option (List ℕ)) → a ≢ b → a < length chains → b < length chains → Changes chains (set (set chains a m) b o) a b m o
Changes-two chains a b m o other within_a within_b = record {
  long = length-set (set chains a m) b o ∙ length-set chains a m;
  here = get_or-set_other (set chains a m) b a o None other ∙ get_or-set_same chains a m None within_a;
  there = get_or-set_same (set chains a m) b o None (omega (arith, length-set chains a m, within_b));
  others = λ g off_a off_b. get_or-set_other (set chains a m) b g o None off_b ∙ get_or-set_other chains a g m None off_a;
}

pub times-set_two : (k a b : ℕ) (m o : Option (List ℕ)) (chains : List (Option (List ℕ))) → a ≢ b → a < length chains → b < length chains
    → times k (items_in (set (set chains a m) b o)) + (times k (items_of (chain_in chains a)) + times k (items_of (chain_in chains b)))
    ≡ times k (items_in chains) + (times k (items_of m) + times k (items_of o))
times-set_two k a b m o chains other within_a within_b =
    omega (
      arith,
      times-set k a m chains within_a,
      times-set k b o (set chains a m) (omega (arith, length-set chains a m, within_b)),
      ap (λ c. times k (items_of c)) (get_or-set_other chains a b m None (λ same. other (sym same))),
    )
