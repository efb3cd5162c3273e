-- How many entries desks have in all: no more than lines, and fewer where one has fewer.
use Rattle.std.proofs.Common.{◌≡◌, ℕ, zero, suc, ◌+◌, ◌<◌, ◌≤◌, Bool, true, false, List, [], ◌∷◌, length, get_or, refl, sym, ap, ◌∙◌, inl, inr, arith}
use Rattle.std.specs.Prelude.{◌==◌, if◌then◌else◌, sum_by}
use Rattle.std.specs.List.{All}
use Rattle.std.proofs.lemmas.Bool.{cases_eq, cond-false, cond-true, eq-eqb, ne_eqb}
use Rattle.std.proofs.lemmas.List.Elements.{All-head, All-tail}
use Rattle.std.proofs.lemmas.List.Sums.{sum_by-cons}
use Rattle.strm_pool.specs.declared.line.Entry.{Entry}
use Rattle.strm_pool.specs.declared.line.Line.{Line}
use Rattle.strm_shared.specs.Chronicle.{served_from}

-- the sum of the first m values
abbrev total : (ℕ → ℕ) → ℕ → ℕ
total f zero = 0
total f (suc m) = f 0 + total (λ k. f (suc k)) m

total_most : (f g : ℕ → ℕ) (m : ℕ) → ((k : ℕ) → k < m → f k ≤ g k) → total f m ≤ total g m
total_most f g zero most = omega arith
total_most f g (suc m) most = omega (arith, most 0 (omega arith), total_most (λ k. f (suc k)) (λ k. g (suc k)) m (λ k within. most (suc k) (omega (arith, within))))

-- where one value is less
total_less : (f g : ℕ → ℕ) (m j : ℕ) → ((k : ℕ) → k < m → f k ≤ g k) → j < m → f j < g j → total f m < total g m
total_less f g zero j most within less = absurd (omega (arith, within))
total_less f g (suc m) zero most within less = omega (arith, less, total_most (λ k. f (suc k)) (λ k. g (suc k)) m (λ k below. most (suc k) (omega (arith, below))))
total_less f g (suc m) (suc j) most within less =
    omega (arith, most 0 (omega arith), total_less (λ k. f (suc k)) (λ k. g (suc k)) m j (λ k below. most (suc k) (omega (arith, below))) (omega (arith, within)) less)

total_same : (f g : ℕ → ℕ) (m : ℕ) → ((k : ℕ) → f k ≡ g k) → total f m ≡ total g m
total_same f g zero same = refl
total_same f g (suc m) same = omega (arith, same 0, total_same (λ k. f (suc k)) (λ k. g (suc k)) m (λ k. same (suc k)))

total_plus : (f g : ℕ → ℕ) (m : ℕ) → total (λ k. f k + g k) m ≡ total f m + total g m
total_plus f g zero = omega arith
total_plus f g (suc m) = omega (arith, total_plus (λ k. f (suc k)) (λ k. g (suc k)) m)

total_zero : (f : ℕ → ℕ) (m : ℕ) → ((k : ℕ) → f k ≡ 0) → total f m ≡ 0
total_zero f zero none = refl
total_zero f (suc m) none = omega (arith, none 0, total_zero (λ k. f (suc k)) m (λ k. none (suc k)))

-- 1 at this place, and 0 at any other
abbrev one_at : ℕ → ℕ → ℕ
one_at n k = if n == k then 1 else 0

one_here : (n k : ℕ) → n ≡ k → one_at n k ≡ 1
one_here n k same = cond-true {A = ℕ} (n == k) 1 0 (eq-eqb n k same)

one_there : (n k : ℕ) → (n ≡ k → ⊥) → one_at n k ≡ 0
one_there n k other = cond-false {A = ℕ} (n == k) 1 0 (ne_eqb n k other)

one_further : (n k : ℕ) → one_at (suc n) (suc k) ≡ one_at n k
one_further n k = elim (cases_eq n k) [
  | inl same ↦ one_here (suc n) (suc k) (ap suc same) ∙ sym (one_here n k same)
  | inr other ↦ one_there (suc n) (suc k) (λ same. other (omega (arith, same))) ∙ sym (one_there n k other)
]

total_one : (n m : ℕ) → n < m → total (one_at n) m ≡ 1
total_one n zero within = absurd (omega (arith, within))
total_one zero (suc m) within = omega (arith, one_here 0 0 refl, total_zero (λ k. one_at 0 (suc k)) m (λ k. one_there 0 (suc k) (λ same. omega (arith, same))))
total_one (suc n) (suc m) within =
    omega (
      arith,
      one_there (suc n) 0 (λ same. omega (arith, same)),
      total_same (λ k. one_at (suc n) (suc k)) (one_at n) m (one_further n),
      total_one n m (omega (arith, within)),
    )

-- ---- entries

one_more : (s k : ℕ) (e : Entry) (es : List Entry) → length (served_from s k (e ∷ es)) ≡ one_at e.desk k + length (served_from (s + 1) k es)
one_more s k e es = kept (e.desk == k)
  where
    kept : (b : Bool) → length (if b then (s, e) ∷ served_from (s + 1) k es else served_from (s + 1) k es) ≡ (if b then 1 else 0) + length (served_from (s + 1) k es)
    kept true = omega arith
    kept false = omega arith

-- each entry is that of one desk
entries_of_desks : (s : ℕ) (es : List Entry) (m : ℕ) → All (λ e. e.desk < m) es → total (λ k. length (served_from s k es)) m ≡ length es
entries_of_desks s [] m below = total_zero (λ k. 0) m (λ k. refl)
entries_of_desks s (e ∷ es) m below =
    omega (
      arith,
      total_same (λ k. length (served_from s k (e ∷ es))) (λ k. one_at e.desk k + length (served_from (s + 1) k es)) m (λ k. one_more s k e es),
      total_plus (one_at e.desk) (λ k. length (served_from (s + 1) k es)) m,
      total_one e.desk m (All-head (λ (x : Entry). x.desk < m) e es below),
      entries_of_desks (s + 1) es m (All-tail (λ (x : Entry). x.desk < m) e es below),
    )

lines_of_parts : (parts : List (List Line)) → total (λ k. length (get_or parts k [])) (length parts) ≡ sum_by length parts
lines_of_parts [] = refl
lines_of_parts (lines ∷ parts) = omega (arith, lines_of_parts parts, sum_by-cons length lines parts)

-- where no desk has more entries than its part has lines, and one has fewer, there are fewer entries than lines
pub fewer_entries : (s j : ℕ) (parts : List (List Line)) (es : List Entry) → All (λ e. e.desk < length parts) es
    → ((k : ℕ) → k < length parts → length (served_from s k es) ≤ length (get_or parts k [])) → j < length parts → length (served_from s j es) < length (get_or parts j [])
    → length es < sum_by length parts
fewer_entries s j parts es below most within less =
    omega (
      arith,
      entries_of_desks s es (length parts) below,
      lines_of_parts parts,
      total_less (λ k. length (served_from s k es)) (λ k. length (get_or parts k [])) (length parts) j most within less,
    )
