-- A message on a shelf has one shelf, and is there once.
use Rattle.std.proofs.Common.{◌≡◌, ℕ, zero, suc, ◌<◌, ◌≤◌, Bool, true, List, [], ◌∷◌, map, length, get_or, refl, ap, inl, inr, arith}
use Rattle.std.specs.Prelude.{count_by, is_some, nat_lt, if◌then◌else◌}
use Rattle.std.specs.List.{All, flat_map}
use Rattle.std.proofs.lemmas.Bool.{cases_lt, cond-true, le-ltb, lt-ltb, cases_eq, false_from_ne_true, false≢true}
use Rattle.std.proofs.lemmas.List.{get_or_past}
use Rattle.std.proofs.lemmas.List.Sums.{fails_before_first}
use Rattle.strm_links.specs.Rows.{IsApart, has}
use Rattle.strm_links.proofs.lists.OneList.{has_cases}
use Rattle.strm_data.specs.DataStore.{times}
use Rattle.strm_links.proofs.lists.Counting.{times-cons, times_here, times_other}
use Rattle.strm_mblk.specs.Arena.{Arena, IsParted, shelf_at}
use Rattle.strm_mblk.specs.Block.{Message, head_of}
use Rattle.strm_mblk.specs.Shelves.{heads_at, shelf_of, is_on}
use Rattle.strm_mblk.proofs.Lists.{count_adds, one_most}
use Rattle.strm_mblk.proofs.arena.Counts.{blocks_in_adds, times-all, head_counts, number_is}
use Rattle.std.proofs.lemmas.Grind.{common_steps}

module _ (a : Arena) (s h : ℕ) (there : is_on a s h ≡ true) where
  pub shelf_of-there : is_some (shelf_of a h) ≡ true
  shelf_of-there = grind (arith, common_steps, cond-true, lt-ltb, fails_before_first, get_or_past)

-- ---- no head is there twice

-- a number that a list has is counted in it
times_has : (n : ℕ) (xs : List ℕ) → has n xs ≡ true → 0 < times n xs
times_has n [] there = absurd (false≢true there)
times_has n (x ∷ xs) there = grind (arith, common_steps, (times_has n xs), has_cases, times_here, times-cons)

once_apart : (xs : List ℕ) → ((n : ℕ) → times n xs ≤ 1) → IsApart xs
once_apart [] once = tt
once_apart (x ∷ xs) once = (
  false_from_ne_true _ (λ there. absurd (omega (arith, once x, times_here x x xs refl, times_has x xs there))),
  once_apart xs (λ n. omega (arith, once n, times-cons n x xs)),
)

-- a head is the number of a block
heads_count : (ms : List Message) (n : ℕ) → All (λ m. 0 < length m) ms → times n (map head_of ms) ≤ count_by (number_is n) (flat_map (λ m. m) ms)
heads_count [] n some = omega arith
heads_count (m ∷ ms) n some =
    let rest = heads_count ms n (λ k d within. some (suc k) d (omega arith)) in
    let both = (count_adds (number_is n)).both m (flat_map (λ x. x) ms) in
    elim (cases_eq (head_of m) n) [
      | inl same ↦ omega (arith, rest, both, times_here n (head_of m) (map head_of ms) same, head_counts m n (some 0 m (omega arith)) same)
      | inr other ↦ omega (arith, rest, both, times_other n (head_of m) (map head_of ms) other)
    ]

-- the blocks of a shelf are among those on shelves
shelf_count : (shelves : List (List Message)) (s n : ℕ) → count_by (number_is n) (flat_map (λ m. m) (get_or shelves s [])) ≤ count_by (number_is n) (flat_map (flat_map (λ m. m)) shelves)
shelf_count [] s n = omega arith
shelf_count (ms ∷ shelves) zero n = omega (arith, (count_adds (number_is n)).both (flat_map (λ m. m) ms) (flat_map (flat_map (λ m. m)) shelves))
shelf_count (ms ∷ shelves) (suc s) n = grind (arith, common_steps, (shelf_count shelves s n), count_adds, number_is)

-- and no number heads more messages of a shelf than it has blocks
head_once : {a : Arena} → IsParted a → (s n : ℕ) → times n (heads_at a s) ≤ (if nat_lt n (length a.held) then 1 else 0)
head_once {a} parted s n =
    omega (
      arith,
      heads_count (shelf_at a s) n (parted.chains.shelved s),
      shelf_count a.shelves s n,
      blocks_in_adds (count_adds (number_is n)) a,
      parted.chains.once n,
      times-all n a,
    )

pub heads_apart : (a : Arena) → IsParted a → (s : ℕ) → IsApart (heads_at a s)
heads_apart a parted s = once_apart (heads_at a s) (λ n. omega (arith, head_once parted s n, one_most (nat_lt n (length a.held))))

-- a head on a shelf is the number of a block
pub heads_room : (a : Arena) → IsParted a → (s n : ℕ) → has n (heads_at a s) ≡ true → n < length a.held
heads_room a parted s n there =
    elim (cases_lt n (length a.held)) [
      | inl within ↦ within
      | inr past ↦ absurd (omega (arith, times_has n (heads_at a s) there, head_once parted s n, ap {B = ℕ} (λ (b : Bool). if b then 1 else 0) (le-ltb n (length a.held) past)))
    ]
