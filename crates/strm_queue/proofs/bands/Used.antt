-- Bits of bands, and the bands that are used.
use Rattle.std.proofs.Common.{◌≡◌, ℕ, zero, suc, ◌+◌, ◌-◌, ◌*◌, ◌/◌, ◌%◌, ◌^◌, ◌<◌, ◌≤◌, pow-suc, w64, inl, inr, sym, ap, ◌∙◌, arith, Bool, false, List, length, get_or, set, Option, None}
use Rattle.std.specs.Int.{Width, bit_at, leading_zeros, trailing_zeros}
use Rattle.std.proofs.lemmas.Bool.{cases_lt}
use Rattle.std.proofs.lemmas.Nat.{leading_top, mod_below, pow_pos, shr-shr, shr_high, shr_le, shr_split}
use Rattle.std.proofs.lemmas.Nat.Bits.{bit_at-trailing_zeros, bit_at-zero, bit_at_above, bit_at_cat_high, bit_at_cat_low}
use Rattle.std.specs.Prelude.{is_some}
use Rattle.std.proofs.lemmas.List.{get_or-set_other, get_or-set_same, set-get_or, set-set, set_comm, set_past}
use mir.Val.{bits}
use Rattle.strm_queue.specs.BandSets.{IsHighestTo, IsLowestFrom}
use Rattle.strm_queue.specs.Flow.{bands_where}
use Rattle.strm_queue.proofs.bands.Bands.{has_band_where}
use Rattle.std.proofs.lemmas.Grind.{common_steps}

-- ---- bits of shifted numbers, and the lowest and the highest 1 of a number

-- ---- shifts

-- the bits of `n >> k` are those of n from k on
bit_at_shr : (n k i : ℕ) → bit_at (n / 2 ^ k) i ≡ bit_at n (k + i)
bit_at_shr n k i = ap (λ x. x % 2) (shr-shr n k i)

-- the low bits are those of the rest
bit_at_mod : (n k i : ℕ) → i < k → bit_at (n % 2 ^ k) i ≡ bit_at n i
bit_at_mod n k i low = sym (bit_at_cat_low (n / 2 ^ k) k (n % 2 ^ k) i low) ∙ ap (λ x. bit_at x i) (shr_split n k)

module _ (w : Width) (n k : ℕ) where
  -- the bits of `n << k` from k on are those of n
  bit_at_shl : (i : ℕ) → i + k < bits w → bit_at (n * 2 ^ k % 2 ^ bits w) (i + k) ≡ bit_at n i
  bit_at_shl i within =
      let all : n * 2 ^ k ≡ n * 2 ^ k + 0 = omega arith in
      let place : i + k - k ≡ i = omega arith in
      bit_at_mod (n * 2 ^ k) (bits w) (i + k) within ∙ ap (λ x. bit_at x (i + k)) all ∙ bit_at_cat_high n k 0 (i + k) (pow_pos k) (omega arith) ∙ ap (bit_at n) place

  -- and those before are 0
  bit_at_shl_below : (i : ℕ) → i < k → i < bits w → bit_at (n * 2 ^ k % 2 ^ bits w) i ≡ 0
  bit_at_shl_below i below within =
      let all : n * 2 ^ k ≡ n * 2 ^ k + 0 = omega arith in
      bit_at_mod (n * 2 ^ k) (bits w) i within ∙ ap (λ x. bit_at x i) all ∙ bit_at_cat_low n k 0 i below ∙ bit_at-zero i

-- ---- the highest 1

-- `leading_zeros` of a number that is not 0 is the distance of its highest 1 from the last bit
bit_at-leading_zeros : (w : Width) (n : ℕ) → 0 < n → n < 2 ^ bits w
    → (j : ℕ) × (leading_zeros w n + suc j ≡ bits w) × (bit_at n j ≡ 1) × ((i : ℕ) → j < i → bit_at n i ≡ 0)
bit_at-leading_zeros w n some fits =
    let top = leading_top (bits w) n some fits in
    let j = top.0 in
    let split : n ≡ 1 * 2 ^ j + (n - 2 ^ j) = omega (arith, top.2) in
    let rest : n - 2 ^ j < 2 ^ j = omega (arith, top.3, pow-suc 2 j) in
    let one : n / 2 ^ j ≡ 1 = ap (λ x. x / 2 ^ j) split ∙ shr_high 1 j (n - 2 ^ j) rest in
    (j, top.1, ap (λ x. x % 2) one, λ i above. bit_at_above n (suc j) i top.3 (omega (arith, above)))

-- ---- of the bits of a word from a place on, or up to a place

module _ (word place : ℕ) where
  -- if the rest is 0, no bit is set
  pub none_from : word / 2 ^ place ≡ 0 → (i : ℕ) → place ≤ i → bit_at word i ≡ 0
  none_from nothing i from =
      let is : i ≡ place + (i - place) = omega (arith, from) in
      ap (bit_at word) is ∙ sym (bit_at_shr word place (i - place)) ∙ ap (λ x. bit_at x (i - place)) nothing ∙ bit_at-zero (i - place)

  -- else the lowest 1 is where the rest has it
  pub lowest_of : word < 2 ^ 64 → 0 < word / 2 ^ place → (found : ℕ) → found ≡ place + trailing_zeros w64 (word / 2 ^ place)
      → IsLowestFrom word place found
  lowest_of fits some found is = (omega (arith, is), below, set, before)
    where
      rest : ℕ
      rest = word / 2 ^ place

      lowest : (trailing_zeros w64 rest < 64) × (bit_at rest (trailing_zeros w64 rest) ≡ 1) × ((i : ℕ) → i < trailing_zeros w64 rest → bit_at rest i ≡ 0)
      lowest = bit_at-trailing_zeros w64 rest some (omega (arith, fits, shr_le word place))

      set : bit_at word found ≡ 1
      set = ap (bit_at word) is ∙ sym (bit_at_shr word place (trailing_zeros w64 rest)) ∙ lowest.1

      below : found < 64
      below =
          elim (cases_lt found 64) [
            | inl less ↦ less
            | inr past ↦ absurd (omega (arith, set, bit_at_above word 64 found fits past))
          ]

      before : (i : ℕ) → place ≤ i → i < found → bit_at word i ≡ 0
      before i from less =
          let at : i ≡ place + (i - place) = omega (arith, from) in
          ap (bit_at word) at ∙ sym (bit_at_shr word place (i - place)) ∙ lowest.2 (i - place) (omega (arith, is, from, less))

  module _ (within : place < 64) where
    -- what is left of a word up to this place, at its high end
    abbrev pub left_up_to : ℕ
    left_up_to = word * 2 ^ (63 - place) % 2 ^ 64

    bit_of : (i : ℕ) → i ≤ place → bit_at word i ≡ bit_at left_up_to (i + (63 - place))
    bit_of i to = sym (bit_at_shl w64 word (63 - place) i (omega (arith, within, to)))

    -- if the rest is 0, no bit is set
    pub none_up_to : left_up_to ≡ 0 → (i : ℕ) → i ≤ place → bit_at word i ≡ 0
    none_up_to nothing i to = bit_of i to ∙ ap (λ x. bit_at x (i + (63 - place))) nothing ∙ bit_at-zero (i + (63 - place))

    module _ (some : 0 < left_up_to) where
      highest : (j : ℕ) × (leading_zeros w64 left_up_to + suc j ≡ 64) × (bit_at left_up_to j ≡ 1) × ((i : ℕ) → j < i → bit_at left_up_to i ≡ 0)
      highest = bit_at-leading_zeros w64 left_up_to some (mod_below (word * 2 ^ (63 - place)) (2 ^ 64) (pow_pos 64))

      -- else there are no more zeros above than places
      pub zeros_up_to : leading_zeros w64 left_up_to ≤ place
      zeros_up_to =
          elim (cases_lt highest.0 (63 - place)) [
            | inl below ↦
                absurd (omega (arith, highest.2, bit_at_shl_below w64 word (63 - place) highest.0 below (omega (arith, below))))
            | inr from ↦ omega (arith, within, from, highest.1)
          ]

      -- and the highest 1 is where the rest has it
      pub highest_of : (found : ℕ) → found ≡ place - leading_zeros w64 left_up_to
          → IsHighestTo word place found
      highest_of found is = grind (arith, common_steps, highest, zeros_up_to, bit_of)

-- ---- the ranks that have messages: a set of bands, of which band 0 is left out, since the first message of that rank says it

-- no band of an empty tally has messages
pub used_none : set (bands_where (λ band. false)) 0 false ≡ bands_where (λ band. false)
used_none = ap (set (bands_where (λ band. false)) 0) (sym (has_band_where (λ band. false) 0 (omega arith))) ∙ set-get_or (bands_where (λ band. false)) 0 false

module _ (firsts : List (Option ℕ)) (used : List Bool) where
  -- the set with band 0
  abbrev pub whole : List Bool
  whole = set used 0 (is_some (get_or firsts 0 None))

  -- rank 0 gets another first message
  pub used_zero : (first : Option ℕ) → 0 < length firsts → set used 0 (is_some (get_or (set firsts 0 first) 0 None)) ≡ set whole 0 (is_some first)
  used_zero first some = ap (λ o. set used 0 (is_some o)) (get_or-set_same firsts 0 first None some) ∙ sym (set-set used 0 (is_some (get_or firsts 0 None)) (is_some first))

  -- a rank above 0 gets another first message and another mark
  pub used_above : (r : ℕ) (first : Option ℕ) (so : Bool) → 0 < r → set (set used r so) 0 (is_some (get_or (set firsts r first) 0 None)) ≡ set whole r so
  used_above r first so some =
      ap (λ o. set (set used r so) 0 (is_some o)) (get_or-set_other firsts r 0 first None (λ same. omega (arith, some, same)))
      ∙ set_comm used r 0 so (is_some (get_or firsts 0 None)) (λ same. omega (arith, some, same))

  -- a rank keeps a first message
  pub used_still : (r : ℕ) (first : Option ℕ) → r < length firsts → is_some (get_or firsts r None) ≡ is_some first → set used 0 (is_some (get_or (set firsts r first) 0 None)) ≡ whole
  used_still zero first within same = ap (λ o. set used 0 (is_some o)) (get_or-set_same firsts 0 first None within) ∙ ap (set used 0) (sym same)
  used_still (suc r) first within same = ap (λ o. set used 0 (is_some o)) (get_or-set_other firsts (suc r) 0 first None (λ same. omega (arith, same)))

-- a mark that is set as it was
pub set_still : (marks : List Bool) (r : ℕ) (so : Bool) → (r < length marks → get_or marks r false ≡ so) → set marks r so ≡ marks
set_still marks r so is =
    elim (cases_lt r (length marks)) [
      | inl there ↦ ap (set marks r) (sym (is there)) ∙ set-get_or marks r false
      | inr past ↦ set_past marks r so past
    ]
