-- The registers of all desks have as many blocks as the pool has held ones, and a call changes both numbers alike.
use Rattle.std.proofs.Common.{◌≡◌, ℕ, suc, ◌+◌, ◌<◌, true, false, ◌&&◌, ◌==◌, List, [], ◌∷◌, length, Option, Some, None, refl, sym, ap, ◌∙◌, inl, inr, arith, get_or-set_same, get_or-set_other}
use Rattle.std.specs.Prelude.{count_by, slice_index_or, slice_set}
use Rattle.std.specs.List.{flat_map}
use Rattle.std.proofs.lemmas.Bool.{cases_Bool, cases_eq, cases_lt, and_from, eqb-true, eq-eqb, ne_eqb, false≢true}
use Rattle.std.proofs.lemmas.List.{get_or_past}
use Rattle.std.proofs.lemmas.List.Sums.{sum_by-cons}
use Rattle.strm_links.proofs.lists.Counting.{one_if}
use Rattle.strm_mblk.specs.Block.{Message}
use Rattle.strm_mblk.specs.Messages.{blocks_of, held_in}
use Rattle.strm_mblk.specs.Arena.{Arena, census_of, is_of_length}
use Rattle.strm_mblk.proofs.Lists.{flat_map-set_adds, length_adds, sum_adds}
use Rattle.strm_pool.specs.Registers.{AreAccounted, Entries, is_entry_of}
use Rattle.strm_shared.specs.Ledger.{blocks_listed, entry_blocks}

-- the entries have each of these messages once, with its number of blocks, and nothing else
abbrev AreTold : Entries → List (Option Message) → Type 0
AreTold es held = (h n : ℕ) → count_by (is_entry_of h n) es ≡ one_if (is_of_length n (held_in held h))

-- ---- where the entries have no message, none is held

none_in : (held : List (Option Message)) → ((h : ℕ) → held_in held h ≡ None) → length (flat_map blocks_of held) ≡ 0
none_in [] none = refl
none_in (None ∷ held) none = none_in held (λ h. none (suc h))
none_in (Some m ∷ held) none = let bad : Some m ≡ None = none 0 in absurd cc

untold : (held : List (Option Message)) → AreTold [] held → (h : ℕ) → held_in held h ≡ None
untold held told h = at (held_in held h) refl
  where
    at : (o : Option Message) → held_in held h ≡ o → held_in held h ≡ None
    at None is = is
    at (Some m) is =
        absurd (omega (arith, told h (length m), ap (λ o. one_if (is_of_length (length m) o)) is, ap one_if (eq-eqb (length m) (length m) refl)))

-- ---- a message in the entries, and the others

module _ (e : ℕ × ℕ) (es : Entries) (held : List (Option Message)) (told : AreTold (Some e ∷ es) held) where
  more : (h n : ℕ) → count_by (is_entry_of h n) (Some e ∷ es) ≡ one_if (is_entry_of h n (Some e)) + count_by (is_entry_of h n) es
  more h n = sum_by-cons (λ o. one_if (is_entry_of h n o)) (Some e) es

  -- it is held
  is_told : is_of_length e.1 (held_in held e.0) ≡ true
  is_told =
      elim (cases_Bool (is_of_length e.1 (held_in held e.0))) [
        | inl is ↦ is
        | inr not ↦
            let here : is_entry_of e.0 e.1 (Some e) ≡ true = and_from _ _ (eq-eqb e.0 e.0 refl) (eq-eqb e.1 e.1 refl) in
            absurd (omega (arith, more e.0 e.1, told e.0 e.1, ap one_if not, ap one_if here))
      ]

  -- with that number of blocks
  long : length (blocks_of (held_in held e.0)) ≡ e.1
  long = at (held_in held e.0) is_told
    where
      at : (o : Option Message) → is_of_length e.1 o ≡ true → length (blocks_of o) ≡ e.1
      at None is = absurd (false≢true is)
      at (Some m) is = eqb-true (length m) e.1 is

  within : e.0 < length held
  within =
      elim (cases_lt e.0 (length held)) [
        | inl below ↦ below
        | inr beyond ↦ absurd (false≢true (sym (ap (is_of_length e.1) (get_or_past held e.0 None beyond)) ∙ is_told))
      ]

  -- in as many blocks as the entry says
  alike : (n : ℕ) → is_of_length n (held_in held e.0) ≡ is_entry_of e.0 n (Some e)
  alike n = at (held_in held e.0) is_told
    where
      at : (o : Option Message) → is_of_length e.1 o ≡ true → is_of_length n o ≡ is_entry_of e.0 n (Some e)
      at None is = absurd (false≢true is)
      at (Some m) is = ap (λ k. k == n) (eqb-true (length m) e.1 is) ∙ sym (ap (λ b. b && e.1 == n) (eq-eqb e.0 e.0 refl))

  -- the other entries have the other messages
  others : AreTold es (slice_set held e.0 None)
  others h n =
      elim (cases_eq h e.0) [
        | inl same ↦
            let once : count_by (is_entry_of e.0 n) es ≡ 0 = omega (arith, more e.0 n, told e.0 n, ap one_if (alike n)) in
            let gone : held_in (slice_set held e.0 None) e.0 ≡ None = get_or-set_same held e.0 None None within in
            cc (same, once, gone)
        | inr other ↦
            let apart : is_entry_of h n (Some e) ≡ false = ap (λ b. b && e.1 == n) (ne_eqb e.0 h (λ same. other (sym same))) in
            let there : held_in (slice_set held e.0 None) h ≡ held_in held h = get_or-set_other held e.0 h None None other in
            omega (arith, more h n, told h n, ap one_if apart, ap (λ o. one_if (is_of_length n o)) there)
      ]

-- so the entries have as many blocks as are held
told_at : (es : Entries) (held : List (Option Message)) → AreTold es held → blocks_listed es ≡ length (flat_map blocks_of held)
told_at [] held told = sym (none_in held (untold held told))
told_at (None ∷ es) held told =
    omega (arith, sum_by-cons entry_blocks None es, told_at es held (λ h n. omega (arith, sum_by-cons (λ o. one_if (is_entry_of h n o)) None es, told h n)))
told_at (Some e ∷ es) held told =
    omega (
      arith,
      sum_by-cons entry_blocks (Some e) es,
      told_at es (slice_set held e.0 None) (others e es held told),
      flat_map-set_adds length_adds blocks_of held e.0 None None (within e es held told),
      long e es held told,
    )

-- The blocks of which the registers of all desks tell are those that are held.
pub told_by_registers : (a : Arena) (desks : List Entries) → AreAccounted a desks → blocks_listed (flat_map (λ es. es) desks) ≡ (census_of a).held
told_by_registers a desks accounted = told_at (flat_map (λ es. es) desks) a.held accounted

-- What is held moves by what one desk's registers tell, where all desks are accounted for before and after.
pub held_moves : (a b : Arena) (desks : List Entries) (desk : ℕ) (es fs : Entries) → desk < length desks → slice_index_or desks desk [] ≡ es
    → AreAccounted a desks → AreAccounted b (slice_set desks desk fs) → (census_of b).held + blocks_listed es ≡ (census_of a).held + blocks_listed fs
held_moves a b desks desk es fs within is before after =
    omega (
      arith,
      told_by_registers a desks before,
      told_by_registers b (slice_set desks desk fs) after,
      flat_map-set_adds (sum_adds entry_blocks) (λ es. es) desks desk fs [] within,
      ap blocks_listed is,
    )
