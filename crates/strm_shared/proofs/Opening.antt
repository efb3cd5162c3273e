-- A pool that is to be shared, and its new desks.
use Rattle.std.proofs.Common.{◌≡◌, ℕ, zero, suc, ◌+◌, ◌≤◌, false, not, ◌&&◌, ◌||◌, ◌∙◌, List, [], ◌∷◌, ◌++◌, None, Some, length, replicate, refl, ap, arith, subst, sym}
use Rattle.std.specs.Prelude.{nat_le, nat_lt}
use Rattle.std.proofs.lemmas.Bool.{and_parts, leb-true, ltb-false, not-false, or_parts}
use Rattle.std.proofs.lemmas.List.{length_push}
use Rattle.atomic_table.specs.declared.shared.Seat.{Seat}
use Rattle.atomic_table.specs.Seated.{TableId}
use Rattle.strm_mblk.specs.Limits.{most_message_blocks}
use Rattle.strm_pool.specs.Registers.{CarryId, Entries}
use Rattle.strm_shared.specs.declared.setup.Setup.{Setup}
use Rattle.strm_shared.specs.declared.views.View.{View}
use Rattle.strm_shared.specs.Desks.{empty_desk, fresh_desks}
use Rattle.strm_pool.specs.Limits.{most_workers}
use Rattle.strm_shared.specs.Limits.{most_stamp}
use Rattle.strm_shared.specs.Pairs.{Pair, count_in}
use Rattle.strm_shared.specs.Seats.{new_known, no_entries, opening_history}
use Rattle.strm_shared.specs.SeatsLayout.{IsAt, IsSeated, known_at}
use Rattle.strm_shared.specs.Starts.{is_bad_shared}
use Rattle.strm_shared.specs.Traces.{is_bad_trace}
use Rattle.strm_shared.proofs.seats.Desks.{new_shown, seated}
use Rattle.strm_shared.proofs.seats.Histories.{history_begins}

-- empty registers have no token of another pool
pub carry_none : (id n : ℕ) → CarryId id (replicate n None)
carry_none id zero x = tt
carry_none id (suc n) zero = tt
carry_none id (suc n) (suc x) = carry_none id n x

pub length-fresh : (n : ℕ) (ps : List Pair) → length (fresh_desks n ps) ≡ n
length-fresh zero ps = refl
length-fresh (suc n) ps = length_push (fresh_desks n ps) (empty_desk n ps) ∙ ap (λ k. k + 1) (length-fresh n ps) ∙ omega arith

-- one more of them
pub fresh_more : (n : ℕ) (ps : List Pair) → fresh_desks (n + 1) ps ≡ fresh_desks n ps ++ empty_desk n ps ∷ []
fresh_more n ps = let more : n + 1 ≡ suc n = omega arith in ap (λ k. fresh_desks k ps) more

-- the bounds of a setup that is not bad
pub good_setup : (s : Setup) → is_bad_shared s ≡ false → (1 ≤ s.desks) × (s.desks ≤ most_workers) × (s.first_stamp ≤ most_stamp)
good_setup s good =
    let first = or_parts (not (nat_le 1 s.desks && nat_le s.desks most_workers) || nat_lt most_stamp s.first_stamp) (is_bad_trace s.trace) good in
    let parts = or_parts (not (nat_le 1 s.desks && nat_le s.desks most_workers)) (nat_lt most_stamp s.first_stamp) first.0 in
    let both = and_parts (nat_le 1 s.desks) (nat_le s.desks most_workers) (not-false _ parts.0) in
    (leb-true 1 s.desks both.0, leb-true s.desks most_workers both.1, ltb-false most_stamp s.first_stamp parts.1)

-- The seat of a new desk, which has left the lock's before a call was served: it has the next number and empty registers, and has
-- seen the opening pair.
pub new_seated : (z : TableId) (o : Pair) (blocks n stamp : ℕ) (t : Entries) (s : Seat (Unit {0}) View)
    → count_in o.1 ≡ blocks → blocks ≤ most_message_blocks → stamp ≡ o.0 → t ≡ no_entries → IsAt z (new_known (opening_history o n)) s → IsSeated z o blocks n stamp 0 t (known_at s) (Some s)
new_seated z o blocks n stamp t s sized few first empty here =
    let shows = new_shown o (opening_history o n) (history_begins o n (omega (arith, sized, few))) in
    subst (λ k. IsSeated z o blocks n k 0 t (known_at s) (Some s)) (sym first) (seated z o blocks n 0 t (new_known (opening_history o n)) [] o s sized here refl (sym empty) refl refl shows)
