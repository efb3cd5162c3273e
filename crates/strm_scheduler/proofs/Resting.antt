-- Queues that are held back for blocks leave the run list, and rest.
use Rattle.std.proofs.Common.{◌≡◌, ℕ, suc, ◌+◌, ◌<◌, ◌≤◌, inl, inr, Bool, true, false, ◌&&◌, ◌||◌, List, [], ◌∷◌, length, Option, Some, None, refl, sym, ap, ◌∙◌, subst, arith, if◌then◌else◌, ◌-◌, not, ◌==◌, ◌++◌, drop, set, Ok, Err, append-nil, append_assoc, get_or-set_other, get_or-set_same}
use Rattle.std.specs.Prelude.{is_some}
use Rattle.std.proofs.lemmas.Bool.{and_parts, cases_lt, eqb-true, false≢true, ltb-false, ne_eqb, not-true, or_cases}
use Rattle.std.proofs.lemmas.List.{get_or_past}
use Rattle.std.proofs.lemmas.Option.{none-some, same_Some}
use Rattle.strm_links.specs.Rows as rows
use Rattle.strm_pool.specs.PoolValue.{PoolValue, on_queues, queued_blocks_of, with_queued}
use Rattle.strm_queue.specs.declared.queue_spec.QueueSpec.{QueueSpec}
use Rattle.strm_queue.specs.Flow.{QueueState, enabled_where, flags_at, no_spec, spec_at}
use Rattle.strm_scheduler.specs.declared.need.Need.{Need}
use Rattle.strm_scheduler.specs.Laws.{AreKept, AreKeptAwake, IsAwakeOrShort}
use Rattle.strm_scheduler.specs.Needs.{are_free, can_be_free}
use Rattle.strm_scheduler.specs.Sides.{SidesValue, need_at, next_of}
use Rattle.strm_scheduler.specs.Waits.{AreEntries, IsEntry, Rests, not_waiting}
use Rattle.strm_scheduler.proofs.Keeping.{awake_at_rest, awake_on_run, enabling_on, run_or_rest}
use Rattle.std.specs.List.{All}
use Rattle.std.proofs.lemmas.List.Elements.{filter-append}
use Rattle.strm_data.specs.declared.refusal.Refusal.TheVariants.{NoSuchQueue}
use Rattle.strm_mblk.specs.Given.{Given, value_after}
use Rattle.strm_pool.specs.Lawful.{IsLawful}
use Rattle.strm_queue.specs.QueueCalls.{has_queue, next_service, qenable, with_state}
use Rattle.strm_queue.specs.QueuedBlocks.{QueuedBlocks}
use Rattle.strm_scheduler.specs.Modules.{Needs}
use Rattle.strm_scheduler.specs.Steps.{with_queue_enabled, with_run}
use Rattle.strm_scheduler.proofs.Beginning.{first_serves, okay}
use Rattle.strm_scheduler.proofs.PoolLaws.{run_below}
use Rattle.strm_scheduler.proofs.Holding.{enabled_last}
use Rattle.strm_scheduler.proofs.Waking.{last_or_before}

-- ---- enabling a queue of any number

-- a number without a queue is never enabled
nowhere : (q : ℕ) (v : PoolValue) → has_queue (queued_blocks_of v) q ≡ false → v ≡ with_queue_enabled q v
nowhere q v none =
    let past = ltb-false q (length v.queues.specs) none in
    let idle : (spec_at v.queues.specs q).service ≡ false = ap (λ (s : QueueSpec). s.service) (get_or_past v.queues.specs q no_spec past) in
    λ i. let s : QueueState = if sym idle i && not (rows.has q v.queues.run) then record v.queues { run = v.queues.run ++ q ∷ [] } else v.queues in record v { queues = s }

pub enabled_any : (q : ℕ) (v : PoolValue) → value_after v (on_queues v (qenable q (queued_blocks_of v))) ≡ with_queue_enabled q v
enabled_any q v = by_there (has_queue (queued_blocks_of v) q) refl
  where
    by_there : (there : Bool) → has_queue (queued_blocks_of v) q ≡ there
        → (let given : Given QueuedBlocks (Unit {0}) = if there then Ok (tt, with_state (enabled_where true q) (queued_blocks_of v)) else Err NoSuchQueue in value_after v (on_queues v given)) ≡ with_queue_enabled q v
    by_there true is = refl
    by_there false is = nowhere q v is

-- ---- the queues that stay on the run list

module _ (waits : List (Option Need)) where
  -- a queue that does not wait stays there
  stays : (q : ℕ) → need_at waits q ≡ None → (qs : List ℕ) → rows.has q (not_waiting waits qs) ≡ rows.has q qs
  stays q none [] = refl
  stays q none (x ∷ qs) = by_entry (need_at waits x) refl (stays q none qs)
    where
      other : (need : Need) → need_at waits x ≡ Some need → (x == q) ≡ false
      other need is = ne_eqb x q (λ same. none-some need (sym none ∙ ap (need_at waits) (sym same) ∙ is))

      by_entry : (o : Option Need) → need_at waits x ≡ o → rows.has q (not_waiting waits qs) ≡ rows.has q qs
          → (let left : List ℕ = if not (is_some o) then x ∷ not_waiting waits qs else not_waiting waits qs in rows.has q left) ≡ ((x == q) || rows.has q qs)
      by_entry None is rest = ap (λ b. (x == q) || b) rest
      by_entry (Some need) is rest = rest ∙ ap (λ b. b || rows.has q qs) (sym (other need is))

  module _ {M : Type 0} (needs : Needs M) (m : M) (v : PoolValue) (entries : AreEntries needs m v waits) where
    abbrev rested : SidesValue
    rested = record { pool = with_run (not_waiting waits v.queues.run) v; waits = waits }

    -- what a queue waits for is not free
    entry_short : (q : ℕ) (need : Need) → need_at waits q ≡ Some need → are_free need v.arena ≡ false
    entry_short q need is =
        let entry = subst (IsEntry needs m q v) is (entries q) in
        let later = and_parts (not need.later) (not (are_free need v.arena) && can_be_free need v.arena) entry.1.3 in
        not-true (are_free need v.arena) (and_parts (not (are_free need v.arena)) (can_be_free need v.arena) later.1).0

    module _ (kept : AreKeptAwake v) where
      rested_awake : (q n : ℕ) → next_of v.queues.specs q ≡ Some n → IsAwakeOrShort rested q n
      rested_awake q n next = by_entry (need_at waits q) refl (enabling_on (queued_blocks_of v) q n (kept.awake q n next))
        where
          by_entry : (o : Option Need) → need_at waits q ≡ o → (flags_at v.queues q).noenable ≡ false → IsAwakeOrShort rested q n
          by_entry None is enabling =
              elim (run_or_rest (queued_blocks_of v) q n (kept.awake q n next)) [
                | inl on ↦ inl (awake_on_run (queued_blocks_of rested.pool) q n enabling (stays q is v.queues.run ∙ on))
                | inr rest ↦ inl (awake_at_rest (queued_blocks_of rested.pool) q n enabling rest)
              ]
          by_entry (Some need) is enabling = inr (enabling, ap is_some is)

      rested_kept : AreKept rested
      rested_kept = record { sides = kept.sides; awake = rested_awake; short = entry_short }

pub rests_kept : {M : Type 0} (needs : Needs M) (m : M) (v : PoolValue) (w : SidesValue) → AreKeptAwake v → Rests needs m v w → AreKept w
rests_kept needs m v w kept rests =
    subst (λ (p : PoolValue). AreKept (record { pool = p; waits = w.waits })) (sym rests.pool) (rested_kept w.waits needs m v rests.entries kept)

-- ---- the first queues of the run list leave it

module _ (waits : List (Option Need)) where
  -- none does
  pub rest_none : (v : PoolValue) (first behind : List ℕ) → v.queues.run ≡ first ++ behind → length first ≡ 0 → v ≡ with_run (behind ++ not_waiting waits first) v
  rest_none v [] behind is none = ap (λ r. with_run r v) (is ∙ sym (append-nil behind))
  rest_none v (x ∷ first) behind is none = absurd (omega (arith, none))

  -- one does, and then others
  module _ (v x w : PoolValue) (count : ℕ) (some : 0 < count)
      (step : (q : ℕ) (behind : List ℕ) → v.queues.run ≡ q ∷ behind → x ≡ with_run (behind ++ not_waiting waits (q ∷ [])) v)
      (further : (first behind : List ℕ) → x.queues.run ≡ first ++ behind → length first ≡ count - 1 → w ≡ with_run (behind ++ not_waiting waits first) x) where
    pub rest_more : (first behind : List ℕ) → v.queues.run ≡ first ++ behind → length first ≡ count → w ≡ with_run (behind ++ not_waiting waits first) v
    rest_more [] behind is long = absurd (omega (arith, some, long))
    rest_more (q ∷ first) behind is long =
        let own : List ℕ = not_waiting waits (q ∷ []) in
        let stepped : x ≡ with_run ((first ++ behind) ++ own) v = step q (first ++ behind) is in
        let run : x.queues.run ≡ first ++ (behind ++ own) = ap (λ (p : PoolValue). p.queues.run) stepped ∙ append_assoc first behind own in
        further first (behind ++ own) run (omega (arith, long))
        ∙ ap (with_run ((behind ++ own) ++ not_waiting waits first)) stepped
        ∙ ap (λ r. with_run r v) (append_assoc behind own (not_waiting waits first) ∙ ap (λ r. behind ++ r) (sym (filter-append (λ k. not (is_some (need_at waits k))) (q ∷ []) first)))

-- the first queue was taken off, and is enabled again
module _ (v x y : PoolValue) (law : IsLawful v) (q : ℕ) (after : x ≡ with_queued v (next_service (queued_blocks_of v)).1) (first : rows.first v.queues.run ≡ Some q)
    (enabled : y ≡ value_after x (on_queues x (qenable q (queued_blocks_of x)))) where
  first_is : (p : ℕ) (behind : List ℕ) → v.queues.run ≡ p ∷ behind → q ≡ p
  first_is p behind is = same_Some q p (sym first ∙ ap rows.first is)

  pub turn_on : (p : ℕ) (behind : List ℕ) → v.queues.run ≡ p ∷ behind → y ≡ with_run (behind ++ p ∷ []) v
  turn_on p behind is =
      let left : x ≡ with_run behind v = after ∙ ap (λ r. with_run (drop 1 r) v) is in
      let serves = first_serves v p (ap rows.first is) law in
      let once = (subst rows.IsApart is law.once).0 in
      enabled ∙ enabled_any q x
      ∙ (λ i. with_queue_enabled (first_is p behind is i) (left i))
      ∙ enabled_last p (with_run behind v) serves once

  -- it does not wait
  pub rest_on : (waits : List (Option Need)) → is_some (need_at waits q) ≡ false → (p : ℕ) (behind : List ℕ) → v.queues.run ≡ p ∷ behind → y ≡ with_run (behind ++ not_waiting waits (p ∷ [])) v
  rest_on waits none p behind is =
      let own : is_some (need_at waits p) ≡ false = ap (λ k. is_some (need_at waits k)) (sym (first_is p behind is)) ∙ none in
      turn_on p behind is ∙ ap (λ b. (let own : List ℕ = if not b then p ∷ [] else [] in with_run (behind ++ own) v)) (sym own)

-- ---- the table

module _ {M : Type 0} (needs : Needs M) (m : M) (v : PoolValue) where
  -- one more entry is written
  pub entries_more : (k : ℕ) (waits : List (Option Need)) (o : Option Need) → k < length waits → ((q : ℕ) → q < k → IsEntry needs m q v (need_at waits q)) → IsEntry needs m k v o
      → (q : ℕ) → q < k + 1 → IsEntry needs m q v (need_at (set waits k o) q)
  entries_more k waits o there before here q below =
      elim (last_or_before q k below) [
        | inl same ↦
            subst (λ j. IsEntry needs m j v (need_at (set waits k o) j)) (sym same)
            (subst (IsEntry needs m k v) (sym (get_or-set_same waits k o None there)) here)
        | inr less ↦ subst (IsEntry needs m q v) (sym (get_or-set_other waits k q o None less.0)) (before q less.1)
      ]

  on_below : (n q : ℕ) (qs : List ℕ) → All (λ p. p < n) qs → rows.has q qs ≡ true → q < n
  on_below n q [] all on = absurd (false≢true on)
  on_below n q (p ∷ qs) all on =
      elim (or_cases (p == q) (rows.has q qs) on) [
        | inl here ↦ subst (λ k. k < n) (eqb-true p q here) (all 0 q (omega arith))
        | inr later ↦ on_below n q qs (λ k d within. all (suc k) d (omega (arith, within))) later
      ]

  -- no queue has a greater number
  pub entries_all : IsLawful v → (k : ℕ) (waits : List (Option Need)) → length v.queues.specs ≤ k → length waits ≤ k → ((q : ℕ) → q < k → IsEntry needs m q v (need_at waits q)) → AreEntries needs m v waits
  entries_all law k waits few long before q =
      elim (cases_lt q k) [
        | inl below ↦ before q below
        | inr out ↦
            subst (IsEntry needs m q v) (sym (get_or_past waits q None (omega (arith, out, long))))
            (λ on first found. absurd (omega (arith, out, few, on_below (length v.queues.specs) q v.queues.run (run_below v law) on)))
      ]

-- ---- for the calls

pub first_given : (run : List ℕ) (result : Option ℕ) (q : ℕ) → okay result ≡ okay (rows.first run) → result ≡ Some q → rows.first run ≡ Some q
first_given run result q answer is = let same : result ≡ rows.first run = cc in sym same ∙ is
