-- Writers that wait: the target of a queue, and what is true of the writers that `next` does not give.
use Rattle.std.proofs.Common.{◌≡◌, ℕ, zero, suc, ◌+◌, ◌<◌, ◌≤◌, Bool, true, false, not, List, [], ◌∷◌, length, set, Option, Some, None, Ok, Err, refl, sym, ap, ◌∙◌, inl, inr, subst, arith, if◌then◌else◌, get_or-set_same, Result}
use Rattle.std.specs.Option.{option_map_or}
use Rattle.std.proofs.lemmas.Bool.{and_parts, eqb-true, ltb-false, ltb-true, ne_eqb, or_cases}
use Rattle.std.proofs.lemmas.List.{get_or_past}
use Rattle.strm_data.specs.declared.refusal.Refusal.{Refusal}
use Rattle.strm_data.specs.declared.refusal.Refusal.TheVariants.{NoSuchQueue}
use Rattle.strm_mblk.specs.Given.{Given, answer_of, value_after}
use Rattle.strm_pool.specs.Lawful.{IsLawful}
use Rattle.strm_pool.specs.PoolValue.{PoolValue, on_queues, queued_blocks_of}
use Rattle.strm_queue.specs.declared.queue_spec.QueueSpec.{QueueSpec}
use Rattle.strm_queue.specs.Flow.{Flags, QueueState, flags_at, has_band, no_spec, opening_flags, spec_at, target, target_from, target_within, with_wanted}
use Rattle.strm_queue.specs.Limits.{bands, high_rank}
use Rattle.strm_queue.specs.QueueCalls.{ask_for_room, bcanput, has_queue, is_full, with_state}
use Rattle.strm_queue.specs.QueuedBlocks.{QueuedBlocks}
use Rattle.strm_queue.specs.QueueLooks as looks
use Rattle.strm_queue.specs.QueueSpecs.{are_lawful}
use Rattle.strm_scheduler.specs.Laws.{IsAwaited}
use Rattle.strm_scheduler.specs.Writers.{AreWritersWaiting, Writer, first_ready, is_same, is_wanted, waits}
use Rattle.strm_scheduler.proofs.PoolLaws.{banded_of}
use Rattle.strm_scheduler.proofs.Hops.{hop_ahead}
use Rattle.strm_scheduler.proofs.Settling.{wanted_below}

-- ---- targets

module _ (specs : List QueueSpec) (lawful : are_lawful specs ≡ true) where
  -- a walk finds the same with one more step, once it has as many as there are queues ahead
  stable : (steps q : ℕ) → length specs ≤ steps + q → target_within steps specs q ≡ target_within (suc steps) specs q
  stable zero q past = sym (ap (target_from (target_within 0 specs) q) (get_or_past specs q no_spec (omega (arith, past))))
  stable (suc steps) q few = by_spec (λ n ahead. stable steps n (omega (arith, few, ahead))) (spec_at specs q).service (spec_at specs q).next refl
    where
      by_spec : ((n : ℕ) → q < n → target_within steps specs n ≡ target_within (suc steps) specs n) → (service : Bool) (o : Option ℕ) → (spec_at specs q).next ≡ o
          → (if service then q else option_map_or (target_within steps specs) o q) ≡ (if service then q else option_map_or (target_within (suc steps) specs) o q)
      by_spec further true o is = refl
      by_spec further false None is = refl
      by_spec further false (Some n) is = further n (hop_ahead specs lawful q n is).greater

  -- the target is the queue itself, or the target of the next one
  pub target_step : (q : ℕ) → target specs q ≡ target_from (target specs) q (spec_at specs q)
  target_step q = stable (length specs) q (omega arith)

  -- the target of a queue exists
  there_within : (steps q : ℕ) → q < length specs → target_within steps specs q < length specs
  there_within zero q there = there
  there_within (suc steps) q there = by_spec (there_within steps) (spec_at specs q).service (spec_at specs q).next refl
    where
      by_spec : ((n : ℕ) → n < length specs → target_within steps specs n < length specs) → (service : Bool) (o : Option ℕ) → (spec_at specs q).next ≡ o
          → (if service then q else option_map_or (target_within steps specs) o q) < length specs
      by_spec further true o is = there
      by_spec further false None is = there
      by_spec further false (Some n) is = further n (hop_ahead specs lawful q n is).there

  pub target_there : (q : ℕ) → q < length specs → target specs q < length specs
  target_there q there = there_within (length specs) q there

-- the target of a queue that does not exist is the queue
pub target_past : (specs : List QueueSpec) (q : ℕ) → length specs ≤ q → target specs q ≡ q
target_past specs q past = within (length specs)
  where
    within : (steps : ℕ) → target_within steps specs q ≡ q
    within zero = refl
    within (suc steps) = ap (target_from (target_within steps specs) q) (get_or_past specs q no_spec past)

-- what is found of a queue
module _ (v : QueuedBlocks) (q : ℕ) where
  abbrev found : Bool → Result QueueSpec Refusal
  found there = if there then Ok (spec_at v.queues.specs q) else Err NoSuchQueue

  -- its spec, if there is such a queue
  pub spec_found : (r : Result QueueSpec Refusal) (spec : QueueSpec) → r ≡ looks.queue_spec q v → r ≡ Ok spec
      → (q < length v.queues.specs) × (spec_at v.queues.specs q ≡ spec)
  spec_found r spec is ok = by_there (has_queue v q) refl is
    where
      by_there : (there : Bool) → has_queue v q ≡ there → r ≡ found there → (q < length v.queues.specs) × (spec_at v.queues.specs q ≡ spec)
      by_there true here given = let same : spec_at v.queues.specs q ≡ spec = cc in (ltb-true q (length v.queues.specs) here, same)
      by_there false here given = absurd (cc)

  -- or else no queue
  pub spec_lacks : (r : Result QueueSpec Refusal) (why : Refusal) → r ≡ looks.queue_spec q v → r ≡ Err why → length v.queues.specs ≤ q
  spec_lacks r why is err = by_there (has_queue v q) refl is
    where
      by_there : (there : Bool) → has_queue v q ≡ there → r ≡ found there → length v.queues.specs ≤ q
      by_there true here given = absurd (cc)
      by_there false here given = ltb-false q (length v.queues.specs) here

-- ---- what is wanted

module _ (v : PoolValue) (law : IsLawful v) where
  -- a wanted band has more bytes than its low water mark
  pub awaited : (q band : ℕ) → is_wanted v.queues (q, band) ≡ true → IsAwaited (queued_blocks_of v) (target v.queues.specs q) band
  awaited q band wanted =
      let p = target v.queues.specs q in
      let below : band < bands = wanted_below (flags_at v.queues p).wanted (banded_of v law p) band wanted in
      record { ordinary = ne_eqb band high_rank (λ same. absurd (omega (arith, below, same))); wanted = wanted; full = law.marks p band wanted }

  -- a band for which `bcanput` finds no room is wanted then
  module _ (q band : ℕ) (low : band < bands) where
    asked : (there full : Bool) → has_queue (queued_blocks_of v) q ≡ there
        → (let p = target v.queues.specs q in
        let room : Bool × QueuedBlocks = if full then (false, with_state (with_wanted p band) (queued_blocks_of v)) else (true, queued_blocks_of v) in
        let given : Given QueuedBlocks Bool = if there then Ok room else Err NoSuchQueue in
        answer_of (on_queues v given) ≡ Ok false → is_wanted (value_after v (on_queues v given)).queues (q, band) ≡ true)
    asked false full is refused = absurd (cc)
    asked true false is refused = absurd (cc)
    asked true true is refused =
        let p = target v.queues.specs q in
        let there : p < length v.queues.specs = target_there v.queues.specs law.lawful_queues q (ltb-true q (length v.queues.specs) is) in
        let f : Flags = record (flags_at v.queues p) { wanted = set (flags_at v.queues p).wanted band true } in
        ap (λ (g : Flags). has_band g.wanted band) (get_or-set_same v.queues.flags p f opening_flags (omega (arith, there, law.flagged)))
        ∙ get_or-set_same (flags_at v.queues p).wanted band true false (omega (arith, low, banded_of v law p))

    -- what `bcanput` leaves where it is refused
    module _ (refused : answer_of (on_queues v (bcanput q band (queued_blocks_of v))) ≡ Ok false) where
      pub refused_there : q < length v.queues.specs
      refused_there = by_there (has_queue (queued_blocks_of v) q) refl refused
        where
          by_there : (there : Bool) → has_queue (queued_blocks_of v) q ≡ there
              → (let given : Given QueuedBlocks Bool = if there then Ok (ask_for_room (target v.queues.specs q) band (queued_blocks_of v)) else Err NoSuchQueue in
              answer_of (on_queues v given) ≡ Ok false) → q < length v.queues.specs
          by_there true is so = ltb-true q (length v.queues.specs) is
          by_there false is so = absurd (cc)

      pub refused_wanted : (w : PoolValue) → w ≡ value_after v (on_queues v (bcanput q band (queued_blocks_of v))) → is_wanted w.queues (q, band) ≡ true
      refused_wanted w after =
          subst (λ (x : PoolValue). is_wanted x.queues (q, band) ≡ true) (sym after)
          (asked (has_queue (queued_blocks_of v) q) (is_full (queued_blocks_of v) (target v.queues.specs q) band) refl refused)

-- ---- which writers are given

-- if none is ready, the band of each is wanted
none_ready : (s : QueueState) (ws : List Writer) → first_ready s ws ≡ None → (w : Writer) → waits w ws ≡ true → is_wanted s w ≡ true
none_ready s [] none w waiting = absurd (cc)
none_ready s (x ∷ ws) none w waiting = by_wanted (is_wanted s x) refl (λ rest there. none_ready s ws rest w there) none
  where
    by_wanted : (wanted : Bool) → is_wanted s x ≡ wanted → (first_ready s ws ≡ None → waits w ws ≡ true → is_wanted s w ≡ true)
        → ◌≡◌ {A = Option Writer} (if not wanted then Some x else first_ready s ws) None → is_wanted s w ≡ true
    by_wanted false is further some = absurd (cc)
    by_wanted true is further rest =
        elim (or_cases (is_same w x) (waits w ws) waiting) [
          | inl here ↦
              let parts = and_parts _ _ here in
              let queue : w.0 ≡ x.0 = eqb-true w.0 x.0 parts.0 in
              let band : w.1 ≡ x.1 = eqb-true w.1 x.1 parts.1 in
              (λ i. is_wanted s (queue i, band i)) ∙ is
          | inr there ↦ further rest there
        ]

-- if `next` gives none, each writer that waits is refused still
pub all_wait : (v : PoolValue) → IsLawful v → (ws : List Writer) → first_ready v.queues ws ≡ None → AreWritersWaiting ws (queued_blocks_of v)
all_wait v law ws none q band waiting = awaited v law q band (none_ready v.queues ws none (q, band) waiting)
