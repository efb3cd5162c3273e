-- Queues that are held back: each is enabled again, so all queues stay awake, and a run ends once all on the run list are held back.
use Rattle.std.proofs.Common.{◌≡◌, ◌≢◌, ℕ, zero, suc, ◌+◌, ◌-◌, ◌<◌, ◌≤◌, inl, inr, Bool, true, false, not, ◌&&◌, List, [], ◌∷◌, ◌++◌, drop, length, IfSome, Option, Some, None, option_map, refl, sym, ap, ◌∙◌, subst, arith, append-nil, append_assoc, length-append, if◌then◌else◌}
use Rattle.std.specs.Prelude.{is_some, nat_lt, slice_get}
use Rattle.std.specs.List.{All}
use Rattle.std.proofs.lemmas.Bool.{cases_eq, eqb-false, eqb-true, false≢true}
use Rattle.std.proofs.lemmas.Option.{none-some, same_Some}
use Rattle.std.proofs.lemmas.List.Elements.{All-nil, All-push, All-same, All-weaker}
use Rattle.strm_links.specs.Rows as rows
use Rattle.strm_pool.specs.PoolValue.{PoolValue, has_queue, queued_blocks_of}
use Rattle.strm_queue.specs.declared.queue_spec.QueueSpec.{QueueSpec}
use Rattle.strm_queue.specs.Flow.{QueueState, flags_at, spec_at, with_enabled}
use Rattle.strm_queue.specs.Limits.{most_queues}
use Rattle.strm_queue.specs.QueueLooks.{queued_at}
use Rattle.strm_scheduler.specs.Laws.{AreKeptAwake, is_awake}
use Rattle.strm_scheduler.specs.Waits.{AreLastHeldBack, is_spent, work_left}
use Rattle.strm_scheduler.specs.Modules.{AreHeldBack, IsHeldBack, IsTurned, Needs, services_of}
use Rattle.strm_scheduler.specs.Needs.{are_free, can_be_free}
use Rattle.strm_scheduler.specs.Serving.{IsBegun, IsServing, most_powers, powers, times_of, weigh, work}
use Rattle.strm_scheduler.specs.Sides.{AreSides, next_of}
use Rattle.strm_scheduler.specs.Steps.{with_queue_enabled, with_run}
use Rattle.strm_scheduler.proofs.Falling.{powers-append, times_of_le}
use Rattle.strm_scheduler.proofs.Keeping.{awake_grown, awake_on_run, enabled_grows, enabled_on}

-- ---- a queue is enabled

-- queues with the same specs exist alike
pub there_same : (q : ℕ) (v w : PoolValue) → w.queues.specs ≡ v.queues.specs → has_queue v q ≡ true → has_queue w q ≡ true
there_same q v w specs there = ap (λ (s : List QueueSpec). nat_lt q (length s)) specs ∙ there

pub enabled_specs : (q : ℕ) (v : PoolValue) → (with_queue_enabled q v).queues.specs ≡ v.queues.specs
enabled_specs q v = ap (λ (s : QueueState). s.specs) (enabled_grows q v.queues).alone

-- it is the last one of the run list then, if it was not there
pub enabled_last : (q : ℕ) (v : PoolValue) → (spec_at v.queues.specs q).service ≡ true → rows.has q v.queues.run ≡ false → with_queue_enabled q v ≡ with_run (v.queues.run ++ q ∷ []) v
enabled_last q v serves once = λ i.
    let t : QueueState = if serves i && not (once i) then record v.queues { run = v.queues.run ++ q ∷ [] } else v.queues in
    record v { queues = t }

-- the queue that is being served is enabled
module _ (q n : ℕ) (v : PoolValue) (s : IsServing q n v) where
  serves : (spec_at v.queues.specs q).service ≡ true
  serves = s.sides q ∙ ap is_some s.next

  pub kept_enabled : AreKeptAwake (with_queue_enabled q v)
  kept_enabled =
      let grows = enabled_grows q v.queues in
      record {
        sides = subst AreSides (sym (enabled_specs q v)) s.sides;
        awake = λ p t is.
            let next : next_of v.queues.specs p ≡ Some t = sym (ap (λ (u : QueueState). next_of u.specs p) grows.alone) ∙ is in
            elim (cases_eq p q) [
              | inl same ↦
                  subst (λ k. is_awake (queued_blocks_of (with_queue_enabled q v)) k t ≡ true) (sym same)
                  (awake_on_run (queued_blocks_of (with_queue_enabled q v)) q t (ap (λ (u : QueueState). (flags_at u q).noenable) grows.alone ∙ s.off) (enabled_on q v.queues serves))
              | inr other ↦ awake_grown (queued_blocks_of v) (with_enabled q v.queues) grows p t (s.others p t other next)
            ];
      }

-- ---- what is held back stays so while only the run list changes

module _ {M : Type 0} (needs : Needs M) (m : M) where
  pub held_alike : (q : ℕ) (v w : PoolValue) (ever : Bool) → w.queues.specs ≡ v.queues.specs → w.arena ≡ v.arena → IsHeldBack needs m q v ever → IsHeldBack needs m q w ever
  held_alike q v w ever specs arena held = record {
    first = held.first;
    found = (λ i. queued_at q 0 (record { queues = record w.queues { specs = specs i }; arena = arena i })) ∙ held.found;
    asked = held.asked;
    same = arena ∙ held.same;
    need = held.need;
    needed = held.needed;
    none = ap (are_free held.need) arena ∙ held.none;
    can_be = ap (can_be_free held.need) arena ∙ held.can_be;
  }

  -- the first queue of the run list of v left it, is held back, and was enabled again
  pub turned : (q n : ℕ) (v x w : PoolValue) (ever : Bool) → AreKeptAwake v → IsBegun q n v x → IsHeldBack needs m q x ever → w ≡ with_queue_enabled q x → IsTurned needs q ever m v m w
  turned q n v x w ever kept begun held after =
      let last : w ≡ with_run (x.queues.run ++ q ∷ []) x = after ∙ enabled_last q x (serves q n x (begun.serving kept)) begun.once in
      record {
        rest = x.queues.run;
        run = begun.run;
        after = last ∙ ap (with_run (x.queues.run ++ q ∷ [])) begun.after;
        held = held_alike q x w ever (ap (λ (p : PoolValue). p.queues.specs) last) (ap (λ (p : PoolValue). p.arena) last) held;
        same = refl;
      }

  -- ---- the last queues of the run list

  pub last_none : (v : PoolValue) → AreLastHeldBack needs m 0 v
  last_none v = record {
    front = v.queues.run;
    back = [];
    run = sym (append-nil v.queues.run);
    count_is = refl;
    held = All-nil (λ q. IsHeldBack needs m q v true);
  }

  -- one more is held back
  pub last_more : (k : M) (v w : PoolValue) (count queue : ℕ) → count < length v.queues.run → AreLastHeldBack needs m count v → IsTurned needs queue true m v k w
      → AreLastHeldBack needs k (count + 1) w
  last_more k v w count queue few before step = subst (λ (l : M). AreLastHeldBack needs l (count + 1) w) (sym step.same) (by_front before.front before.run)
    where
      here : IsHeldBack needs m queue w true
      here = subst (λ (l : M). IsHeldBack needs l queue w true) step.same step.held

      all : All (λ q. IsHeldBack needs m q w true) (before.back ++ queue ∷ [])
      all =
          All-push (λ q. IsHeldBack needs m q w true) before.back queue
          (All-weaker (λ q. IsHeldBack needs m q v true) (λ q. IsHeldBack needs m q w true)
          (λ q held. held_alike q v w true (ap (λ (p : PoolValue). p.queues.specs) step.after) (ap (λ (p : PoolValue). p.arena) step.after) held) before.back before.held)
          here

      by_front : (front : List ℕ) → v.queues.run ≡ front ++ before.back → AreLastHeldBack needs m (count + 1) w
      by_front [] is = absurd (omega (arith, few, ap length is, before.count_is))
      by_front (p ∷ front) is =
          let rest : step.rest ≡ front ++ before.back = ap (drop 1) (sym step.run ∙ is) in
          record {
            front = front;
            back = before.back ++ queue ∷ [];
            run = ap (λ (x : PoolValue). x.queues.run) step.after ∙ ap (λ (qs : List ℕ). qs ++ queue ∷ []) rest ∙ append_assoc front before.back (queue ∷ []);
            count_is = omega (arith, length-append before.back (queue ∷ []), before.count_is);
            held = all;
          }

  -- if there are no others, each queue on the run list is held back
  pub last_all : (v : PoolValue) (count : ℕ) → length v.queues.run ≤ count → AreLastHeldBack needs m count v → AreHeldBack needs m v × (length v.queues.run ≡ count)
  last_all v count few last = by_front last.front last.run
    where
      by_front : (front : List ℕ) → v.queues.run ≡ front ++ last.back → AreHeldBack needs m v × (length v.queues.run ≡ count)
      by_front [] is = (All-same (λ q. IsHeldBack needs m q v true) v.queues.run last.back is last.held, ap length is ∙ last.count_is)
      by_front (p ∷ front) is = absurd (omega (arith, few, ap length is, length-append front last.back, last.count_is))

-- ---- places of the run list

pub place_within : {X : Type 0} (xs : List X) (k : ℕ) → is_some (slice_get xs k) ≡ true → k < length xs
place_within [] k there = absurd (false≢true there)
place_within (x ∷ xs) zero there = omega arith
place_within (x ∷ xs) (suc k) there = let rest = place_within xs k there in omega (arith, rest)

pub place_past : (xs : List ℕ) (k : ℕ) → is_some (slice_get xs k) ≡ false → length xs ≤ k
place_past [] k past = omega arith
place_past (x ∷ xs) zero past = absurd (false≢true (sym past))
place_past (x ∷ xs) (suc k) past = let rest = place_past xs k past in omega (arith, rest)

pub none_long : (xs : List ℕ) → length xs ≡ 0 → xs ≡ []
none_long [] is = refl
none_long (x ∷ xs) is = absurd (omega (arith, is))

-- ---- the work falls

some_least : (k : ℕ) → k ≢ 0 → 0 < k
some_least zero other = absurd (other refl)
some_least (suc k) other = omega arith

-- one queue fewer is left to find held back
turned_shorter : {M : Type 0} (needs : Needs M) (m k : M) (v w : PoolValue) (held queue : ℕ) (ever : Bool) → IsTurned needs queue ever m v k w → held < length v.queues.run
    → length w.queues.run - (held + 1) < length v.queues.run - held
turned_shorter needs m k v w held queue ever step few =
    let long = ap (λ (p : PoolValue). length p.queues.run) step.after in
    let joined = length-append step.rest (queue ∷ []) in
    let before = ap length step.run in
    omega (arith, few, long, joined, before)

-- the run list is turned: the work is the same, and one queue fewer is left to find held back
turned_work : {M : Type 0} (needs : Needs M) (m k : M) (v w : PoolValue) (queue : ℕ) (ever : Bool) → IsTurned needs queue ever m v k w → work (queued_blocks_of w) ≡ work (queued_blocks_of v)
unfolding work
turned_work needs m k v w queue ever step =
    let joined = powers-append step.rest (queue ∷ []) in
    let same : powers (step.rest ++ queue ∷ []) ≡ powers (queue ∷ step.rest) = omega (arith, joined) in
    ap (λ (p : PoolValue). work (queued_blocks_of p)) step.after
    ∙ ap (λ k. times_of (weigh v.arena.shelves) (most_powers (length v.queues.specs)) + k) (same ∙ ap powers (sym step.run))

pub turned_left : {M : Type 0} (needs : Needs M) (m k : M) (v w : PoolValue) (budget : Option ℕ) (held queue : ℕ) (ever : Bool) → IsTurned needs queue ever m v k w → held < length v.queues.run
    → work_left budget w (held + 1) < work_left budget v held
turned_left needs m k v w None held queue ever step few =
    let same = ap (λ left. times_of left (suc most_queues)) (turned_work needs m k v w queue ever step) in
    let shorter = turned_shorter needs m k v w held queue ever step few in
    omega (arith, same, shorter)
turned_left needs m k v w (Some services) held queue ever step few = let shorter = turned_shorter needs m k v w held queue ever step few in omega (arith, shorter)

-- a queue was served
pub served_left : (v w : PoolValue) (budget : Option ℕ) (held : ℕ) → is_spent budget ≡ false → (budget ≡ None → work (queued_blocks_of w) < work (queued_blocks_of v)) → length w.queues.run ≤ most_queues
    → work_left (option_map (λ services. services - 1) budget) w 0 < work_left budget v held
served_left v w None held some less short =
    let fewer = times_of_le (suc (work (queued_blocks_of w))) (work (queued_blocks_of v)) (suc most_queues) (less refl) in
    omega (arith, short, fewer)
served_left v w (Some services) held some less short =
    let there = eqb-false services 0 some in
    let fewer = times_of_le (suc (services - 1)) services (suc most_queues) (omega (arith, some_least services there)) in
    omega (arith, short, fewer)

-- ---- a budget

-- what is left of the budget, beside the services that there were
abbrev pub IsLeft : Option ℕ → Option ℕ → List Bool → Type 0
IsLeft budget left turns = budget ≡ option_map (λ services. services + services_of turns) left

pub left_none : (budget : Option ℕ) → IsLeft budget budget []
left_none None = refl
left_none (Some services) = let none : services_of [] ≡ 0 = refl in ap (λ (k : ℕ). Some k) (omega (arith, none))

pub left_served : (budget left : Option ℕ) (turns : List Bool) → is_spent left ≡ false → IsLeft budget left turns → IsLeft budget (option_map (λ services. services - 1) left) (true ∷ turns)
left_served budget None turns some is = is
left_served budget (Some services) turns some is =
    let there = some_least services (eqb-false services 0 some) in
    let more : services_of (true ∷ turns) ≡ suc (services_of turns) = refl in
    is ∙ ap (λ (k : ℕ). Some k) (omega (arith, there, more))

pub left_within : (budget left : Option ℕ) (turns : List Bool) → IsLeft budget left turns → IfSome budget (λ most. services_of turns ≤ most)
left_within budget None turns is = subst (λ b. IfSome b (λ most. services_of turns ≤ most)) (sym is) tt
left_within budget (Some services) turns is = subst (λ b. IfSome b (λ most. services_of turns ≤ most)) (sym is) (omega arith)

pub left_spent : (budget left : Option ℕ) (turns : List Bool) → is_spent left ≡ true → IsLeft budget left turns → budget ≡ Some (services_of turns)
left_spent budget None turns none is = absurd (false≢true none)
left_spent budget (Some services) turns none is = let zero_is = eqb-true services 0 none in is ∙ ap (λ (k : ℕ). Some k) (omega (arith, zero_is))

-- if there were as many services as the budget, nothing is left of it
pub left_done : (budget left : Option ℕ) (turns : List Bool) → IsLeft budget left turns → budget ≡ Some (services_of turns) → is_spent left ≡ true
left_done budget None turns is all = absurd (none-some (services_of turns) (sym is ∙ all))
left_done budget (Some services) turns is all = done services (same_Some (services + services_of turns) (services_of turns) (sym is ∙ all))
  where
    done : (k : ℕ) → k + services_of turns ≡ services_of turns → is_spent (Some k) ≡ true
    done zero same = refl
    done (suc k) same = absurd (omega (arith, same))

-- without a budget, none is left
pub left_without : (budget left : Option ℕ) (turns : List Bool) → IsLeft budget left turns → left ≡ None → budget ≡ None
left_without budget left turns is none = is ∙ ap (λ (o : Option ℕ). option_map (λ services. services + services_of turns) o) none
