-- A service begins: the first queue leaves the run list. What is left once `run` has served it.
use Rattle.std.proofs.Common.{◌≡◌, ◌≢◌, ℕ, zero, suc, ◌<◌, inl, inr, true, ◌==◌, List, [], ◌∷◌, length, Some, refl, sym, ap, ◌∙◌, subst, arith, ◌≤◌, drop, Option, None, Result, Ok, Err}
use Rattle.std.specs.Prelude.{is_some, slice_get}
use Rattle.std.specs.List.{All}
use Rattle.std.proofs.lemmas.Bool.{cond-true, eqb-true, false≢true, lt-ltb, or_cases}
use Rattle.std.proofs.lemmas.Option.{none-some, same_Some}
use Rattle.strm_scheduler.specs.Forwarding.{Forwards, all_forwarded, with_forwarded}
use Rattle.strm_mblk.specs.Arena.{Arena, shelf_at}
use Rattle.strm_queue.specs.declared.queue_spec.QueueSpec.{QueueSpec}
use Rattle.strm_queue.specs.Flow.{flags_at, has_band, spec_at}
use Rattle.strm_queue.specs.QueueCalls.{next_service, with_state}
use Rattle.strm_queue.specs.QueuedBlocks.{QueuedBlocks}
use Rattle.strm_scheduler.specs.Laws.{AreKeptAwake, IsAwake, is_awake}
use Rattle.strm_scheduler.specs.Sides.{AreSides, KeepsOrder, next_of, side_of}
use Rattle.strm_scheduler.proofs.Hops.{hop_ahead, hop_within}
use Rattle.strm_scheduler.proofs.Keeping.{enabling_on, kept}
use Rattle.std.specs.Option.{option_map_or}
use Rattle.strm_links.specs.Rows as rows
use Rattle.strm_pool.specs.Lawful.{IsLawful}
use Rattle.strm_pool.specs.PoolValue.{PoolValue, has_queue, queued_blocks_of, with_queued}
use Rattle.strm_scheduler.specs.Running.{IsBlocked, with_any_served, with_first_served, with_served}
use Rattle.strm_scheduler.specs.Serving.{FallsBy, IsBegun, IsServing, powers, weigh, work}
use Rattle.strm_scheduler.proofs.Falling.{falls_on, falls_still, none_powers}
use Rattle.strm_scheduler.proofs.Weighing.{forwarded_weighs}
use Rattle.strm_scheduler.proofs.Ordering.{side_forwarded}
use Rattle.strm_data.specs.declared.refusal.Refusal.{Refusal}
use Rattle.strm_queue.specs.QueueLooks as looks
use Rattle.strm_scheduler.proofs.Underway.{IsUnderway, all_forwarded_awake}
use Rattle.strm_scheduler.proofs.PoolLaws.{banded_of, low_ranks, run_below}

-- ---- the first queue leaves the run list

first_of : (xs : List ℕ) (q : ℕ) → rows.first xs ≡ Some q → xs ≡ q ∷ drop 1 xs
first_of [] q is = absurd (none-some q is)
first_of (y ∷ ys) q is = ap (λ z. z ∷ ys) (same_Some y q is)

pub none_first : (xs : List ℕ) → rows.first xs ≡ None → xs ≡ []
none_first [] is = refl
none_first (y ∷ ys) is = absurd (none-some y (sym is))

-- pool v, and x once queue q has left its run list
module _ (v x : PoolValue) (q : ℕ) (after : x ≡ with_queued v (next_service (queued_blocks_of v)).1) (first : rows.first v.queues.run ≡ Some q) where
  pub run_is : v.queues.run ≡ q ∷ x.queues.run
  run_is = first_of v.queues.run q first ∙ ap (λ (qs : List ℕ). q ∷ qs) (sym (ap (λ (p : PoolValue). p.queues.run) after))

  -- queue n is the next of queue q
  module _ (n : ℕ) (sides : AreSides v.queues.specs) (awake : IsAwake (queued_blocks_of v)) (next : next_of v.queues.specs q ≡ Some n) where
    others : (p t : ℕ) → p ≢ q → next_of v.queues.specs p ≡ Some t → is_awake (queued_blocks_of x) p t ≡ true
    others p t other is =
        kept p t (queued_blocks_of v) (queued_blocks_of x)
        (record {
          off = ap (λ (y : PoolValue). (flags_at y.queues p).noenable) after;
          read = ap (λ (y : PoolValue). (flags_at y.queues p).read) after;
          wanted = λ band wanted. ap (λ (y : PoolValue). has_band (flags_at y.queues t).wanted band) after ∙ wanted;
          run = λ on. still (sym (ap (rows.has p) run_is) ∙ on);
          messages = ap (λ (y : PoolValue). shelf_at y.arena p) after;
          store = ap (λ (y : PoolValue). y.arena.store) after;
        })
        (awake p t is)
      where
        still : rows.has p (q ∷ x.queues.run) ≡ true → rows.has p x.queues.run ≡ true
        still on =
            elim (or_cases (q == p) (rows.has p x.queues.run) on) [
              | inl here ↦ absurd (other (sym (eqb-true q p here)))
              | inr rest ↦ rest
            ]

    pub serving_begun : IsServing q n x
    serving_begun =
        let same : x.queues.specs ≡ v.queues.specs = ap (λ (p : PoolValue). p.queues.specs) after in
        record {
          sides = subst AreSides (sym same) sides;
          next = ap (λ (sp : List QueueSpec). next_of sp q) same ∙ next;
          off = ap (λ (p : PoolValue). (flags_at p.queues q).noenable) after ∙ enabling_on (queued_blocks_of v) q n (awake q n next);
          others = λ p t other is. others p t other (ap (λ (sp : List QueueSpec). next_of sp p) (sym same) ∙ is);
        }

-- ---- a queue is being served

module _ (q n : ℕ) (x : PoolValue) (law : IsLawful x) (s : IsServing q n x) where
  pub underway : IsUnderway x.queues.specs law.lawful_queues s.sides q n s.next (queued_blocks_of x)
  underway = record {
    same = refl;
    banded = banded_of x law;
    flagged = law.flagged;
    shelved = law.shelves;
    ordered = law.ordered q;
    low = low_ranks x law q;
    off = s.off;
    others = s.others;
  }

  -- its messages are forwarded
  module _ (w : PoolValue) (count : ℕ) (does : all_forwarded q n (queued_blocks_of x) ≡ (count, queued_blocks_of w)) (forwards : Forwards q n count x w) where
    pub kept_forwarded : AreKeptAwake w
    kept_forwarded = record {
      sides = subst AreSides (sym forwards.rest.specs) s.sides;
      awake = λ p t is.
          subst (λ (y : QueuedBlocks). is_awake y p t ≡ true) (ap (λ (r : ℕ × QueuedBlocks). r.1) does)
          (all_forwarded_awake x.queues.specs law.lawful_queues s.sides q n s.next (queued_blocks_of x) underway p t
          (ap (λ (specs : List QueueSpec). next_of specs p) (sym forwards.rest.specs) ∙ is));
    }

    greater : q < n
    greater = (hop_ahead x.queues.specs law.lawful_queues q n s.next).greater

    n_shelved : n < length x.arena.shelves
    n_shelved = omega (arith, (hop_ahead x.queues.specs law.lawful_queues q n s.next).there, law.shelves)

    pub falls_forwarded : FallsBy q x w
    falls_forwarded = by_count count does forwards.messages forwards.within
      where
        by_count : (count : ℕ) → all_forwarded q n (queued_blocks_of x) ≡ (count, queued_blocks_of w) → w.arena ≡ with_forwarded q n count x.arena → count ≤ length (shelf_at x.arena q) → FallsBy q x w
        by_count zero does messages within =
            inr (
              ap (λ (a : Arena). weigh a.shelves) messages,
              none_powers q n (queued_blocks_of x) law.lawful_queues (omega (arith, law.flagged, hop_within x.queues.specs law.lawful_queues q n s.next)) (queued_blocks_of w) does,
            )
        by_count (suc count) does messages within =
            let less = (forwarded_weighs q n greater (suc count) x.arena n_shelved within).less in
            inl (omega (arith, less, ap (λ (a : Arena). weigh a.shelves) messages))

    -- the sides have the same messages, in the same order
    order_forwarded : KeepsOrder x w
    order_forwarded e r last there =
        ap (λ (a : Arena). side_of x.queues.specs a r e) forwards.messages
        ∙ side_forwarded x.queues.specs law.lawful_queues q n s.next r e last there count x.arena n_shelved forwards.within

-- ---- the first queue of the run list of pool v was served

module _ (v x : PoolValue) (q n : ℕ) (begun : IsBegun q n v x) where
  pub falls_begun : (w : PoolValue) → w.queues.specs ≡ x.queues.specs → IsLawful w → FallsBy q x w → work (queued_blocks_of w) < work (queued_blocks_of v)
  falls_begun w specs law falls =
      elim falls [
        | inl less ↦
            falls_on (queued_blocks_of v) (queued_blocks_of w) specs_then (omega (arith, less, ap (λ (p : PoolValue). weigh p.arena.shelves) begun.after)) law.short (run_below w law)
        | inr still ↦
            falls_still (queued_blocks_of v) (queued_blocks_of w) specs_then (still.0 ∙ ap (λ (p : PoolValue). weigh p.arena.shelves) begun.after)
            (omega (arith, still.1, ap powers begun.run))
      ]
    where
      specs_then : w.queues.specs ≡ v.queues.specs
      specs_then = specs ∙ ap (λ (p : PoolValue). p.queues.specs) begun.after

  module _ (w : PoolValue) (count : ℕ) (does : all_forwarded q n (queued_blocks_of x) ≡ (count, queued_blocks_of w)) where
    pub served_begun : with_first_served (queued_blocks_of v) ≡ queued_blocks_of w
    unfolding with_first_served
    served_begun =
        (λ i. with_any_served (begun.first i) (queued_blocks_of (sym begun.after i)))
        ∙ ap (λ (o : Option ℕ). option_map_or (λ t. (all_forwarded q t (queued_blocks_of x)).1) o (queued_blocks_of x)) (ap (λ (p : PoolValue). next_of p.queues.specs q) begun.after ∙ begun.next)
        ∙ ap (λ (r : ℕ × QueuedBlocks). r.1) does

    pub order_begun : AreKeptAwake v → Forwards q n count x w → KeepsOrder v w
    order_begun kept forwards = subst (λ (p : PoolValue). KeepsOrder p w) begun.after (order_forwarded q n x begun.lawful (begun.serving kept) w count does forwards)

-- ---- for the calls

-- the first queue of the run list exists, and has a next queue
module _ (v : PoolValue) (q : ℕ) (first : rows.first v.queues.run ≡ Some q) (law : IsLawful v) where
  pub first_serves : (spec_at v.queues.specs q).service ≡ true
  first_serves = subst (All (λ p. (spec_at v.queues.specs p).service ≡ true)) (first_of v.queues.run q first) law.served 0 q (omega arith)

  pub first_there : q < length v.queues.specs
  first_there = subst (All (λ p. p < length v.queues.specs)) (first_of v.queues.run q first) (run_below v law) 0 q (omega arith)

  pub first_goes_on : AreSides v.queues.specs → next_of v.queues.specs q ≡ None → ⊥
  first_goes_on sides none = false≢true (sym (ap is_some none) ∙ sym (sides q) ∙ first_serves)

-- with an empty run list, no queue is served
pub none_served : (v : QueuedBlocks) → v.queues.run ≡ [] → with_first_served v ≡ v
unfolding with_first_served
none_served v none =
    (λ i. with_any_served (rows.first (none i)) (with_state (λ s. record s { run = drop 1 (none i) }) v))
    ∙ (λ i. record v { queues = record v.queues { run = sym none i } })

-- one more queue was served
pub served_more : (count : ℕ) (old now new : QueuedBlocks) → now ≡ with_served count old → with_first_served now ≡ new → new ≡ with_served (suc count) old
unfolding with_served
served_more count old now new is served = sym served ∙ ap with_first_served is

pub served_none : (old : QueuedBlocks) → old ≡ with_served 0 old
unfolding with_served
served_none old = refl

-- what keeps the order twice keeps it
pub order_more : (v now new : PoolValue) → now.queues.specs ≡ v.queues.specs → KeepsOrder v now → KeepsOrder now new → KeepsOrder v new
order_more v now new specs before step end rank last there =
    subst
    (λ (s : List QueueSpec). next_of s end ≡ None → end < length s → side_of s new.arena rank end ≡ side_of s now.arena rank end)
    specs (step end rank) last there
    ∙ before end rank last there

-- ---- the first queue of the run list exists, and so does its next queue, so a service is refused nothing

-- what a call returns that is not refused
abbrev pub okay : {A : Type 0} → A → Result A Refusal
okay x = Ok x

-- a run list without a first queue is empty
pub none_at : (xs : List ℕ) → slice_get xs 0 ≡ None → xs ≡ []
none_at [] is = refl
none_at (q ∷ qs) is = absurd (none-some q (sym is))

first_at : (xs : List ℕ) (q : ℕ) → slice_get xs 0 ≡ Some q → rows.first xs ≡ Some q
first_at [] q is = is
first_at (p ∷ ps) q is = is

-- on sides each queue of the run list has a next one
pub blocked_not : (v : PoolValue) → IsLawful v → AreSides v.queues.specs → IsBlocked v → ⊥
blocked_not v law sides blocked = first_goes_on v blocked.0 blocked.1 law sides blocked.2

-- pool v, whose first queue of the run list is q
module _ (v : PoolValue) (q : ℕ) (at : slice_get v.queues.run 0 ≡ Some q) (law : IsLawful v) where
  first : rows.first v.queues.run ≡ Some q
  first = first_at v.queues.run q at

  q_there : has_queue v q ≡ true
  q_there = lt-ltb q (length v.queues.specs) (first_there v q first law)

  found : (r : Result QueueSpec Refusal) → r ≡ looks.queue_spec q (queued_blocks_of v) → r ≡ Ok (spec_at v.queues.specs q)
  found r is = is ∙ cond-true _ _ _ q_there

  pub refused_not : (r : Result QueueSpec Refusal) → r ≡ looks.queue_spec q (queued_blocks_of v) → (why : Refusal) → r ≡ Err why → ⊥
  refused_not r is why err = let ok = found r is in absurd (cc)

  module _ (spec : QueueSpec) (is : okay spec ≡ looks.queue_spec q (queued_blocks_of v)) where
    next_same : next_of v.queues.specs q ≡ spec.next
    next_same = let ok : okay spec ≡ okay (spec_at v.queues.specs q) = found (okay spec) is in let same : spec ≡ spec_at v.queues.specs q = cc in sym (ap (λ (s : QueueSpec). s.next) same)

    pub blocked : spec.next ≡ None → IsBlocked v
    blocked none = (q, first, next_same ∙ none)

    -- its next queue is n, and it has left the run list
    module _ (n : ℕ) (next : spec.next ≡ Some n) (x : PoolValue) (after : x ≡ with_queued v (next_service (queued_blocks_of v)).1) where
      next_is : next_of v.queues.specs q ≡ Some n
      next_is = next_same ∙ next

      next_apart : q ≡ n → ⊥
      next_apart same = omega (arith, same, (hop_ahead v.queues.specs law.lawful_queues q n next_is).greater)

      n_there : has_queue x n ≡ true
      n_there = ap (λ (p : PoolValue). has_queue p n) after ∙ lt-ltb n (length v.queues.specs) (hop_ahead v.queues.specs law.lawful_queues q n next_is).there

      pub begun : IsLawful x → IsBegun q n v x
      begun law_then = record {
        first = first;
        next = next_is;
        after = after;
        run = run_is v x q after first;
        once = (subst rows.IsApart (run_is v x q after first) law.once).0;
        serving = λ kept. serving_begun v x q after first n kept.sides kept.awake next_is;
        behind = ap (λ (p : PoolValue). has_queue p q) after ∙ q_there;
        ahead = n_there;
        apart = next_apart;
        lawful = law_then;
      }
