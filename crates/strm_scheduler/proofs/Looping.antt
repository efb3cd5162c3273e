-- What forwarding leaves after some messages, and in the end.
use Rattle.std.proofs.Common.{◌≡◌, ℕ, ◌<◌, true, false, drop, length, refl, sym, ap, ◌∙◌, arith, zero, suc, ◌+◌, ◌-◌, ◌≤◌, add-one, add-zero, length-drop}
use Rattle.std.proofs.lemmas.List.{drop-drop}
use Rattle.strm_mblk.specs.Arena.{Arena, census_of, shelf_at, shelved_blocks}
use Rattle.strm_mblk.specs.Messages.{blocks_held}
use Rattle.strm_pool.specs.PoolValue.{PoolValue, queued_blocks_of}
use Rattle.strm_queue.specs.QueuedBlocks.{QueuedBlocks}
use Rattle.strm_scheduler.specs.Forwarding.{Forwards, Goes, KeepsRest, Stays, all_forwarded, forwarded, go_on, handed_on, may_go, with_first_forwarded, with_forwarded}
use borrow.Author.Count.{below_more}

-- this number of messages has gone, each allowed by flow control, and the others are left
pub record IsOn (from to count : ℕ) (old now : PoolValue) : Type 0 where
  pub messages : now.arena ≡ with_forwarded from to count old.arena
  pub within : count ≤ length (shelf_at old.arena from)
  pub left : shelf_at now.arena from ≡ drop count (shelf_at old.arena from)
  pub leave : (k : ℕ) → k < count → may_go from to old.queues (with_forwarded from to k old.arena) ≡ true
  -- those that are left give the rest of what all give
  pub same : all_forwarded from to (queued_blocks_of old) ≡ ((all_forwarded from to (queued_blocks_of now)).0 + count, (all_forwarded from to (queued_blocks_of now)).1)
  pub rest : KeepsRest old now

-- ---- one attempt

one_more : (attempts from to : ℕ) (v w : QueuedBlocks) → handed_on from to v ≡ (true, w) → forwarded (suc attempts) from to v ≡ ((forwarded attempts from to w).0 + 1, (forwarded attempts from to w).1)
unfolding forwarded
one_more attempts from to v w is = ap (go_on (forwarded attempts from to)) is

no_more : (attempts from to : ℕ) (v w : QueuedBlocks) → handed_on from to v ≡ (false, w) → forwarded (suc attempts) from to v ≡ (0, w)
unfolding forwarded
no_more attempts from to v w is = ap (go_on (forwarded attempts from to)) is

keeps : (v w x : PoolValue) → KeepsRest v w → KeepsRest w x → KeepsRest v x
keeps v w x first later = record { specs = later.specs ∙ first.specs; marks = later.marks ∙ first.marks; wishes = later.wishes ∙ first.wishes }

moved_free : (from to n : ℕ) (a : Arena) → (with_forwarded from to n a).free ≡ a.free
moved_free from to zero a = refl
moved_free from to (suc n) a = moved_free from to n a

moved_held : (from to n : ℕ) (a : Arena) → (with_forwarded from to n a).held ≡ a.held
moved_held from to zero a = refl
moved_held from to (suc n) a = moved_held from to n a

module _ (from to : ℕ) (old : PoolValue) where
  pub begun : IsOn from to 0 old old
  begun = record {
    messages = refl;
    within = omega arith;
    left = refl;
    leave = λ k below. absurd (omega (arith, below));
    same = λ i. (sym (add-zero (all_forwarded from to (queued_blocks_of old)).0) i, (all_forwarded from to (queued_blocks_of old)).1);
    rest = record { specs = refl; marks = refl; wishes = refl };
  }

  module _ (n : ℕ) (now later : PoolValue) (on : IsOn from to n old now) where
    -- leave is asked of the queues as they were at first
    leave_then : may_go from to now.queues now.arena ≡ may_go from to old.queues (with_forwarded from to n old.arena)
    leave_then = λ i. may_go from to (record now.queues { specs = on.rest.specs i; marks = on.rest.marks i }) (on.messages i)

    left_now : length (shelf_at now.arena from) ≡ length (shelf_at old.arena from) - n
    left_now = ap length on.left ∙ length-drop n (shelf_at old.arena from)

    -- one went, and there is one attempt less
    all_further : handed_on from to (queued_blocks_of now) ≡ (true, queued_blocks_of later) → Goes from to now later
        → all_forwarded from to (queued_blocks_of now) ≡ ((all_forwarded from to (queued_blocks_of later)).0 + 1, (all_forwarded from to (queued_blocks_of later)).1)
    all_further handed goes =
        let attempts : length (shelf_at now.arena from) ≡ suc (length (shelf_at later.arena from)) = omega (arith, goes.some, ap length goes.left, length-drop 1 (shelf_at now.arena from)) in
        one_more (length (shelf_at now.arena from)) from to (queued_blocks_of now) (queued_blocks_of later) handed
        ∙ ap (λ k. ((forwarded k from to (queued_blocks_of later)).0 + 1, (forwarded k from to (queued_blocks_of later)).1)) attempts

    same_further : (r x : ℕ × QueuedBlocks) → r ≡ (x.0 + 1, x.1) → all_forwarded from to (queued_blocks_of old) ≡ (r.0 + n, r.1) → all_forwarded from to (queued_blocks_of old) ≡ (x.0 + (n + 1), x.1)
    same_further r x is same = let sum : (x.0 + 1) + n ≡ x.0 + (n + 1) = omega arith in same ∙ ap (λ (p : ℕ × QueuedBlocks). (p.0 + n, p.1)) is ∙ ap (λ k. (k, x.1)) sum

    same_ended : (r : ℕ × QueuedBlocks) → r ≡ (0, queued_blocks_of later) → all_forwarded from to (queued_blocks_of old) ≡ (r.0 + n, r.1) → all_forwarded from to (queued_blocks_of old) ≡ (n, queued_blocks_of later)
    same_ended r is same = let sum : 0 + n ≡ n = omega arith in same ∙ ap (λ (p : ℕ × QueuedBlocks). (p.0 + n, p.1)) is ∙ ap (λ k. (k, queued_blocks_of later)) sum

    pub ended_whole : handed_on from to (queued_blocks_of now) ≡ (false, queued_blocks_of later) → all_forwarded from to (queued_blocks_of old) ≡ (n, queued_blocks_of later)
    ended_whole handed = same_ended _ (no_more (length (shelf_at now.arena from)) from to (queued_blocks_of now) (queued_blocks_of later) handed) on.same

    pub further : handed_on from to (queued_blocks_of now) ≡ (true, queued_blocks_of later) → Goes from to now later → IsOn from to (n + 1) old later
    further handed goes = record {
      messages = goes.messages ∙ ap (with_first_forwarded from to) on.messages ∙ ap (λ k. with_forwarded from to k old.arena) (sym (add-one n));
      within = omega (arith, goes.some, left_now);
      left = goes.left ∙ ap (drop 1) on.left ∙ drop-drop 1 n (shelf_at old.arena from);
      leave = below_more _ _ on.leave (sym leave_then ∙ goes.leave);
      same = same_further _ _ (all_further handed goes) on.same;
      rest = keeps old now later on.rest goes.rest;
    }

    module _ (stays : Stays from to now later) (whole : (census_of old.arena).free + (census_of old.arena).queued + (census_of old.arena).held ≡ length old.arena.held)
        (whole_then : (census_of later.arena).free + (census_of later.arena).queued + (census_of later.arena).held ≡ length later.arena.held) where
      messages_then : later.arena ≡ with_forwarded from to n old.arena
      messages_then = stays.messages ∙ on.messages

      free_same : later.arena.free ≡ old.arena.free
      free_same = ap (λ (a : Arena). a.free) messages_then ∙ moved_free from to n old.arena

      held_same : later.arena.held ≡ old.arena.held
      held_same = ap (λ (a : Arena). a.held) messages_then ∙ moved_held from to n old.arena

      counted_same : length (shelved_blocks later.arena) ≡ length (shelved_blocks old.arena)
      counted_same = omega (arith, whole, whole_then, ap length free_same, ap length held_same, ap (λ held. length (blocks_held held)) held_same)

      pub ended : Forwards from to n old later
      ended = record {
        messages = messages_then;
        within = on.within;
        left = ap (λ a. shelf_at a from) stays.messages ∙ on.left;
        census = λ i. record { free = length (free_same i); queued = counted_same i; held = length (blocks_held (held_same i)) };
        leave = on.leave;
        stops = λ more. ap (may_go from to old.queues) messages_then ∙ sym leave_then ∙ stays.leave (omega (arith, more, left_now));
        reads = λ all. stays.reads (omega (arith, all, left_now));
        rest = keeps old now later on.rest stays.rest;
      }
