-- What the start of a service leaves: its queue rests, or gives a message and is enabled again.
use Rattle.std.proofs.Common.{◌≡◌, ℕ, ◌+◌, ◌<◌, Bool, true, false, List, [], ◌∷◌, length, get_or, set, Option, Some, None, sym, ap, ◌∙◌, subst, arith, Ok, refl, get_or-set_other, length-set}
use Rattle.std.proofs.lemmas.Bool.{false≢true}
use Rattle.strm_links.specs.Rows as rows
use Rattle.strm_mblk.specs.declared.token.TokenValue.{TokenValue}
use Rattle.strm_scheduler.specs.Forwarding.{KeepsRest, hand_first, handed_on, has_leave, with_first_off, with_one_placed}
use Rattle.strm_scheduler.proofs.Moving.{within}
use Rattle.strm_mblk.specs.Block.{Message}
use Rattle.strm_mblk.specs.Arena.{Arena, has, held_at}
use Rattle.strm_pool.specs.PoolValue.{PoolValue, arena, queued_blocks_of}
use Rattle.strm_queue.specs.QueueCalls.{messages_on}
use Rattle.strm_queue.specs.QueuedBlocks.{QueuedBlocks}
use Rattle.strm_scheduler.specs.Laws.{AreKeptAwake}
use Rattle.strm_scheduler.specs.Steps.{with_queue_enabled}
use Rattle.strm_scheduler.specs.Serving.{IsBegun, IsTaken, power, powers}
use Rattle.strm_scheduler.proofs.Falling.{handed_powers}
use Rattle.strm_mblk.specs.Calls.{TakesAny}
use Rattle.strm_mblk.proofs.arena.Counts.{had_is}
use Rattle.strm_pool.proofs.Tokens.{has_here}
use Rattle.strm_scheduler.specs.Running.{IsGiven, IsRested, with_woken_first}
use Rattle.strm_scheduler.proofs.Holding.{kept_enabled}
use Rattle.strm_scheduler.proofs.Turning.{kept_woken, serving_woken, woken_arena, woken_powers}
use Rattle.strm_scheduler.proofs.Treated.{awake_ended, serving_taken}

-- ---- held messages

-- handing on leaves the held messages, and the pool's id
record IsHeldSame (v w : PoolValue) : Type 0 where
  pub held : w.arena.held ≡ v.arena.held
  pub id : w.arena.id ≡ v.arena.id

placed_held : (q n : ℕ) (m : Message) (goes : Bool) (v : QueuedBlocks) → (with_one_placed q n m goes v).arena.held ≡ v.arena.held
placed_held q n m true v = refl
placed_held q n m false v = refl

placed_id : (q n : ℕ) (m : Message) (goes : Bool) (v : QueuedBlocks) → (with_one_placed q n m goes v).arena.id ≡ v.arena.id
placed_id q n m true v = refl
placed_id q n m false v = refl

first_held : (q n : ℕ) (ms : List Message) (v : QueuedBlocks) → (hand_first q n ms v).1.arena.held ≡ v.arena.held
first_held q n [] v = refl
first_held q n (m ∷ ms) v = let off : QueuedBlocks = with_first_off q ms v in placed_held q n m (has_leave n off.queues off.arena m) off

first_id : (q n : ℕ) (ms : List Message) (v : QueuedBlocks) → (hand_first q n ms v).1.arena.id ≡ v.arena.id
first_id q n [] v = refl
first_id q n (m ∷ ms) v = let off : QueuedBlocks = with_first_off q ms v in placed_id q n m (has_leave n off.queues off.arena m) off

handed_same : (q n : ℕ) (v w : PoolValue) → handed_on q n (queued_blocks_of v) ≡ (false, queued_blocks_of w) → IsHeldSame v w
unfolding handed_on
handed_same q n v w ended = record {
  held = sym (ap (λ (r : Bool × QueuedBlocks). r.1.arena.held) ended) ∙ first_held q n (messages_on (queued_blocks_of v) q) (queued_blocks_of v);
  id = sym (ap (λ (r : Bool × QueuedBlocks). r.1.arena.id) ended) ∙ first_id q n (messages_on (queued_blocks_of v) q) (queued_blocks_of v);
}

-- ---- a service

-- queue q, whose next is queue n, has left the run list of pool v
module _ (q n : ℕ) (v x : PoolValue) (begun : IsBegun q n v x) where
  -- it rests
  module _ (left : PoolValue) (ended : handed_on q n (queued_blocks_of x) ≡ (false, queued_blocks_of left)) (rest : KeepsRest x left)
      (enabled : ℕ) (w : PoolValue) (after : w ≡ with_woken_first enabled left) where
    pub rests : enabled ≡ length v.queues.run → IsRested v w
    rests count = record {
      queue = q;
      next = n;
      first = begun.first;
      goes_on = begun.next;
      left = left;
      stays = ap (λ (p : PoolValue). handed_on q n (queued_blocks_of p)) (sym begun.after) ∙ ended;
      wishes = rest.wishes ∙ ap (λ (p : PoolValue). p.wishes) begun.after;
      after = after ∙ ap (λ k. with_woken_first k left) count;
    }

    pub rests_awake : AreKeptAwake v → AreKeptAwake w
    rests_awake kept = subst AreKeptAwake (sym after) (kept_woken enabled left (awake_ended q n x begun.lawful (begun.serving kept) left ended rest.specs))

    arena_rested : w.arena ≡ left.arena
    arena_rested = ap (λ (p : PoolValue). p.arena) after ∙ woken_arena enabled left

    pub rests_held : w.arena.held ≡ v.arena.held
    rests_held = ap (λ (a : Arena). a.held) arena_rested ∙ (handed_same q n x left ended).held ∙ ap (λ (p : PoolValue). p.arena.held) begun.after

    pub rests_id : w.arena.id ≡ v.arena.id
    rests_id = ap (λ (a : Arena). a.id) arena_rested ∙ (handed_same q n x left ended).id ∙ ap (λ (p : PoolValue). p.arena.id) begun.after

    pub rests_less : powers w.queues.run < powers v.queues.run
    rests_less =
        let same = ap (λ (p : PoolValue). powers p.queues.run) after ∙ woken_powers enabled left in
        let less =
        subst (λ (r : Bool × QueuedBlocks). powers r.1.queues.run < power q + powers x.queues.run) ended
        (handed_powers q n (queued_blocks_of x) begun.lawful.lawful_queues (within x q _ begun.behind begun.lawful.flagged) (ap (λ (r : Bool × QueuedBlocks). r.0) ended)) in
        omega (arith, less, same, ap powers begun.run)

  -- it gives the message of token t
  module _ (t : TokenValue) (left : PoolValue) (taken : IsTaken q n t x left) (enabled : ℕ) (w : PoolValue) (after : w ≡ with_queue_enabled q (with_woken_first enabled left)) where
    arena_after : w.arena ≡ left.arena
    arena_after = ap (λ (p : PoolValue). p.arena) after ∙ woken_arena enabled left

    had_after : has w.arena t ≡ true
    had_after = ap (λ (a : Arena). has a t) arena_after ∙ taken.had

    pub gives_awake : AreKeptAwake v → AreKeptAwake w
    gives_awake kept =
        subst AreKeptAwake (sym after) (kept_enabled q n (with_woken_first enabled left) (serving_woken q n enabled left (serving_taken q n x begun.lawful (begun.serving kept) t left taken)))

    pub gives : (held : ℕ) → enabled ≡ length v.queues.run → IsGiven held (record { queue = q; next = n; held = held }) t v w
    gives held count = record {
      first = begun.first;
      goes_on = begun.next;
      left = left;
      taken = subst (λ (p : PoolValue). IsTaken q n t p left) begun.after taken;
      after = after ∙ ap (λ k. with_queue_enabled q (with_woken_first k left)) count;
      had = had_after;
      held_is = refl;
    }

    -- the held messages are those of u, and this one
    pub gives_held : (u : PoolValue) → v.arena.held ≡ u.arena.held → v.arena.id ≡ u.arena.id → held_at x.arena t.head ≡ None → TakesAny arena (Ok (Some t.head, w)) u w (Ok (Some t))
    gives_held u held id unheld =
        let before : x.arena.held ≡ u.arena.held = ap (λ (p : PoolValue). p.arena.held) begun.after ∙ held in
        let now : w.arena.held ≡ set u.arena.held t.head (Some taken.message) =
        ap (λ (a : Arena). a.held) (arena_after ∙ taken.arena) ∙ (λ i. set (before i) (sym taken.head i) (Some taken.message)) in
        record {
          after = refl;
          token = ap (λ (k : TokenValue). Ok (Some k)) (had_is w.arena t had_after);
          had = had_after;
          unheld = ap (λ (ms : List (Option Message)). get_or ms t.head None) (sym before) ∙ unheld;
          others = record {
            id = ap (λ (a : Arena). a.id) (arena_after ∙ taken.arena) ∙ ap (λ (p : PoolValue). p.arena.id) begun.after ∙ id;
            size = ap length now ∙ length-set u.arena.held t.head (Some taken.message);
            held = λ h other. ap (λ (ms : List (Option Message)). get_or ms h None) now ∙ get_or-set_other u.arena.held t.head h (Some taken.message) None (λ same. false≢true (sym other ∙ ap (λ (k : ℕ). rows.has h (k ∷ [])) (sym same) ∙ has_here h []));
          };
        }
