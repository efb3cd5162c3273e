use Rattle.std.proofs.Common.{◌≡◌, ◌<◌, ◌+◌, ℕ, List, Bool, Option, ◌++◌, ◌∷◌, [], length, arith, ap, refl, subst, sym, ◌∙◌, true, append_assoc}
use Rattle.std.specs.Prelude.{filter, not}
use Rattle.strm_links.specs.Rows.{after, first, has}
use Rattle.strm_mblk.specs.Arena.{shelf_at}
use Rattle.strm_mblk.specs.Block.{Message}
use Rattle.strm_mblk.specs.Shelves.{heads_at, is_on}
use Rattle.strm_mblk.proofs.arena.Stands.{shelf_of-there}
use Rattle.strm_queue.specs.Flush.{is_flushed, is_picked, with_freed}
use Rattle.strm_queue.specs.Flushing.{messages_from_band}
use Rattle.strm_queue.specs.QueuedBlocks.{AreInOrder, QueuesValue}
use Rattle.strm_queue.proofs.Agreeing.{in_order_left}
use Rattle.strm_queue.proofs.moving.Flushing.{IsFlushing, IsPassed, behind_next, flushing_data, flushing_freed, flushing_kept, freed_off_shelf, flushed_same, flushing_none, from_band_passed, from_band_same, next, next_is, next_taken, next_there}
use Rattle.strm_queue.proofs.Shelf.{FirstParts, first_there, heads}
use Rattle.strm_queue.proofs.queues.Queues.flush_shelf.Goals as goal
use Rattle.strm_queue.proofs.queues.Queues.flush_shelf.Goals.{After-reads_alike, After-takes, then-takes, else-takes}

-- the shelf exists
within : (c : After-reads_alike) → c.args.queue < length c.args.blocks.now.shelves
within c = omega (arith, c.requires.queue, c.requires.in_order.shelves)

pub loop-message-init : goal.loop-message-init
loop-message-init c = (
  flushing_none with_freed freed_off_shelf (is_picked c.args.blocks.now.store c.args.band c.args.flush) (is_flushed c.args.blocks.now.store c.args.flush) c.args.blocks.now c.args.queue (omega (arith, c.requires.queue, c.requires.in_order.shelves)) c.onward-at.result
      (messages_from_band c.args.blocks.now.store c.args.band (shelf_at c.args.blocks.now c.args.queue)) (from_band_passed c.args.blocks.now.store c.args.flush c.args.band (shelf_at c.args.blocks.now c.args.queue))
      (c.onward-at.ensures [] (shelf_at c.args.blocks.now c.args.queue) refl c.first.ensures),
  refl,
  c.requires.in_order,
)

module _ (c : After-reads_alike) where
  abbrev picked : Message → Bool
  picked = is_picked c.args.blocks.now.store c.args.band c.args.flush

  abbrev taken : Message → Bool
  taken = is_flushed c.args.blocks.now.store c.args.flush

  abbrev so_far : IsFlushing with_freed picked taken c.args.blocks.now c.args.queue c.loop-message._message c.loop-message.at c.loop-message.blocks
  so_far = c.loop-message.invariant.0

  -- the message at the loop's head
  abbrev one : FirstParts c.in-Some.head so_far.post
  one = next with_freed freed_off_shelf picked taken c.args.blocks.now c.args.queue (within c) c.loop-message._message c.loop-message.at c.loop-message.blocks so_far c.in-Some.head c.in-Some.is

  -- it is on the queue
  there : is_on c.loop-message.blocks c.args.queue c.in-Some.head ≡ true
  there = next_there with_freed freed_off_shelf picked taken c.args.blocks.now c.args.queue (within c) c.loop-message._message c.loop-message.at c.loop-message.blocks so_far c.in-Some.head c.in-Some.is

  abbrev ahead : List Message
  ahead = filter (λ m. not (picked m)) so_far.pre

  here : shelf_at c.loop-message.blocks c.args.queue ≡ ahead ++ one.at ∷ one.post
  here = next_is with_freed freed_off_shelf picked taken c.args.blocks.now c.args.queue (within c) c.loop-message._message c.loop-message.at c.loop-message.blocks so_far c.in-Some.head c.in-Some.is

  same_data : c.loop-message.blocks.store.blocks ≡ c.args.blocks.now.store.blocks
  same_data = flushing_data with_freed freed_off_shelf picked taken c.args.blocks.now c.args.queue (within c) c.loop-message._message c.loop-message.at c.loop-message.blocks so_far

  -- the message after it
  behind : (o : Option ℕ) → o ≡ after c.in-Some.head (heads_at c.loop-message.blocks c.args.queue) → o ≡ first (heads one.post)
  behind = behind_next with_freed freed_off_shelf picked taken c.args.blocks.now c.args.queue (within c) c.loop-message._message c.loop-message.at c.loop-message.blocks so_far c.in-Some.head c.in-Some.is (c.reads_alike.ensures.apart c.args.queue)

  -- the rest of the shelf from the band's next message on
  abbrev rest : List Message
  rest = messages_from_band c.args.blocks.now.store c.args.band one.post

  passed : IsPassed picked taken one.post rest
  passed = from_band_passed c.args.blocks.now.store c.args.flush c.args.band one.post

pub after-requires : goal.after-requires
after-requires c = shelf_of-there c.loop-message.blocks c.args.queue c.in-Some.head (there (goal.at.after-requires c).After-reads_alike)

pub onward-at-requires-in-loop-message-clause-at : goal.onward-at-requires-in-loop-message-clause-at
onward-at-requires-in-loop-message-clause-at c x some =
    let at = (goal.at.onward-at-requires-in-loop-message-clause-at c).After-reads_alike in
    ap (λ ms. has x (heads ms)) (here at ∙ sym (append_assoc (ahead at) ((one at).at ∷ []) (one at).post))
    ∙ first_there x (ahead at ++ (one at).at ∷ []) (one at).post (sym (behind at c.after.result (c.after.ensures c.args.queue (there at))) ∙ some)

pub takes-requires : goal.takes-requires
takes-requires c = shelf_of-there c.loop-message.blocks c.args.queue c.in-Some.head (there (goal.at.takes-requires c).After-reads_alike)

pub unshelve_apart-token-requires-clause-there : goal.unshelve_apart-token-requires-clause-there
unshelve_apart-token-requires-clause-there c = there (goal.at.unshelve_apart-token-requires-clause-there c).After-reads_alike

-- `takes` says whether it is picked
asked : (c : After-takes) → c.takes.result ≡ picked c.before.before.before (one c.before.before.before).at
asked c =
    let at = c.before.before.before in
    c.takes.ensures c.args.queue (ahead at) (one at).post (one at).at (here at) (one at).head
    ∙ flushed_same c.args.blocks.now.store c.loop-message.blocks.store (same_data at) c.args.flush (one at).at
    ∙ sym (next_taken with_freed freed_off_shelf (picked at) (taken at) c.args.blocks.now c.args.queue (within at) c.loop-message._message c.loop-message.at c.loop-message.blocks (so_far at) c.in-Some.head c.in-Some.is)

-- where the loop goes on
gone_on : (c : After-takes) → c.onward-at-in-loop-message.result ≡ first (heads (rest c.before.before.before))
gone_on c =
    let at = c.before.before.before in
    c.onward-at-in-loop-message.ensures (ahead at ++ (one at).at ∷ []) (one at).post (here at ∙ sym (append_assoc (ahead at) ((one at).at ∷ []) (one at).post))
    (behind at c.after.result (c.after.ensures c.args.queue (there at)))
    ∙ ap (λ ms. first (heads ms)) (from_band_same c.args.blocks.now.store c.loop-message.blocks.store (same_data at) c.args.band (one at).post)

pub loop-message-preserved : goal.loop-message-preserved
loop-message-preserved c =
    let end = (goal.at.loop-message-preserved c).After-takes in
    let at = (goal.at.loop-message-preserved c).After-reads_alike in
    let is = sym (asked end) in
    elim c.if-takes.branch [
      | then-takes w ↦ (
        flushing_freed (picked at) (taken at) c.args.blocks.now c.args.queue (within at) c.loop-message._message c.loop-message.at c.loop-message.blocks (so_far at) c.in-Some.head c.in-Some.is (c.reads_alike.ensures.apart c.args.queue)
            c.onward-at-in-loop-message.result (rest at) (passed at) (gone_on end) (is ∙ w.if-takes.true) c.if-takes.blocks
            (record {
              taken = w.unshelve_apart-token.new.blocks;
              token = w.unshelve_apart-token.result;
              takes = w.unshelve_apart-token.ensures.takes;
              spent_is = w.blocks-is ∙ w.freemsg.ensures.after;
            }),
        ap (λ (v : QueuesValue). v.state) w.self-is ∙ w.unshelve_apart-token.ensures.state ∙ c.loop-message.invariant.1,
        subst (λ v. AreInOrder v c.if-takes.blocks) (sym w.self-is)
            (subst (AreInOrder w.unshelve_apart-token.new.self) (sym w.blocks-is)
            (in_order_left w.unshelve_apart-token.new.self w.unshelve_apart-token.new.blocks w.freemsg.new.self w.freemsg.ensures.shelves.shelves w.freemsg.ensures.shelves.shelved_data w.unshelve_apart-token.ensures.in_order)),
      )
      | else-takes w ↦ (
        subst (λ b. IsFlushing with_freed (picked at) (taken at) c.args.blocks.now c.args.queue (c.loop-message._message + 1) c.onward-at-in-loop-message.result b) (sym w.blocks-is)
            (flushing_kept with_freed freed_off_shelf (picked at) (taken at) c.args.blocks.now c.args.queue (within at) c.loop-message._message c.loop-message.at c.loop-message.blocks (so_far at) c.in-Some.head c.in-Some.is (c.reads_alike.ensures.apart c.args.queue)
            c.onward-at-in-loop-message.result (rest at) (passed at) (gone_on end) (is ∙ w.if-takes.false)),
        ap (λ (v : QueuesValue). v.state) w.self-is ∙ c.loop-message.invariant.1,
        subst (λ v. AreInOrder v c.if-takes.blocks) (sym w.self-is) (subst (AreInOrder c.loop-message.self) (sym w.blocks-is) c.loop-message.invariant.2),
      )
    ]
