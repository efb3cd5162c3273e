use Rattle.std.proofs.Common.{◌≡◌, ◌<◌, ◌+◌, ℕ, List, Bool, Option, ◌++◌, ◌∷◌, [], length, arith, ap, refl, subst, sym, ◌∙◌, true, inl, inr, append_assoc, length-append}
use Rattle.std.specs.Prelude.{filter, not}
use Rattle.strm_links.specs.Rows.{after, first, has}
use Rattle.strm_mblk.specs.Arena.{shelf_at}
use Rattle.strm_mblk.specs.Block.{Message}
use Rattle.strm_mblk.specs.Shelves.{heads_at, is_on}
use Rattle.strm_mblk.proofs.arena.Stands.{shelf_of-there}
use Rattle.strm_queue.specs.Flush.{is_flushed, is_picked}
use Rattle.strm_queue.specs.Flushing.{messages_from_band}
use Rattle.strm_queue.specs.Taking.{with_all_held}
use Rattle.strm_queue.proofs.moving.Flushing.{IsFlushing, IsPassed, behind_next, flushing_data, flushed_same, from_band_passed, from_band_same, next, next_is, next_taken, next_there}
use Rattle.strm_queue.proofs.moving.Taking.{IsTaking, held_off_shelf, taking_done, taking_gone, taking_kept, taking_none}
use Rattle.strm_queue.proofs.Shelf.{FirstParts, first_none, first_there, heads}
use Rattle.strm_queue.proofs.queues.Queues.take_shelf.Goals as goal
use Rattle.strm_queue.proofs.queues.Queues.take_shelf.Goals.{After-reads_alike, then-take_one, else-take_one}

pub loop-message-init : goal.loop-message-init
loop-message-init g c = (
  taking_none g.R.Receiver.receives (is_picked c.args.blocks.now.store c.args.band c.args.flush) (is_flushed c.args.blocks.now.store c.args.flush) c.args.blocks.now c.args.queue (omega (arith, c.requires.queue, c.requires.in_order.shelves)) c.onward-at.result
      (messages_from_band c.args.blocks.now.store c.args.band (shelf_at c.args.blocks.now c.args.queue)) (from_band_passed c.args.blocks.now.store c.args.flush c.args.band (shelf_at c.args.blocks.now c.args.queue))
      (c.onward-at.ensures [] (shelf_at c.args.blocks.now c.args.queue) refl c.first.ensures) c.args.into.now,
  omega arith,
  refl,
  c.requires.in_order,
)

module _ (g : _) (c : After-reads_alike g) where
  within : c.args.queue < length c.args.blocks.now.shelves
  within = omega (arith, c.requires.queue, c.requires.in_order.shelves)

  abbrev picked : Message → Bool
  picked = is_picked c.args.blocks.now.store c.args.band c.args.flush

  abbrev taken : Message → Bool
  taken = is_flushed c.args.blocks.now.store c.args.flush

  abbrev so_far : IsTaking g.R.Receiver.receives picked taken c.args.blocks.now c.args.queue c.loop-message._message c.loop-message.taken c.loop-message.at c.loop-message.blocks c.args.into.now c.loop-message.into
  so_far = c.loop-message.invariant.0

  abbrev walk : IsFlushing with_all_held picked taken c.args.blocks.now c.args.queue c.loop-message._message c.loop-message.at c.loop-message.blocks
  walk = so_far.walk

  -- the message at the loop's head
  abbrev one : FirstParts c.in-Some.head walk.post
  one = next with_all_held held_off_shelf picked taken c.args.blocks.now c.args.queue within c.loop-message._message c.loop-message.at c.loop-message.blocks walk c.in-Some.head c.in-Some.is

  -- it is on the queue
  there : is_on c.loop-message.blocks c.args.queue c.in-Some.head ≡ true
  there = next_there with_all_held held_off_shelf picked taken c.args.blocks.now c.args.queue within c.loop-message._message c.loop-message.at c.loop-message.blocks walk c.in-Some.head c.in-Some.is

  abbrev ahead : List Message
  ahead = filter (λ m. not (picked m)) walk.pre

  here : shelf_at c.loop-message.blocks c.args.queue ≡ ahead ++ one.at ∷ one.post
  here = next_is with_all_held held_off_shelf picked taken c.args.blocks.now c.args.queue within c.loop-message._message c.loop-message.at c.loop-message.blocks walk c.in-Some.head c.in-Some.is

  same_data : c.loop-message.blocks.store.blocks ≡ c.args.blocks.now.store.blocks
  same_data = flushing_data with_all_held held_off_shelf picked taken c.args.blocks.now c.args.queue within c.loop-message._message c.loop-message.at c.loop-message.blocks walk

  -- the message after it
  behind : (o : Option ℕ) → o ≡ after c.in-Some.head (heads_at c.loop-message.blocks c.args.queue) → o ≡ first (heads one.post)
  behind = behind_next with_all_held held_off_shelf picked taken c.args.blocks.now c.args.queue within c.loop-message._message c.loop-message.at c.loop-message.blocks walk c.in-Some.head c.in-Some.is (c.reads_alike.ensures.apart c.args.queue)

  -- the rest of the shelf from the band's next message on
  abbrev rest : List Message
  rest = messages_from_band c.args.blocks.now.store c.args.band one.post

  passed : IsPassed picked taken one.post rest
  passed = from_band_passed c.args.blocks.now.store c.args.flush c.args.band one.post

pub after-requires : goal.after-requires
after-requires g c = shelf_of-there c.loop-message.blocks c.args.queue c.in-Some.head (there g (goal.at.after-requires g c).After-reads_alike)

pub onward-at-requires-in-loop-message-clause-at : goal.onward-at-requires-in-loop-message-clause-at
onward-at-requires-in-loop-message-clause-at g c x some =
    let at = (goal.at.onward-at-requires-in-loop-message-clause-at g c).After-reads_alike in
    ap (λ ms. has x (heads ms)) (here g at ∙ sym (append_assoc (ahead g at) ((one g at).at ∷ []) (one g at).post))
    ∙ first_there x (ahead g at ++ (one g at).at ∷ []) (one g at).post (sym (behind g at c.after.result (c.after.ensures c.args.queue (there g at))) ∙ some)

pub take_one-requires-clause-there : goal.take_one-requires-clause-there
take_one-requires-clause-there g c = there g (goal.at.take_one-requires-clause-there g c).After-reads_alike

pub loop-message-preserved : goal.loop-message-preserved
loop-message-preserved g c =
    let at = (goal.at.loop-message-preserved g c).After-reads_alike in
    let old = c.args.blocks.now in
    -- `take_one` says whether it is picked
    let is =
    sym
    (c.take_one.ensures.asked (ahead g at) (one g at).post (one g at).at (here g at) (one g at).head
    ∙ flushed_same c.args.blocks.now.store c.loop-message.blocks.store (same_data g at) c.args.flush (one g at).at
    ∙ sym (next_taken with_all_held held_off_shelf (picked g at) (taken g at) old c.args.queue (within g at) c.loop-message._message c.loop-message.at c.loop-message.blocks (walk g at) c.in-Some.head c.in-Some.is)) in
    -- where the loop goes on
    let gone_on =
    c.onward-at-in-loop-message.ensures (ahead g at ++ (one g at).at ∷ []) (one g at).post (here g at ∙ sym (append_assoc (ahead g at) ((one g at).at ∷ []) (one g at).post))
    (behind g at c.after.result (c.after.ensures c.args.queue (there g at)))
    ∙ ap (λ ms. first (heads ms)) (from_band_same c.args.blocks.now.store c.loop-message.blocks.store (same_data g at) c.args.band (one g at).post) in
    let before = c.loop-message.invariant in
    let gives = g.R.Receiver.receives in
    elim c.if-take_one.branch [
      | then-take_one w ↦
          let took = c.take_one.ensures.taken w.if-take_one.true in (
            subst (λ n. IsTaking gives (picked g at) (taken g at) old c.args.queue (c.loop-message._message + 1) n c.onward-at-in-loop-message.result c.take_one.new.blocks c.args.into.now c.take_one.new.into) (sym w.taken-is)
                (taking_gone gives (picked g at) (taken g at) old c.args.queue (within g at) c.loop-message._message c.loop-message.taken c.loop-message.at c.loop-message.blocks c.args.into.now c.loop-message.into (so_far g at)
                c.in-Some.head c.in-Some.is (c.reads_alike.ensures.apart c.args.queue) c.onward-at-in-loop-message.result (rest g at) (passed g at) gone_on (is ∙ w.if-take_one.true)
                c.take_one.new.blocks took.0 took.1 c.take_one.new.into took.2),
            omega (arith, before.1, w.taken-is, c.if-taken-most.false),
            c.take_one.ensures.state ∙ before.2,
            c.take_one.ensures.in_order,
          )
      | else-take_one w ↦
          let same = c.take_one.ensures.kept w.if-take_one.false in
          let kept =
          taking_kept gives (picked g at) (taken g at) old c.args.queue (within g at) c.loop-message._message c.loop-message.taken c.loop-message.at c.loop-message.blocks c.args.into.now c.loop-message.into (so_far g at)
          c.in-Some.head c.in-Some.is (c.reads_alike.ensures.apart c.args.queue) c.onward-at-in-loop-message.result (rest g at) (passed g at) gone_on (is ∙ w.if-take_one.false) in (
            subst (λ n. IsTaking gives (picked g at) (taken g at) old c.args.queue (c.loop-message._message + 1) n c.onward-at-in-loop-message.result c.take_one.new.blocks c.args.into.now c.take_one.new.into) (sym w.taken-is)
                (subst (λ b. IsTaking gives (picked g at) (taken g at) old c.args.queue (c.loop-message._message + 1) c.loop-message.taken c.onward-at-in-loop-message.result b c.args.into.now c.take_one.new.into) (sym same.0)
                (subst (λ r. IsTaking gives (picked g at) (taken g at) old c.args.queue (c.loop-message._message + 1) c.loop-message.taken c.onward-at-in-loop-message.result c.loop-message.blocks c.args.into.now r) (sym same.1) kept)),
            omega (arith, before.1, w.taken-is),
            c.take_one.ensures.state ∙ before.2,
            c.take_one.ensures.in_order,
          )
    ]

-- ---- the loop ends

-- no message is left
pub returns-in_default-clause-hands : goal.returns-in_default-clause-hands
returns-in_default-clause-hands g c =
    let so_far = c.loop-message.invariant in
    taking_done g.R.Receiver.receives _ _ c.args.blocks.now c.args.queue c.loop-message._message c.loop-message.taken c.args.most c.loop-message.at c.loop-message.blocks c.args.into.now c.loop-message.into so_far.0 so_far.1
    (inr (first_none so_far.0.walk.post (sym so_far.0.walk.behind ∙ c.in_default.is)))

-- enough were taken
pub returns-then-taken-most-clause-hands : goal.returns-then-taken-most-clause-hands
returns-then-taken-most-clause-hands g c =
    let so_far = c.loop-message.invariant in
    taking_done g.R.Receiver.receives _ _ c.args.blocks.now c.args.queue c.loop-message._message c.loop-message.taken c.args.most c.loop-message.at c.loop-message.blocks c.args.into.now c.loop-message.into so_far.0 so_far.1
    (inl c.if-taken-most.true)

-- all messages were passed
pub returns-clause-hands : goal.returns-clause-hands
returns-clause-hands g c =
    let so_far = c.loop-message.invariant in
    let walk = so_far.0.walk in
    taking_done g.R.Receiver.receives _ _ c.args.blocks.now c.args.queue c.loop-message._message c.loop-message.taken c.args.most c.loop-message.at c.loop-message.blocks c.args.into.now c.loop-message.into so_far.0 so_far.1
    (inr (none_left walk.post (omega (arith, walk.many, length-append walk.pre walk.post, ap length walk.is, c.len-message-end.ensures c.args.blocks.now c.requires.in_order))))
  where
    none_left : (ms : List Message) → length ms ≡ 0 → ms ≡ []
    none_left [] none = refl
    none_left (m ∷ ms) some = absurd (omega (arith, some))
