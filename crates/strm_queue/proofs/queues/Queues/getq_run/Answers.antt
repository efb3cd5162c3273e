use Rattle.std.proofs.Common.{◌≡◌, ◌<◌, ◌≤◌, [], true, length, Some, arith, ap, sym, ◌∙◌}
use Rattle.std.specs.Prelude.{is_some, nat_lt}
use Rattle.std.proofs.lemmas.Bool.{ltb-true}
use Rattle.strm_links.specs.Rows.{first}
use Rattle.strm_mblk.specs.Arena.{shelf_at}
use Rattle.strm_mblk.specs.Limits.{most_message_blocks}
use Rattle.strm_mblk.specs.Shelves.{heads_at, is_on}
use Rattle.strm_mblk.proofs.arena.Stands.{shelf_of-there}
use Rattle.strm_queue.specs.QueuedBlocks.{tally_at}
use Rattle.strm_queue.specs.Rank.{rank_of}
use Rattle.strm_queue.specs.Tallies.{Tally, last_in}
use Rattle.strm_queue.proofs.Counting.{bytes_fit}
use Rattle.strm_queue.proofs.moving.Fronts.{front_over, led_fits, led_more, led_none, led_over, led_some, led_used, parts, some_last}
use Rattle.strm_queue.proofs.moving.Puts.{few_on_shelf}
use Rattle.strm_queue.proofs.Shelf.{FirstParts, first_there}
use Rattle.strm_queue.proofs.queues.Queues.getq_run.Goals as goal
use Rattle.strm_queue.proofs.queues.Queues.getq_run.Goals.{After-lawful-in-loop-leaving, After-number-last, After-queued_rank-rank, In-Some, else-loop-leaving-test, then-loop-leaving-test+else-leaving-last}

module _ (g : _) (c : In-Some g) where
  -- the queue exists
  there : nat_lt c.args.queue (length c.args.self.now.state.specs) ≡ true
  there = sym c.has_queue.ensures ∙ c.if-not-has_queue.false

  within : c.args.queue < length c.args.self.now.state.specs
  within = ltb-true c.args.queue (length c.args.self.now.state.specs) there

  -- and it has a first message
  some : first (heads_at c.args.blocks.now c.args.queue) ≡ Some c.in-Some.first
  some = sym c.first.ensures ∙ c.in-Some.is

pub queued_rank-rank-requires : goal.queued_rank-rank-requires
queued_rank-rank-requires g c = shelf_of-there c.args.blocks.now c.args.queue c.in-Some.first (first_there c.in-Some.first [] (shelf_at c.args.blocks.now c.args.queue) (some g (goal.at.queued_rank-rank-requires g c).In-Some))

-- the rank is that of the first message
module _ (g : _) (c : After-queued_rank-rank g) (inside : c.args.queue < length c.args.self.now.state.specs) (is : first (heads_at c.args.blocks.now c.args.queue) ≡ Some c.in-Some.first) where
  abbrev front : FirstParts c.in-Some.first (shelf_at c.args.blocks.now c.args.queue)
  front = parts c.args.self.now c.args.blocks.now c.requires.in_order c.lawful.ensures.parted c.args.queue inside c.in-Some.first is

  ranked : rank_of c.args.blocks.now.store front.at ≡ c.queued_rank-rank.result
  ranked = sym (c.queued_rank-rank.ensures.value c.args.queue [] front.post front.at front.is front.head)

pub number-last-requires : goal.number-last-requires
number-last-requires g c =
    let at = goal.at.number-last-requires g c in
    ap is_some (c.last.ensures ∙ ap (λ (t : Tally). last_in t c.queued_rank-rank.result) c.tally.ensures)
    ∙ some_last c.args.self.now c.args.blocks.now c.requires.in_order c.lawful.ensures.parted c.args.queue (within g at.In-Some) c.in-Some.first (some g at.In-Some) c.queued_rank-rank.result
    (ranked g at.After-queued_rank-rank (within g at.In-Some) (some g at.In-Some))

-- the last message of the rank
end : (g : _) (c : After-number-last g) → last_in (tally_at c.args.self.now c.args.queue) c.queued_rank-rank.result ≡ Some c.number-last.result
end g c = ap (λ (t : Tally). last_in t c.queued_rank-rank.result) (sym c.tally.ensures) ∙ sym c.last.ensures ∙ c.number-last.ensures

pub loop-leaving-init : goal.loop-leaving-init
loop-leaving-init g c =
    let at = (goal.at.loop-leaving-init g c).In-Some in
    let a = c.args.blocks.now in
    let q = c.args.queue in
    let laws = c.lawful.ensures in
    let many : length (shelf_at a q) ≤ most_message_blocks = few_on_shelf a laws.parted q most_message_blocks (omega (arith, within g at, c.requires.in_order.shelves)) (omega (arith, laws.few, laws.whole)) in
    led_none g.R.Receiver.receives c.args.self.now a q c.args.most c.queued_rank-rank.result c.args.into.now c.requires laws.parted (within g at) laws.few
    c.in-Some.first (some g at) (c.queued_rank-rank.ensures.value q) c.queued_rank-rank.ensures.few
    (bytes_fit a laws.kept laws.within laws.few laws.whole q) (omega (arith, many))

-- in the loop: the message is on the queue
module _ (g : _) (c : After-lawful-in-loop-leaving g) where
  there_still : is_on c.loop-leaving.blocks c.args.queue c.loop-leaving.leaving.first ≡ true
  there_still = first_there c.loop-leaving.leaving.first [] (shelf_at c.loop-leaving.blocks c.args.queue) c.loop-leaving.invariant.first

pub head_size-requires : goal.head_size-requires
head_size-requires g c = shelf_of-there c.loop-leaving.blocks c.args.queue c.loop-leaving.leaving.first (there_still g (goal.at.head_size-requires g c).After-lawful-in-loop-leaving)

pub after-requires : goal.after-requires
after-requires g c = shelf_of-there c.loop-leaving.blocks c.args.queue c.loop-leaving.leaving.first (there_still g (goal.at.after-requires g c).After-lawful-in-loop-leaving)

pub overflow_add-leaving-in-loop-leaving : goal.overflow_add-leaving-in-loop-leaving
overflow_add-leaving-in-loop-leaving g c =
    let at = goal.at.overflow_add-leaving-in-loop-leaving g c in
    let laws = c.lawful-in-loop-leaving.ensures in
    omega (
      arith,
      led_fits g.R.Receiver.receives c.args.self.now c.args.blocks.now c.args.queue c.args.most c.queued_rank-rank.result c.args.into.now (there g at.In-Some) c.loop-leaving.leaving c.loop-leaving.blocks c.loop-leaving.into
          c.loop-leaving.invariant laws.parted laws.few c.number-last.result (end g at.After-number-last) c.if-leaving-last.true c.head_size.result c.head_size.ensures,
    )

pub unwrap-requires : goal.unwrap-requires
unwrap-requires g c =
    let at = goal.at.unwrap-requires g c in
    let laws = c.lawful-in-loop-leaving.ensures in
    led_some g.R.Receiver.receives c.args.self.now c.args.blocks.now c.args.queue c.args.most c.queued_rank-rank.result c.args.into.now (there g at.In-Some) c.loop-leaving.leaving c.loop-leaving.blocks c.loop-leaving.into
    c.loop-leaving.invariant laws.parted laws.few c.number-last.result (end g at.After-number-last) c.if-leaving-last.true c.head_size.result c.head_size.ensures
    c.after.result (c.after.ensures c.args.queue (there_still g at.After-lawful-in-loop-leaving))

-- one more leaves, as by a `getq` that changes no mark
pub loop-leaving-preserved : goal.loop-leaving-preserved
loop-leaving-preserved g c =
    let at = goal.at.loop-leaving-preserved g c in
    let laws = c.lawful-in-loop-leaving.ensures in
    led_more g.R.Receiver.receives c.args.self.now c.args.blocks.now c.args.queue c.args.most c.queued_rank-rank.result c.args.into.now (there g at.In-Some) c.loop-leaving.leaving c.loop-leaving.blocks c.loop-leaving.into
    c.loop-leaving.invariant laws.parted laws.few c.number-last.result (end g at.After-number-last) c.if-leaving-last.true c.head_size.result c.head_size.ensures
    c.after.result (c.after.ensures c.args.queue (there_still g at.After-lawful-in-loop-leaving)) c.unwrap.result c.unwrap.ensures
    (c.lawful-2.ensures.banded c.args.queue (within g at.In-Some)).0 (sym c.is_read.ensures ∙ c.if-is_read.false) (c.is_any_wanted.ensures.none c.if-is_any_wanted.false)
    (omega (arith, c.loop-leaving-test.true)) c.unshelve-token.new.self c.unshelve-token.result c.receive.new.self c.unshelve-token.ensures c.receive.ensures

-- the tally still has the first message of the rank
pub leave_front-requires-clause-some : goal.leave_front-requires-clause-some
leave_front-requires-clause-some g c =
    let at = (goal.at.leave_front-requires-clause-some g c).In-Some in
    led_used g.R.Receiver.receives c.args.self.now c.args.blocks.now c.args.queue c.args.most c.queued_rank-rank.result c.args.into.now c.requires c.lawful.ensures.parted (within g at)
    c.lawful.ensures.few c.in-Some.first (some g at) (c.queued_rank-rank.ensures.value c.args.queue) c.queued_rank-rank.ensures.few c.loop-leaving.leaving.rank c.loop-leaving.invariant.ranked

-- the first message is the last of its rank, before the loop or after it
pub returns-then-first-last-clause-over : goal.returns-then-first-last-clause-over
returns-then-first-last-clause-over g c more is read none =
    let at = goal.at.returns-then-first-last-clause-over g c in
    front_over c.args.self.now c.args.blocks.now c.requires.in_order c.lawful.ensures.parted c.args.queue (within g at.In-Some) c.in-Some.first (some g at.In-Some) c.queued_rank-rank.result
    (ranked g at.After-queued_rank-rank (within g at.In-Some) (some g at.In-Some)) (end g at.After-number-last ∙ ap Some (sym c.if-first-last.true))

pub returns-clause-over : goal.returns-clause-over
returns-clause-over g c more is read none =
    let at = goal.at.returns-clause-over g c in
    elim c.loop-leaving-test.branch [
      | then-loop-leaving-test+else-leaving-last w ↦
          led_over g.R.Receiver.receives c.args.self.now c.args.blocks.now c.args.queue c.args.most c.queued_rank-rank.result c.args.into.now c.loop-leaving.leaving c.loop-leaving.blocks c.loop-leaving.into
          c.loop-leaving.invariant (within g at.In-Some) c.lawful-3.ensures.parted c.lawful-3.ensures.few (end g at.After-number-last ∙ ap Some (sym w.if-leaving-last.false))
      | else-loop-leaving-test w ↦ λ m front. absurd (omega (arith, more, w.loop-leaving-test.false))
    ]
