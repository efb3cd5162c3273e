use Rattle.std.proofs.Common.{length, ap, subst, sym, ◌∙◌}
use Rattle.std.proofs.lemmas.Bool.{cond-false, cond-true}
use Rattle.strm_data.specs.declared.refusal.Refusal.TheVariants.{NoSuchQueue}
use Rattle.strm_mblk.specs.Arena.{shelf_at}
use Rattle.strm_mblk.specs.Given.{answer_map, answer_of, value_after}
use Rattle.strm_queue.specs.Flush.{is_picked}
use Rattle.strm_queue.specs.QueueCalls.{with_queue_settled}
use Rattle.strm_queue.specs.QueuedBlocks.{AreMarksLawful, QueuedBlocks, arena, queued_blocks}
use Rattle.strm_queue.specs.Taking.{AreHanded, first_picked, heads_taken, left_after, with_all_held}
use Rattle.strm_queue.proofs.moving.Flushing.{flushed_flags}
use Rattle.strm_queue.proofs.moving.Taking.{hands_none, held_off_shelf}
use Rattle.strm_queue.proofs.queues.Queues.take_band.Goals as goal

pub returns-then-not-has_queue-clause-does : goal.returns-then-not-has_queue-clause-does
returns-then-not-has_queue-clause-does g c =
    hands_none arena g.R.Receiver.receives _ (queued_blocks c.args.self.now c.args.blocks.now) c.args.into.now NoSuchQueue (cond-false _ _ _ (sym c.has_queue.ensures ∙ c.if-not-has_queue.true))

pub returns-clause-does : goal.returns-clause-does
returns-clause-does g c =
    let hands = c.take_shelf-taken.ensures.hands in
    let there = cond-true _ _ _ (sym c.has_queue.ensures ∙ c.if-not-has_queue.false) in
    record {
      left =
          c.settle.ensures.state c.take_shelf-taken.new.blocks c.take_shelf-taken.ensures.in_order
          ∙ ap (with_queue_settled c.args.queue) (λ i. let w : QueuedBlocks = record { queues = c.take_shelf-taken.ensures.state i; arena = hands.left i } in w)
          ∙ sym (ap (value_after (queued_blocks c.args.self.now c.args.blocks.now)) there);
      count = hands.count ∙ sym (ap (λ r. answer_map (λ heads. length heads) (answer_of r)) there);
      tokens =
          subst (λ r. AreHanded g.R.Receiver.receives (heads_taken (answer_of r)) c.args.blocks.now c.take_shelf-taken.new.blocks c.args.into.now c.take_shelf-taken.new.into) (sym there) hands.tokens;
    }

pub returns-clause-agrees : goal.returns-clause-agrees
returns-clause-agrees g c =
    let ms = shelf_at c.args.blocks.now c.args.queue in
    let picked = is_picked c.args.blocks.now.store c.args.band c.args.flush in
    c.settle.ensures.agrees c.take_shelf-taken.new.blocks c.take_shelf-taken.ensures.in_order
    (λ other away.
    subst (λ s. AreMarksLawful s c.take_shelf-taken.new.blocks other) (sym c.take_shelf-taken.ensures.state)
    (flushed_flags with_all_held held_off_shelf c.args.self.now c.args.blocks.now c.requires c.args.queue (first_picked c.args.most picked ms) (left_after c.args.most picked ms) c.take_shelf-taken.new.blocks c.take_shelf-taken.ensures.hands.left other away))
