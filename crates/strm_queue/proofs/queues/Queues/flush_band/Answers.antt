use Rattle.std.proofs.Common.{arith, [], ap, refl, subst, sym, ◌∙◌}
use Rattle.std.proofs.lemmas.Grind.{common_steps}
use Rattle.std.specs.Prelude.{filter, not}
use Rattle.std.specs.List.{flat_map}
use Rattle.std.proofs.lemmas.Bool.{cond-true}
use Rattle.strm_mblk.specs.Arena.{shelf_at, with_shelf}
use Rattle.strm_mblk.specs.Frame.{LeavesOthers}
use Rattle.strm_mblk.specs.Given.{value_after}
use Rattle.strm_queue.specs.Flush.{is_picked, with_freed}
use Rattle.strm_queue.specs.QueueCalls.{with_queue_settled}
use Rattle.strm_queue.specs.QueuedBlocks.{AreMarksLawful, QueuedBlocks, queued_blocks}
use Rattle.strm_queue.proofs.moving.Flushing.{flushed_flags, freed_off_shelf, others_freed}
use Rattle.strm_queue.proofs.queues.Queues.flush_band.Goals as goal

pub returns-clause-does : goal.returns-clause-does
returns-clause-does c =
    let ms = shelf_at c.args.blocks.now c.args.queue in
    let picked = is_picked c.args.blocks.now.store c.args.band c.args.flush in
    record {
      after =
          c.settle.ensures.state c.flush_shelf.new.blocks c.flush_shelf.ensures.in_order
          ∙ ap (with_queue_settled c.args.queue) (λ i. let w : QueuedBlocks = record { queues = c.flush_shelf.ensures.state i; arena = c.flush_shelf.ensures.after i } in w)
          ∙ sym (ap (value_after (queued_blocks c.args.self.now c.args.blocks.now)) (cond-true _ _ _ (sym c.has_queue.ensures ∙ c.if-not-has_queue.false)));
      answer = grind (arith, common_steps);
      others =
          subst (LeavesOthers [] c.args.blocks.now) (sym c.flush_shelf.ensures.after)
          (others_freed c.args.blocks.now (with_shelf c.args.queue (filter (λ m. not (picked m)) ms) c.args.blocks.now) (flat_map (λ m. m) (filter picked ms)) refl refl);
    }

pub returns-clause-agrees : goal.returns-clause-agrees
returns-clause-agrees c =
    let ms = shelf_at c.args.blocks.now c.args.queue in
    let picked = is_picked c.args.blocks.now.store c.args.band c.args.flush in
    c.settle.ensures.agrees c.flush_shelf.new.blocks c.flush_shelf.ensures.in_order
    (λ other away.
    subst (λ s. AreMarksLawful s c.flush_shelf.new.blocks other) (sym c.flush_shelf.ensures.state)
    (flushed_flags with_freed freed_off_shelf c.args.self.now c.args.blocks.now c.requires c.args.queue (filter picked ms) (filter (λ m. not (picked m)) ms) c.flush_shelf.new.blocks c.flush_shelf.ensures.after other away))
