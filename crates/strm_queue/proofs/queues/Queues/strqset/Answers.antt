use Rattle.std.proofs.Common.{refl, ◌≡◌, true, arith, length, sym, ap, subst, ◌∙◌}
use Rattle.std.proofs.lemmas.Grind.{common_steps}
use Rattle.std.specs.Prelude.{nat_lt}
use Rattle.std.proofs.lemmas.Bool.{ltb-true}
use Rattle.strm_mblk.specs.Given.{value_after}
use Rattle.strm_queue.specs.declared.marks.Marks.{Marks}
use Rattle.strm_queue.specs.QueueCalls.{with_queue_settled}
use Rattle.strm_queue.specs.QueuedBlocks.{AreInOrder, AreMarksLawful, QueuesValue, queued_blocks}
use Rattle.strm_queue.proofs.Flow.{marked_in_order, marked_others, strqset_given, with_recounted}
use Rattle.strm_queue.proofs.queues.Queues.strqset.Goals as goal
use Rattle.strm_queue.proofs.queues.Queues.strqset.Goals.{After-recount}

-- the new water marks
abbrev m : After-recount → Marks
m c = record { hiwat = c.args.hiwat; lowat = c.args.lowat }

-- the queue exists
there : (c : After-recount) → nat_lt c.args.queue (length c.args.self.now.state.specs) ≡ true
there c = sym c.has_queue.ensures ∙ c.if-not-has_queue.false

-- the queues before they are settled
marked : (c : After-recount) → c.recount.new.self ≡ with_recounted c.args.self.now c.args.blocks.now c.args.queue c.args.band (m c)
marked c = grind (arith, common_steps)

in_order : (c : After-recount) → AreInOrder c.recount.new.self c.args.blocks.now
in_order c = grind (arith, common_steps, marked_in_order, ltb-true)

pub returns-clause-does : goal.returns-clause-does
returns-clause-does c =
    let here = (goal.at.returns-clause-does c).After-recount in
    record {
      after =
          c.settle.ensures.state c.args.blocks.now (in_order here)
          ∙ ap (λ w. with_queue_settled c.args.queue (queued_blocks w c.args.blocks.now)) (marked here)
          ∙ sym (ap (value_after (queued_blocks c.args.self.now c.args.blocks.now)) (strqset_given (queued_blocks c.args.self.now c.args.blocks.now) c.args.queue c.args.band c.args.hiwat c.args.lowat (there here) (omega (arith, c.if-lowat-hiwat.false))));
      answer = grind (arith, common_steps);
      arena_stays = refl;
    }

pub returns-clause-agrees : goal.returns-clause-agrees
returns-clause-agrees c =
    let here = (goal.at.returns-clause-agrees c).After-recount in
    c.settle.ensures.agrees c.args.blocks.now (in_order here)
    (λ p other. subst (λ (w : QueuesValue). AreMarksLawful w.state c.args.blocks.now p) (sym (marked here)) (marked_others c.args.self.now c.args.blocks.now c.args.queue c.args.band (m here) c.requires p other))
