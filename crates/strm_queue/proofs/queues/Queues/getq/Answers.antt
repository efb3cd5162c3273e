use Rattle.std.proofs.Common.{arith, ◌≡◌, Some, true, false, length, ap, subst, sym, ◌∙◌}
use Rattle.std.proofs.lemmas.Grind.{common_steps}
use Rattle.std.specs.Prelude.{nat_lt}
use Rattle.strm_links.specs.Rows.{first}
use Rattle.strm_mblk.specs.Shelves.{heads_at}
use Rattle.strm_queue.specs.Flow.{with_read}
use Rattle.strm_queue.specs.QueueCalls.{with_state}
use Rattle.strm_queue.specs.QueuedBlocks.{Agrees, QueuesValue, queued_blocks}
use Rattle.strm_queue.proofs.Agreeing.{agrees_read}
use Rattle.strm_queue.proofs.moving.Gets.{IsGot, getq_after, got_others}
use Rattle.strm_queue.proofs.queues.Queues.getq.Goals as goal
use Rattle.strm_queue.proofs.queues.Queues.getq.Goals.{After-unshelve_first-token}

-- the queue exists
there : (c : After-unshelve_first-token) → nat_lt c.args.queue (length c.args.self.now.state.specs) ≡ true
there c = sym c.has_queue.ensures ∙ c.if-not-has_queue.false

-- and it has a first message
some : (c : After-unshelve_first-token) → first (heads_at c.args.blocks.now c.args.queue) ≡ Some c.in-Some.head
some c = sym c.first.ensures ∙ c.in-Some.is

got : (c : After-unshelve_first-token) → IsGot c.args.self.now c.args.blocks.now c.requires c.lawful.ensures.parted c.args.queue (there c) c.in-Some.head c.unshelve_first-token.new.self c.unshelve_first-token.new.blocks
got c = record { state = c.unshelve_first-token.ensures.state; arena = c.unshelve_first-token.ensures.takes.after }

pub returns-clause-does : goal.returns-clause-does
returns-clause-does c =
    let here = (goal.at.returns-clause-does c).After-unshelve_first-token in
    record {
      after =
          ap (λ (w : QueuesValue). queued_blocks w c.unshelve_first-token.new.blocks) c.set_read-2.ensures
          ∙ ap (with_state (with_read c.args.queue false)) (c.settle.ensures.state c.unshelve_first-token.new.blocks c.unshelve_first-token.ensures.in_order)
          ∙ getq_after c.args.self.now c.args.blocks.now c.requires c.lawful.ensures.parted c.args.queue (there here) c.in-Some.head (some here) c.unshelve_first-token.new.self c.unshelve_first-token.new.blocks (got here);
      token = grind (arith, common_steps);
      had = c.unshelve_first-token.ensures.takes.had;
      unheld = grind (arith, common_steps);
      others = grind (arith, common_steps);
    }

pub returns-clause-agrees : goal.returns-clause-agrees
returns-clause-agrees c =
    let here = (goal.at.returns-clause-agrees c).After-unshelve_first-token in
    subst (λ w. Agrees w c.unshelve_first-token.new.blocks) (sym c.set_read-2.ensures)
    (agrees_read c.settle.new.self c.unshelve_first-token.new.blocks c.args.queue false
    (c.settle.ensures.agrees c.unshelve_first-token.new.blocks c.unshelve_first-token.ensures.in_order
    (got_others c.args.self.now c.args.blocks.now c.requires c.lawful.ensures.parted c.args.queue (there here) c.in-Some.head c.unshelve_first-token.new.self c.unshelve_first-token.new.blocks (got here))))

pub returns-in_default-clause-agrees : goal.returns-in_default-clause-agrees
returns-in_default-clause-agrees c =
    subst (λ w. Agrees w c.args.blocks.now) (sym c.set_read.ensures) (agrees_read c.args.self.now c.args.blocks.now c.args.queue true c.requires)
