use Rattle.std.proofs.Common.{arith, ◌≡◌, true, length, ap, sym, ◌∙◌}
use Rattle.std.proofs.lemmas.Bool.{lt-ltb}
use Rattle.std.proofs.lemmas.Grind.{common_steps}
use Rattle.std.specs.Prelude.{nat_lt}
use Rattle.strm_mblk.specs.Arena.{token_of}
use Rattle.strm_mblk.specs.Given.{answer_map, answer_of}
use Rattle.strm_queue.proofs.moving.Gets.{IsGot, rmvq_after, rmvq_given}
use Rattle.strm_queue.proofs.queues.Queues.remove.Goals as goal
use Rattle.strm_queue.proofs.queues.Queues.remove.Goals.{After-unshelve-token}

-- the queue exists
there : (c : After-unshelve-token) → nat_lt c.args.queue (length c.args.self.now.state.specs) ≡ true
there c = lt-ltb _ _ c.requires.queue

got : (c : After-unshelve-token) → IsGot c.args.self.now c.args.blocks.now c.requires.agrees c.lawful.ensures.parted c.args.queue (there c) c.args.head c.unshelve-token.new.self c.unshelve-token.new.blocks
got c = record { state = c.unshelve-token.ensures.state; arena = c.unshelve-token.ensures.takes.after }

pub returns-clause-does : goal.returns-clause-does
returns-clause-does c place some =
    let here = (goal.at.returns-clause-does c).After-unshelve-token in
    record {
      after =
          c.settle.ensures.state c.unshelve-token.new.blocks c.unshelve-token.ensures.in_order
          ∙ rmvq_after c.args.self.now c.args.blocks.now c.requires.agrees c.lawful.ensures.parted c.args.queue (there here) c.args.head place some c.unshelve-token.new.self c.unshelve-token.new.blocks (got here);
      token =
          c.unshelve-token.ensures.takes.token
          ∙ sym (ap (λ g. answer_map (token_of c.unshelve-token.new.blocks) (answer_of g))
          (rmvq_given c.args.self.now c.args.blocks.now c.requires.agrees c.lawful.ensures.parted c.args.queue (there here) c.args.head place some));
      had = c.unshelve-token.ensures.takes.had;
      unheld = grind (arith, common_steps);
      others = grind (arith, common_steps);
    }
