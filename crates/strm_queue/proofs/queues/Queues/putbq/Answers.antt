use Rattle.std.proofs.Common.{arith, ◌≡◌, true, length, ap, sym, subst, ◌∙◌}
use Rattle.std.proofs.lemmas.Bool.{ltb-true}
use Rattle.std.specs.Prelude.{nat_lt}
use Rattle.std.proofs.lemmas.Grind.{common_steps}
use Rattle.strm_mblk.specs.Arena.{Arena, message_at, shelf_at}
use Rattle.strm_mblk.specs.Block.{Message, head_of}
use Rattle.strm_mblk.specs.Messages.{put_before_head}
use Rattle.strm_queue.specs.Flow.{QueueState, enables_put_back, flags_at}
use Rattle.strm_queue.specs.Joining.{shelf_with}
use Rattle.strm_queue.specs.QueuedBlocks.{Agrees}
use Rattle.strm_queue.proofs.Agreeing.{agrees_put}
use Rattle.strm_queue.specs.Rank.{as_queued, is_ordered, put_ahead, rank_of}
use Rattle.strm_queue.proofs.order.Order.{ordered_put_ahead, rank_of-queued}
use Rattle.strm_queue.proofs.moving.Puts.{put_together, putbq_after}
use Rattle.strm_queue.proofs.queues.Queues.putbq.Goals as goal
use Rattle.strm_queue.proofs.queues.Queues.putbq.Goals.{After-place_ahead-before}

-- the message, as the queue has it
abbrev m : After-place_ahead-before → Message
m c = as_queued c.args.blocks.now.store (message_at c.args.blocks.now c.args.token.head)

-- the queue exists
there : (c : After-place_ahead-before) → nat_lt c.args.queue (length c.args.self.now.state.specs) ≡ true
there c = sym c.has_queue.ensures ∙ c.if-not-has_queue.false

-- the place is before the first message of at most its rank
place : (c : After-place_ahead-before) → put_before_head head_of c.place_ahead-before.result (m c) (shelf_at c.args.blocks.now c.args.queue) ≡ put_ahead (rank_of c.args.blocks.now.store) (m c) (shelf_at c.args.blocks.now c.args.queue)
place c = c.place_ahead-before.ensures.place (m c) (rank_of-queued c.args.blocks.now.store (message_at c.args.blocks.now c.args.token.head) ∙ sym c.held_rank-rank.ensures.value)

pub lay-requires-clause-ordered : goal.lay-requires-clause-ordered
lay-requires-clause-ordered c =
    let at = (goal.at.lay-requires-clause-ordered c).After-place_ahead-before in
    ap (is_ordered (rank_of c.args.blocks.now.store)) (place at) ∙ ordered_put_ahead (rank_of c.args.blocks.now.store) (m at) (shelf_at c.args.blocks.now c.args.queue) (c.requires.agrees.in_order.ordered c.args.queue)

pub returns-clause-does : goal.returns-clause-does
returns-clause-does c =
    let here = (goal.at.returns-clause-does c).After-place_ahead-before in
    record {
      after =
          put_together c.args.self.now c.args.blocks.now c.args.queue c.args.token.head (there here) c.lay.new.self c.enable_where.new.self c.lay.new.blocks c.enables_put_back-enables.result
          (shelf_with c.args.blocks.now c.args.queue c.place_ahead-before.result c.args.token.head) c.lay.ensures.state c.lay.ensures.puts.after c.enable_where.ensures
          ∙ putbq_after c.args.self.now c.args.blocks.now c.args.queue c.args.token.head (there here) c.enables_put_back-enables.result _
          (c.enables_put_back-enables.ensures ∙ ap (λ (s : QueueState). enables_put_back (flags_at s c.args.queue) c.held_rank-rank.result) c.lay.ensures.state ∙ ap (enables_put_back (flags_at c.args.self.now.state c.args.queue)) c.held_rank-rank.ensures.value) (place here);
      answer = grind (arith, common_steps);
      gone = c.lay.ensures.puts.gone;
      others = c.lay.ensures.puts.others;
    }

pub returns-clause-agrees : goal.returns-clause-agrees
returns-clause-agrees c =
    subst (λ v. Agrees v c.lay.new.blocks) (sym c.enable_where.ensures)
    (agrees_put c.args.self.now c.lay.new.self c.args.blocks.now c.lay.new.blocks c.requires.agrees c.args.queue (ltb-true _ _ (there (goal.at.returns-clause-agrees c).After-place_ahead-before)) c.place_ahead-before.result (as_queued c.args.blocks.now.store (message_at c.args.blocks.now c.args.token.head))
    c.lay.ensures.state c.lay.ensures.in_order (ap (λ (x : Arena). x.store) c.lay.ensures.puts.after) (ap (λ (x : Arena). x.shelves) c.lay.ensures.puts.after) c.enables_put_back-enables.result)
