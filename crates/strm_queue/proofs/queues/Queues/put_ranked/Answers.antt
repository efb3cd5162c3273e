use Rattle.std.proofs.Common.{◌≡◌, ap, sym, subst, ◌∙◌}
use Rattle.std.proofs.lemmas.Bool.{cond-true, lt-ltb}
use Rattle.strm_mblk.specs.Arena.{Arena, message_at, shelf_at}
use Rattle.strm_mblk.specs.Block.{Message, head_of}
use Rattle.strm_mblk.specs.Given.{answer_of, or_rejected}
use Rattle.strm_mblk.specs.Messages.{put_before_head}
use Rattle.strm_queue.specs.Flow.{QueueState, enables_put, flags_at}
use Rattle.strm_queue.specs.Joining.{shelf_with}
use Rattle.strm_queue.specs.QueuedBlocks.{Agrees}
use Rattle.strm_queue.specs.Rank.{as_queued, is_ordered, put_behind, rank_of}
use Rattle.strm_queue.proofs.Agreeing.{agrees_put}
use Rattle.strm_queue.proofs.order.Order.{ordered_put_behind, rank_of-queued}
use Rattle.strm_queue.proofs.moving.Puts.{put_together, putq_after}
use Rattle.strm_queue.proofs.queues.Queues.put_ranked.Goals as goal
use Rattle.strm_queue.proofs.queues.Queues.put_ranked.Goals.{After-get-before}

-- the message, as the queue has it
abbrev m : After-get-before → Message
m c = as_queued c.args.blocks.now.store (message_at c.args.blocks.now c.args.token.head)

-- the place is after the last message of at least its rank
place : (c : After-get-before) → put_before_head head_of c.get-before.result (m c) (shelf_at c.args.blocks.now c.args.queue) ≡ put_behind (rank_of c.args.blocks.now.store) (m c) (shelf_at c.args.blocks.now c.args.queue)
place c =
    ap (λ o. put_before_head head_of o (m c) (shelf_at c.args.blocks.now c.args.queue)) c.get-before.ensures
    ∙ c.place_behind.ensures.place (m c) (rank_of-queued c.args.blocks.now.store (message_at c.args.blocks.now c.args.token.head) ∙ sym c.requires.rank.value)

pub lay-requires-clause-ordered : goal.lay-requires-clause-ordered
lay-requires-clause-ordered c =
    let at = (goal.at.lay-requires-clause-ordered c).After-get-before in
    ap (is_ordered (rank_of c.args.blocks.now.store)) (place at) ∙ ordered_put_behind (rank_of c.args.blocks.now.store) (m at) (shelf_at c.args.blocks.now c.args.queue) (c.requires.agrees.in_order.ordered c.args.queue)

pub returns-clause-does : goal.returns-clause-does
returns-clause-does c =
    let here = (goal.at.returns-clause-does c).After-get-before in
    let there = lt-ltb _ _ c.requires.queue in
    record {
      after =
          put_together c.args.self.now c.args.blocks.now c.args.queue c.args.token.head there c.lay.new.self c.enable_where.new.self c.lay.new.blocks c.enables_put-enables.result
          (shelf_with c.args.blocks.now c.args.queue c.get-before.result c.args.token.head) c.lay.ensures.state c.lay.ensures.puts.after c.enable_where.ensures
          ∙ putq_after c.args.self.now c.args.blocks.now c.args.queue c.args.token.head there c.enables_put-enables.result _
          (c.enables_put-enables.ensures ∙ ap (λ (s : QueueState). enables_put (flags_at s c.args.queue) c.args.rank) c.lay.ensures.state ∙ ap (enables_put (flags_at c.args.self.now.state c.args.queue)) c.requires.rank.value) (place here);
      answer = sym (ap (λ g. or_rejected c.args.token (answer_of g)) (cond-true _ _ _ there));
      gone = c.lay.ensures.puts.gone;
      others = c.lay.ensures.puts.others;
    }

pub returns-clause-agrees : goal.returns-clause-agrees
returns-clause-agrees c =
    subst (λ v. Agrees v c.lay.new.blocks) (sym c.enable_where.ensures)
    (agrees_put c.args.self.now c.lay.new.self c.args.blocks.now c.lay.new.blocks c.requires.agrees c.args.queue c.requires.queue c.get-before.result (m (goal.at.returns-clause-agrees c).After-get-before)
    c.lay.ensures.state c.lay.ensures.in_order (ap (λ (x : Arena). x.store) c.lay.ensures.puts.after) (ap (λ (x : Arena). x.shelves) c.lay.ensures.puts.after) c.enables_put-enables.result)
