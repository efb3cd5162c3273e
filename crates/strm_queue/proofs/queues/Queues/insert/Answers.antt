use Rattle.std.proofs.Common.{◌≡◌, true, length, ap, sym, subst, ◌∙◌, arith}
use Rattle.std.proofs.lemmas.Bool.{lt-ltb}
use Rattle.std.proofs.lemmas.Grind.{common_steps}
use Rattle.std.specs.Prelude.{nat_lt}
use Rattle.strm_data.specs.declared.refusal.Refusal.TheVariants.{BadOrder}
use Rattle.strm_mblk.specs.Arena.{Arena, message_at, shelf_at}
use Rattle.strm_mblk.specs.Block.{head_of}
use Rattle.strm_mblk.specs.Given.{answer_of, or_rejected}
use Rattle.strm_mblk.specs.Messages.{put_before_head}
use Rattle.strm_queue.specs.QueuedBlocks.{Agrees, arena, queued_blocks}
use Rattle.strm_queue.specs.Flow.{QueueState, enables_inserted, flags_at}
use Rattle.strm_queue.specs.Joining.{shelf_with}
use Rattle.strm_queue.proofs.Agreeing.{agrees_put}
use Rattle.strm_queue.specs.Rank.{as_queued, is_ordered, rank_of}
use Rattle.strm_mblk.proofs.arena.Calls.{puts_none}
use Rattle.strm_queue.proofs.moving.Puts.{put_together, insq_after, insq_given, insq_refused}
use Rattle.strm_queue.proofs.order.Order.{rank_of-queued}
use Rattle.strm_queue.proofs.queues.Queues.insert.Goals as goal
use Rattle.strm_queue.proofs.queues.Queues.insert.Goals.{After-fits_before}

-- the queue exists
abbrev there : (c : After-fits_before) → nat_lt c.args.queue (length c.args.self.now.state.specs) ≡ true
there c = lt-ltb _ _ c.requires.queue

-- whether the message keeps the order there
fits : (c : After-fits_before) → c.fits_before.result
    ≡ is_ordered (rank_of c.args.blocks.now.store) (put_before_head head_of c.args.before (as_queued c.args.blocks.now.store (message_at c.args.blocks.now c.args.token.head)) (shelf_at c.args.blocks.now c.args.queue))
fits c = grind (arith, common_steps, rank_of-queued)

pub returns-then-not-fits_before-clause-does : goal.returns-then-not-fits_before-clause-does
returns-then-not-fits_before-clause-does c place few at =
    let here = (goal.at.returns-then-not-fits_before-clause-does c).After-fits_before in
    puts_none arena (queued_blocks c.args.self.now c.args.blocks.now) c.args.token _ BadOrder
    (insq_refused c.args.self.now c.args.blocks.now c.args.queue c.args.token.head (there here) place few c.lawful.ensures.parted c.args.before
    at (sym (fits here) ∙ c.if-not-fits_before.true)) c.requires.had

pub returns-clause-does : goal.returns-clause-does
returns-clause-does c place few at =
    let here = (goal.at.returns-clause-does c).After-fits_before in
    record {
      after =
          put_together c.args.self.now c.args.blocks.now c.args.queue c.args.token.head (there here) c.lay.new.self c.enable_where.new.self c.lay.new.blocks c.enables_inserted-enables.result
          (shelf_with c.args.blocks.now c.args.queue c.args.before c.args.token.head) c.lay.ensures.state c.lay.ensures.puts.after c.enable_where.ensures
          ∙ insq_after c.args.self.now c.args.blocks.now c.args.queue c.args.token.head (there here) place few c.lawful.ensures.parted c.args.before
          at (sym (fits here) ∙ c.if-not-fits_before.false) c.enables_inserted-enables.result
          (c.enables_inserted-enables.ensures ∙ ap (λ (s : QueueState). enables_inserted (flags_at s c.args.queue)) c.lay.ensures.state);
      answer =
          sym (ap (λ g. or_rejected c.args.token (answer_of g))
          (insq_given c.args.self.now c.args.blocks.now c.args.queue c.args.token.head (there here) place few c.lawful.ensures.parted c.args.before
          at (sym (fits here) ∙ c.if-not-fits_before.false)));
      gone = c.lay.ensures.puts.gone;
      others = c.lay.ensures.puts.others;
    }

pub returns-clause-agrees : goal.returns-clause-agrees
returns-clause-agrees c =
    subst (λ v. Agrees v c.lay.new.blocks) (sym c.enable_where.ensures)
    (agrees_put c.args.self.now c.lay.new.self c.args.blocks.now c.lay.new.blocks c.requires.agrees c.args.queue c.requires.queue c.args.before (as_queued c.args.blocks.now.store (message_at c.args.blocks.now c.args.token.head))
    c.lay.ensures.state c.lay.ensures.in_order (ap (λ (x : Arena). x.store) c.lay.ensures.puts.after) (ap (λ (x : Arena). x.shelves) c.lay.ensures.puts.after) c.enables_inserted-enables.result)
