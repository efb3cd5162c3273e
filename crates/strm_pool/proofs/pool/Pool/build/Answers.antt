use Rattle.std.proofs.Common.{rules, subst, sym}
use Rattle.strm_queue.specs.QueuedBlocks.{Agrees, QueuesValue, opening_value}
use Rattle.strm_queue.proofs.Agreeing.{agrees_new}
use Rattle.strm_pool.proofs.pool.Pool.build.Goals as goal

pub invariant_of-result : goal.invariant_of-result
invariant_of-result c =
    subst (λ (v : QueuesValue). Agrees v c.in_ok-new.field-0) (sym c.in_ok-new-2.ensures)
    (subst (Agrees (opening_value c.items-queues.result.now)) (sym c.in_ok-new.ensures)
    (agrees_new c.items-queues.result.now (search rules) c.args.config.now.id c.args.config.now.mblks c.items.result.now))
