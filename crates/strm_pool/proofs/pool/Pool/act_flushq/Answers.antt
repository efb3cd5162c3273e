use Rattle.std.proofs.Common.{refl}
use Rattle.strm_queue.specs.QueueCalls as queues
use Rattle.strm_pool.specs.PoolValue.{on_queues, queued_blocks_of}
use Rattle.strm_pool.proofs.Shaped.{flushes}
use Rattle.strm_pool.proofs.pool.Pool.act_flushq.Goals as goal

pub returns : goal.returns
returns c = λ rs ready.
    let v = c.args.self.now in
    flushes refl ready (on_queues v (queues.flushq c.args.queue c.args.flush (queued_blocks_of v))) refl refl c.flushq.ensures c.set_done.ensures
