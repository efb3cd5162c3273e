use Rattle.std.proofs.Common.{refl}
use Rattle.strm_queue.specs.QueueCalls as queues
use Rattle.strm_pool.specs.PoolValue.{on_queues, queued_blocks_of}
use Rattle.strm_pool.proofs.Shaped.{flushes}
use Rattle.strm_pool.proofs.pool.Pool.act_flushband.Goals as goal

pub returns : goal.returns
returns c = λ rs ready.
    let v = c.args.self.now in
    flushes refl ready (on_queues v (queues.flushband c.args.queue c.args.band c.args.flush (queued_blocks_of v))) refl refl c.flushband.ensures c.set_done.ensures
