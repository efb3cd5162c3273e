use Rattle.std.proofs.Common.{refl}
use Rattle.strm_queue.specs.QueueCalls as queues
use Rattle.strm_pool.specs.PoolValue.{on_queues, queued_blocks_of}
use Rattle.strm_pool.proofs.Shaped.{may_give_one}
use Rattle.strm_pool.proofs.pool.Pool.act_getq.Goals as goal

pub returns : goal.returns
returns c =
    let v = c.args.self.now in
    may_give_one refl c.requires c.args.into refl (on_queues v (queues.getq c.args.queue (queued_blocks_of v))) refl c.getq.ensures c.give_any.ensures
