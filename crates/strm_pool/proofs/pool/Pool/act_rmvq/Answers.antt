use Rattle.std.proofs.Common.{refl}
use Rattle.strm_queue.specs.QueueCalls as queues
use Rattle.strm_pool.specs.PoolValue.{on_queues, queued_blocks_of}
use Rattle.strm_pool.proofs.Shaped.{gives_one}
use Rattle.strm_pool.proofs.pool.Pool.act_rmvq.Goals as goal

pub returns : goal.returns
returns c =
    let v = c.args.self.now in
    gives_one refl c.requires c.args.into refl (on_queues v (queues.rmvq c.args.queue c.args.place (queued_blocks_of v))) refl c.rmvq.ensures c.give.ensures
