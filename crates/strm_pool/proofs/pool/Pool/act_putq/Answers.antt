use Rattle.std.proofs.Common.{refl}
use Rattle.strm_queue.specs.QueueCalls as queues
use Rattle.strm_pool.specs.PoolValue.{on_queues, queued_blocks_of}
use Rattle.strm_pool.proofs.Shaped.{spends_one}
use Rattle.strm_pool.proofs.pool.Pool.act_putq.Goals as goal

pub returns : goal.returns
returns c =
    let v = c.args.self.now in
    spends_one refl c.requires (λ h. on_queues v (queues.putq c.args.queue h (queued_blocks_of v))) c.args.reg refl c.picked-token.ensures.token c.picked-token.ensures.empty refl c.putq.ensures c.spend.ensures
