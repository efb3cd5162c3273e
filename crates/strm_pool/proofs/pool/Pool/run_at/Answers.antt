use Rattle.std.proofs.Common.{◌≡◌, subst}
use Rattle.strm_queue.specs.QueueCalls as queues
use Rattle.strm_pool.specs.PoolValue.{queued_blocks_of}
use Rattle.strm_pool.proofs.pool.Pool.run_at.Goals as goal

pub returns : goal.returns
returns c = subst (λ v. c.run_at.result ≡ queues.run_at c.args.place (queued_blocks_of v)) c.self.view_is (c.run_at.ensures c.self.inside.blocks)
