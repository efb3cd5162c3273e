use Rattle.strm_pool.specs.PoolValue.{queued_blocks_of}
use Rattle.strm_pool.proofs.SameQueues.{same_queues}
use Rattle.strm_pool.proofs.pool.Pool.takes_as_flushes.Goals as goal

pub returns : goal.returns
returns c = λ q n band flush enough. same_queues (queued_blocks_of c.args.self.now) q n band flush enough
