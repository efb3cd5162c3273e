use Rattle.strm_queue.specs.QueueCalls as queues
use Rattle.strm_pool.proofs.OnParts.{flushes_on}
use Rattle.strm_pool.proofs.pool.Pool.flushq.Goals as goal

pub returns : goal.returns
returns c = flushes_on c.self.view_is (queues.flushq c.args.queue c.args.flush) c.flushq.ensures.does
