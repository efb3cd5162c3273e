use Rattle.strm_queue.specs.QueueCalls as queues
use Rattle.strm_pool.proofs.OnParts.{takes_any_on}
use Rattle.strm_pool.proofs.pool.Pool.getq.Goals as goal

pub returns : goal.returns
returns c = takes_any_on c.self.view_is (queues.getq c.args.queue) c.getq.ensures.does
