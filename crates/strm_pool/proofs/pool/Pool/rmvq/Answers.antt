use Rattle.strm_queue.specs.QueueCalls as queues
use Rattle.strm_pool.proofs.OnParts.{takes_on}
use Rattle.strm_pool.proofs.pool.Pool.rmvq.Goals as goal

pub returns : goal.returns
returns c = takes_on c.self.view_is (queues.rmvq c.args.queue c.args.place) c.rmvq.ensures.does
