use Rattle.strm_queue.specs.QueueCalls as queues
use Rattle.strm_pool.proofs.OnParts.{takes_each_on}
use Rattle.strm_pool.proofs.pool.Pool.getq_run.Goals as goal

pub returns-clause-takes : goal.returns-clause-takes
returns-clause-takes g c = takes_each_on g.R.Receiver.receives (queues.getq c.args.queue) c.self.view_is c.getq_run.ensures.takes
