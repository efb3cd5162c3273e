use Rattle.strm_queue.specs.QueueCalls as queues
use Rattle.strm_pool.proofs.OnParts.{flushes_on}
use Rattle.strm_pool.proofs.pool.Pool.flushband.Goals as goal

pub returns : goal.returns
returns c = flushes_on c.self.view_is (queues.flushband c.args.queue c.args.band c.args.flush) c.flushband.ensures.does
