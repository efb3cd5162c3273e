use Rattle.strm_queue.specs.QueueCalls as queues
use Rattle.strm_pool.proofs.OnParts.{puts_on}
use Rattle.strm_pool.proofs.pool.Pool.insq.Goals as goal

pub returns : goal.returns
returns c = puts_on c.self.view_is (queues.insq c.args.queue c.args.place c.args.token.head) c.insq.ensures.does
