use Rattle.strm_queue.specs.HeadCalls as by_head
use Rattle.strm_pool.proofs.OnParts.{puts_on}
use Rattle.strm_pool.proofs.pool.Pool.insq_before.Goals as goal

pub returns : goal.returns
returns c = puts_on c.self.view_is (by_head.insq_before c.args.queue c.args.before c.args.token.head) c.insq_before.ensures.does
