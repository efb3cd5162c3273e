use Rattle.strm_queue.specs.HeadCalls as by_head
use Rattle.strm_pool.proofs.OnParts.{takes_on}
use Rattle.strm_pool.proofs.pool.Pool.rmvq_head.Goals as goal

pub returns : goal.returns
returns c = takes_on c.self.view_is (by_head.rmvq_head c.args.head) c.rmvq_head.ensures.does
