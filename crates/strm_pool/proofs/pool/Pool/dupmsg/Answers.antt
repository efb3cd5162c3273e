use Rattle.strm_mblk.specs.BlockCalls as blocks
use Rattle.strm_pool.proofs.OnParts.{agrees_still, gives_on}
use Rattle.strm_pool.proofs.pool.Pool.dupmsg.Goals as goal

pub invariant_of-self : goal.invariant_of-self
invariant_of-self c = agrees_still c.dupmsg.ensures.shelves c.self.invariant

pub returns : goal.returns
returns c = gives_on c.self.view_is (blocks.dupmsg c.args.token.now.head) c.dupmsg.ensures
