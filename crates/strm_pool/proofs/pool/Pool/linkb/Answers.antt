use Rattle.strm_mblk.specs.BlockCalls as blocks
use Rattle.strm_pool.proofs.OnParts.{agrees_still, joins_on}
use Rattle.strm_pool.proofs.pool.Pool.linkb.Goals as goal

pub invariant_of-self : goal.invariant_of-self
invariant_of-self c = agrees_still c.linkb.ensures.shelves c.self.invariant

pub returns : goal.returns
returns c = joins_on c.self.view_is (blocks.linkb c.args.token.now.head c.args.tail.head) c.linkb.ensures
