use Rattle.strm_mblk.specs.BlockCalls as blocks
use Rattle.strm_pool.proofs.OnParts.{agrees_still, parts_on}
use Rattle.strm_pool.proofs.pool.Pool.rmvb.Goals as goal

pub invariant_of-self : goal.invariant_of-self
invariant_of-self c = agrees_still c.rmvb.ensures.shelves c.self.invariant

pub returns : goal.returns
returns c = parts_on c.self.view_is (blocks.rmvb c.args.token.head c.args.place) c.rmvb.ensures
