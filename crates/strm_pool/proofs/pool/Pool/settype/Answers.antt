use Rattle.strm_mblk.specs.BlockCalls as blocks
use Rattle.strm_pool.proofs.OnParts.{agrees_still, alters_on}
use Rattle.strm_pool.proofs.pool.Pool.settype.Goals as goal

pub invariant_of-self : goal.invariant_of-self
invariant_of-self c = agrees_still c.settype.ensures.shelves c.self.invariant

pub returns : goal.returns
returns c = alters_on c.self.view_is (blocks.settype c.args.token.now.head c.args.place c.args.kind) c.settype.ensures
