use Rattle.strm_mblk.specs.Freeing as freeing
use Rattle.strm_pool.proofs.OnParts.{agrees_still, spends_on}
use Rattle.strm_pool.proofs.pool.Pool.free_held.Goals as goal

pub invariant_of-self : goal.invariant_of-self
invariant_of-self c = agrees_still c.free_held.ensures.shelves c.self.invariant

pub returns : goal.returns
returns c = spends_on c.self.view_is c.args.token (freeing.freemsg c.args.token.head) c.free_held.ensures
