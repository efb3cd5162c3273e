use Rattle.strm_mblk.specs.InPlace as in_place
use Rattle.strm_pool.proofs.OnParts.{agrees_still, alters_on}
use Rattle.strm_pool.proofs.pool.Pool.shape.Goals as goal

pub invariant_of-self : goal.invariant_of-self
invariant_of-self c = agrees_still c.shape.ensures.shelves c.self.invariant

pub returns : goal.returns
returns c = alters_on c.self.view_is (in_place.shape c.args.token.now.head c.args.place c.args.at c.args.len) c.shape.ensures
