use Rattle.std.specs.Prelude.{map}
use Rattle.strm_mblk.specs.InPlace as in_place
use Rattle.strm_pool.proofs.OnParts.{agrees_still, alters_on}
use Rattle.strm_pool.proofs.pool.Pool.shape_all.Goals as goal

pub invariant_of-self : goal.invariant_of-self
invariant_of-self g c = agrees_still c.shape_all.ensures.shelves c.self.invariant

pub returns : goal.returns
returns g c = alters_on c.self.view_is (in_place.shape_all c.args.token.now.head (map g.S.Shaped.shape c.args.shapes.now)) c.shape_all.ensures
