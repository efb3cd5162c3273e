use Rattle.std.specs.Fn.{FnOnceReturnsAtMut}
use Rattle.strm_mblk.specs.InPlace as in_place
use Rattle.strm_pool.proofs.OnParts.{agrees_still, lends_on, lent_shelves}
use Rattle.strm_pool.proofs.pool.Pool.window.Goals as goal

pub invariant_of-self : goal.invariant_of-self
invariant_of-self g c =
    agrees_still (lent_shelves c.args.token.now (FnOnceReturnsAtMut g.F.FnOnce c.args.change) _ c.self.inside.blocks _ _ (in_place.bytes_of_window c.args.token.now.head c.args.place c.self.inside.blocks) c.window.ensures) c.self.invariant

pub returns : goal.returns
returns g c =
    lends_on _ c.args.self.now _ c.self.view_is c.args.token.now (FnOnceReturnsAtMut g.F.FnOnce c.args.change) _ (in_place.bytes_of_window c.args.token.now.head c.args.place) (λ r left. in_place.window c.args.token.now.head c.args.place r left) c.window.ensures
