use Rattle.std.specs.Fn.{FnOnceReturnsAtMut}
use Rattle.strm_mblk.specs.InPlace as in_place
use Rattle.strm_pool.proofs.OnParts.{agrees_still, lends_on, lent_shelves}
use Rattle.strm_pool.proofs.pool.Pool.fill.Goals as goal

pub invariant_of-self : goal.invariant_of-self
invariant_of-self g c =
    agrees_still (lent_shelves c.args.token.now (FnOnceReturnsAtMut g.F.FnOnce c.args.write) _ c.self.inside.blocks _ _ (in_place.bytes_to_fill c.args.token.now.head c.args.place c.self.inside.blocks) c.fill.ensures) c.self.invariant

pub returns : goal.returns
returns g c =
    lends_on _ c.args.self.now _ c.self.view_is c.args.token.now (FnOnceReturnsAtMut g.F.FnOnce c.args.write) _ (in_place.bytes_to_fill c.args.token.now.head c.args.place) (λ count left. in_place.fill c.args.token.now.head c.args.place count left) c.fill.ensures
