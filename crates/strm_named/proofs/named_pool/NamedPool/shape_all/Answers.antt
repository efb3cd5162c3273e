use Rattle.std.proofs.Common.{refl, sym, ◌∙◌}
use Rattle.std.specs.Prelude.{map}
use Rattle.strm_mblk.specs.InPlace as in_place
use Rattle.strm_pool.specs.PoolValue.{on_arena}
use Rattle.strm_named.proofs.Shaped.{alters, here}
use Rattle.strm_named.proofs.named_pool.NamedPool.shape_all.Goals as goal

pub invariant_of-self : goal.invariant_of-self
invariant_of-self g c = (alters c.self.invariant c.self.view_is (sym c.has.ensures ∙ c.if-not-has.false) (here c.self.view_is c.token-token.ensures) (λ h v. on_arena v.pool (in_place.shape_all h (map g.S.Shaped.shape c.args.shapes.now) v.pool.arena)) c.shape_all-answer.ensures refl c.answered.ensures).fits

pub returns : goal.returns
returns g c = (alters c.self.invariant c.self.view_is (sym c.has.ensures ∙ c.if-not-has.false) (here c.self.view_is c.token-token.ensures) (λ h v. on_arena v.pool (in_place.shape_all h (map g.S.Shaped.shape c.args.shapes.now) v.pool.arena)) c.shape_all-answer.ensures refl c.answered.ensures).does
