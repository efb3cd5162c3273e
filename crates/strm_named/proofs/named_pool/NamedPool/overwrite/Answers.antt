use Rattle.std.proofs.Common.{refl, sym, ◌∙◌}
use Rattle.strm_mblk.specs.InPlace as in_place
use Rattle.strm_pool.specs.PoolValue.{on_arena}
use Rattle.strm_named.proofs.Shaped.{alters, here}
use Rattle.strm_named.proofs.named_pool.NamedPool.overwrite.Goals as goal

pub invariant_of-self : goal.invariant_of-self
invariant_of-self c = (alters c.self.invariant c.self.view_is (sym c.has.ensures ∙ c.if-not-has.false) (here c.self.view_is c.token-token.ensures) (λ h v. on_arena v.pool (in_place.overwrite h c.args.at c.args.bytes.now v.pool.arena)) c.overwrite-answer.ensures refl c.answered.ensures).fits

pub returns : goal.returns
returns c = (alters c.self.invariant c.self.view_is (sym c.has.ensures ∙ c.if-not-has.false) (here c.self.view_is c.token-token.ensures) (λ h v. on_arena v.pool (in_place.overwrite h c.args.at c.args.bytes.now v.pool.arena)) c.overwrite-answer.ensures refl c.answered.ensures).does
