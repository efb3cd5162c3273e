use Rattle.std.proofs.Common.{refl, sym, ◌∙◌}
use Rattle.strm_mblk.specs.Freeing as freeing
use Rattle.strm_pool.specs.PoolValue.{with_arena}
use Rattle.strm_named.proofs.Shaped.{frees, here}
use Rattle.strm_named.proofs.named_pool.NamedPool.freemsg.Goals as goal

pub invariant_of-self : goal.invariant_of-self
invariant_of-self c = (frees c.self.invariant c.self.view_is (sym c.has.ensures ∙ c.if-not-has.false) (here c.self.view_is c.token-token.ensures) (λ h v. with_arena v.pool (freeing.freemsg h v.pool.arena)) c.free_held.ensures refl refl).fits

pub returns : goal.returns
returns c = (frees c.self.invariant c.self.view_is (sym c.has.ensures ∙ c.if-not-has.false) (here c.self.view_is c.token-token.ensures) (λ h v. with_arena v.pool (freeing.freemsg h v.pool.arena)) c.free_held.ensures refl refl).does
