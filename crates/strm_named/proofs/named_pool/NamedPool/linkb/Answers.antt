use Rattle.std.proofs.Common.{refl, sym, ◌∙◌}
use Rattle.strm_mblk.specs.BlockCalls as blocks
use Rattle.strm_pool.specs.PoolValue.{with_arena}
use Rattle.strm_named.proofs.Shaped.{here, links}
use Rattle.strm_named.proofs.named_pool.NamedPool.linkb.Goals as goal

pub invariant_of-self : goal.invariant_of-self
invariant_of-self c = (links c.self.invariant c.self.view_is (sym c.has_both.ensures ∙ c.if-not-has_both.false) (λ h k v. with_arena v.pool (blocks.linkb h k v.pool.arena)) (here c.self.view_is c.token-token.ensures) (here c.self.view_is c.token-behind.ensures) c.linkb.ensures refl refl).fits

pub returns : goal.returns
returns c = (links c.self.invariant c.self.view_is (sym c.has_both.ensures ∙ c.if-not-has_both.false) (λ h k v. with_arena v.pool (blocks.linkb h k v.pool.arena)) (here c.self.view_is c.token-token.ensures) (here c.self.view_is c.token-behind.ensures) c.linkb.ensures refl refl).does
