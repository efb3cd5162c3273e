use Rattle.std.proofs.Common.{refl, sym, ◌∙◌}
use Rattle.strm_mblk.specs.BlockCalls as blocks
use Rattle.strm_pool.specs.PoolValue.{on_arena}
use Rattle.strm_named.proofs.Shaped.{alters, here}
use Rattle.strm_named.proofs.named_pool.NamedPool.settype.Goals as goal

pub invariant_of-self : goal.invariant_of-self
invariant_of-self c = (alters c.self.invariant c.self.view_is (sym c.has.ensures ∙ c.if-not-has.false) (here c.self.view_is c.token-token.ensures) (λ h v. on_arena v.pool (blocks.settype h c.args.place c.args.kind v.pool.arena)) c.settype-answer.ensures refl c.answered.ensures).fits

pub returns : goal.returns
returns c = (alters c.self.invariant c.self.view_is (sym c.has.ensures ∙ c.if-not-has.false) (here c.self.view_is c.token-token.ensures) (λ h v. on_arena v.pool (blocks.settype h c.args.place c.args.kind v.pool.arena)) c.settype-answer.ensures refl c.answered.ensures).does
