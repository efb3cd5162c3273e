use Rattle.std.proofs.Common.{sym, ◌∙◌}
use Rattle.strm_mblk.specs.BlockCalls as blocks
use Rattle.strm_pool.specs.PoolValue.{on_arena}
use Rattle.strm_named.proofs.Held.{have_one}
use Rattle.strm_named.proofs.Shaped.{gives_beside, here}
use Rattle.strm_named.proofs.named_pool.NamedPool.copymsg.Goals as goal

pub answer-requires : goal.answer-requires
answer-requires c = have_one c.self.invariant c.copymsg-given.ensures.others c.copymsg-given.result c.copymsg-given.ensures.had

pub invariant_of-self : goal.invariant_of-self
invariant_of-self c = (gives_beside c.self.invariant c.self.view_is (sym c.has.ensures ∙ c.if-not-has.false) (here c.self.view_is c.token-token.ensures) (λ h v. on_arena v.pool (blocks.copymsg h v.pool.arena)) c.copymsg-given.ensures c.answer.ensures.stamps c.answer.ensures.name).fits

pub returns : goal.returns
returns c = (gives_beside c.self.invariant c.self.view_is (sym c.has.ensures ∙ c.if-not-has.false) (here c.self.view_is c.token-token.ensures) (λ h v. on_arena v.pool (blocks.copymsg h v.pool.arena)) c.copymsg-given.ensures c.answer.ensures.stamps c.answer.ensures.name).does
