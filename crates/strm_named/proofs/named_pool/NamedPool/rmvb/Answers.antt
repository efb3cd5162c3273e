use Rattle.std.proofs.Common.{sym, ◌∙◌}
use Rattle.strm_mblk.specs.BlockCalls as blocks
use Rattle.strm_pool.specs.PoolValue.{on_arena}
use Rattle.strm_named.proofs.Held.{have_parts}
use Rattle.strm_named.proofs.Shaped.{here, parts}
use Rattle.strm_named.proofs.named_pool.NamedPool.rmvb.Goals as goal

pub part-requires : goal.part-requires
part-requires c = have_parts c.self.invariant c.rmvb-parted.ensures.others c.rmvb-parted.result c.rmvb-parted.ensures.had c.rmvb-parted.ensures.rest_had

pub invariant_of-self : goal.invariant_of-self
invariant_of-self c = (parts c.self.invariant c.self.view_is (sym c.has.ensures ∙ c.if-not-has.false) (here c.self.view_is c.token-token.ensures) (λ h v. on_arena v.pool (blocks.rmvb h c.args.place v.pool.arena)) c.rmvb-parted.ensures c.part.ensures.stamps c.part.ensures.names).fits

pub returns : goal.returns
returns c = (parts c.self.invariant c.self.view_is (sym c.has.ensures ∙ c.if-not-has.false) (here c.self.view_is c.token-token.ensures) (λ h v. on_arena v.pool (blocks.rmvb h c.args.place v.pool.arena)) c.rmvb-parted.ensures c.part.ensures.stamps c.part.ensures.names).does
