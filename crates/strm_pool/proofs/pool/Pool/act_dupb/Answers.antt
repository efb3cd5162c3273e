use Rattle.std.proofs.Common.{refl}
use Rattle.strm_mblk.specs.BlockCalls as blocks
use Rattle.strm_pool.proofs.Shaped.{gives_beside}
use Rattle.strm_pool.proofs.pool.Pool.act_dupb.Goals as goal

pub returns : goal.returns
returns c =
    gives_beside refl c.requires c.args.from c.args.into refl c.lent.ensures.token (λ h. blocks.dupb h c.args.self.now.arena) refl c.dupb-copy.ensures c.give.ensures
