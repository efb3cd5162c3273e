use Rattle.std.proofs.Common.{refl}
use Rattle.strm_mblk.specs.BlockCalls as blocks
use Rattle.strm_pool.proofs.Shaped.{gives_beside}
use Rattle.strm_pool.proofs.pool.Pool.act_dupmsg.Goals as goal

pub returns : goal.returns
returns c =
    gives_beside refl c.requires c.args.from c.args.into refl c.lent.ensures.token (λ h. blocks.dupmsg h c.args.self.now.arena) refl c.dupmsg-copy.ensures c.give.ensures
