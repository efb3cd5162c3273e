use Rattle.std.proofs.Common.{refl}
use Rattle.strm_mblk.specs.BlockCalls as blocks
use Rattle.strm_mblk.specs.Given.{given_nothing}
use Rattle.strm_pool.proofs.Shaped.{alters_kept}
use Rattle.strm_pool.proofs.pool.Pool.act_setband.Goals as goal

pub returns : goal.returns
returns c =
    alters_kept refl c.requires (λ h. given_nothing (blocks.setband h c.args.band c.args.self.now.arena)) c.args.reg refl c.lent.ensures.token refl c.setband.ensures refl
