use Rattle.std.proofs.Common.{refl}
use Rattle.strm_mblk.specs.BlockCalls as blocks
use Rattle.strm_pool.proofs.Applied.{put_in_place}
use Rattle.strm_pool.proofs.Shaped.{leaves_one}
use Rattle.strm_pool.proofs.pool.Pool.act_freeb.Goals as goal

pub returns : goal.returns
returns c =
    leaves_one refl c.requires blocks.freeb c.args.reg refl c.picked-token.ensures.token refl c.freeb-rest.ensures
    (put_in_place c.args.regs.now c.args.reg c.freeb-rest.result c.hold_any.ensures c.picked-token.ensures.empty)
