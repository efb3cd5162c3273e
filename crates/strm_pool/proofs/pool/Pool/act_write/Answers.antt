use Rattle.std.proofs.Common.{refl, sym, ap}
use Rattle.strm_mblk.specs.BlockCalls as blocks
use Rattle.strm_pool.specs.declared.call.Call.TheVariants.{Write}
use Rattle.strm_pool.specs.Registers.{table_of}
use Rattle.strm_pool.specs.Step.{act}
use Rattle.strm_pool.proofs.Shaped.{alters_kept}
use Rattle.strm_pool.proofs.pool.Pool.act_write.Goals as goal

pub returns : goal.returns
returns c =
    alters_kept refl c.requires (λ h. blocks.write h c.args.place c.items.result.now c.args.self.now.arena) c.args.reg refl c.lent.ensures.token
    (ap (λ bytes. act c.args.self.now (table_of c.args.regs.now) (Write c.args.reg c.args.place bytes)) (sym c.items.ensures.value)) c.write.ensures c.set_done.ensures
