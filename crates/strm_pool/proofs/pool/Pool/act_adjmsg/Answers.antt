use Rattle.std.proofs.Common.{rules, FitsSigned, of_z, to_z, w32, refl, sym, ap}
use Rattle.std.proofs.lemmas.Int.{to_z-of_z}
use Rattle.strm_mblk.specs.Trimming as trimming
use Rattle.strm_pool.specs.declared.call.Call.TheVariants.{Adjmsg}
use Rattle.strm_pool.specs.Registers.{table_of}
use Rattle.strm_pool.specs.Step.{act}
use Rattle.strm_pool.proofs.Shaped.{alters_kept}
use Rattle.strm_pool.proofs.pool.Pool.act_adjmsg.Goals as goal

pub returns : goal.returns
returns c =
    let fits : FitsSigned w32 c.args.count = search rules in
    alters_kept refl c.requires (λ h. trimming.adjmsg h (to_z w32 (of_z w32 c.args.count)) c.args.self.now.arena) c.args.reg refl c.lent.ensures.token
    (ap (λ z. act c.args.self.now (table_of c.args.regs.now) (Adjmsg c.args.reg z)) (sym (to_z-of_z w32 c.args.count fits))) c.adjmsg.ensures c.set_done.ensures
