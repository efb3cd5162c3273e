use Rattle.std.proofs.Common.{rules, FitsSigned, of_z, to_z, w32, Some, refl, sym, ap}
use Rattle.std.proofs.lemmas.Int.{to_z-of_z}
use Rattle.strm_mblk.specs.Trimming as trimming
use Rattle.strm_pool.specs.declared.call.Call.TheVariants.{Pullupmsg}
use Rattle.strm_pool.specs.Registers.{table_of}
use Rattle.strm_pool.specs.Step.{act}
use Rattle.strm_pool.proofs.Applied.{put_in_place}
use Rattle.strm_pool.proofs.Shaped.{alters}
use Rattle.strm_pool.proofs.pool.Pool.act_pullupmsg.Goals as goal

pub returns : goal.returns
returns c =
    let fits : FitsSigned w32 c.args.count = search rules in
    alters refl c.requires (λ h. trimming.pullupmsg h (to_z w32 (of_z w32 c.args.count)) c.args.self.now.arena) c.args.reg refl c.picked-token.ensures.token
    (ap (λ z. act c.args.self.now (table_of c.args.regs.now) (Pullupmsg c.args.reg z)) (sym (to_z-of_z w32 c.args.count fits))) c.pullupmsg-pulled.ensures
    (put_in_place c.args.regs.now c.args.reg (Some c.pullupmsg-pulled.new.token) c.hold.ensures c.picked-token.ensures.empty) c.set_done.ensures
