use Rattle.std.proofs.Common.{Ok, Some, refl, ap, ◌∙◌}
use Rattle.strm_mblk.specs.BlockCalls as blocks
use Rattle.strm_pool.specs.Shapes.{any_given_to}
use Rattle.strm_pool.proofs.Applied.{put_in_place}
use Rattle.strm_pool.proofs.Shaped.{unlinks}
use Rattle.strm_pool.proofs.pool.Pool.act_unlinkb.Goals as goal

pub returns : goal.returns
returns c =
    unlinks refl c.requires c.args.reg c.args.into refl c.picked-token.ensures.token blocks.unlinkb refl c.unlinkb-rest.ensures
    (c.give_any.ensures ∙ ap (any_given_to c.args.into (Ok c.unlinkb-rest.result)) (put_in_place c.args.regs.now c.args.reg (Some c.unlinkb-rest.new.token) c.hold.ensures c.picked-token.ensures.empty))
