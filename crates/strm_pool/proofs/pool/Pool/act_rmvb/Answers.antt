use Rattle.std.proofs.Common.{refl, ap, ◌∙◌}
use Rattle.strm_mblk.specs.BlockCalls as blocks
use Rattle.strm_pool.specs.Shapes.{parted_to}
use Rattle.strm_pool.proofs.Shaped.{parts_two}
use Rattle.strm_pool.proofs.pool.Pool.act_rmvb.Goals as goal

pub returns : goal.returns
returns c =
    let v = c.args.self.now in
    parts_two refl c.requires c.args.reg c.args.into refl c.picked-token.ensures.token (λ h. blocks.rmvb h c.args.place v.arena) refl c.rmvb.ensures
    (c.part.ensures ∙ ap (parted_to c.args.reg c.args.into c.rmvb.result) c.picked-token.ensures.empty)
