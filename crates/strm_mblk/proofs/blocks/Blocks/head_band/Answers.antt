use Rattle.std.proofs.Common.{Some, arith, ap, sym, ◌∙◌}
use Rattle.std.specs.Prelude.{option_map}
use Rattle.strm_mblk.specs.declared.blocks.Fields.{Fields}
use Rattle.strm_mblk.specs.Block.{Block}
use Rattle.strm_mblk.proofs.Shelving.{is_head}
use Rattle.strm_mblk.proofs.blocks.Blocks.head_band.Goals as goal

pub fields_at-requires : goal.fields_at-requires
fields_at-requires c =
    omega (arith, (is_head c.self.invariant.filled c.self.view_is c.args.head c.requires).there)

pub returns : goal.returns
returns c =
    let is = is_head c.self.invariant.filled c.self.view_is c.args.head c.requires in
    ap (option_map (λ (b : Block). b.band)) is.block
    ∙ ap (λ (f : Fields). Some f.band) (sym (c.fields_at.ensures))
