use Rattle.std.proofs.Common.{Ok, ap, ◌∙◌}
use Rattle.strm_mblk.specs.BlockCalls.{info_of}
use Rattle.strm_mblk.specs.Given.{answer_map, answer_of}
use Rattle.strm_mblk.proofs.blocks.Blocks.block.Goals as goal

pub returns : goal.returns
returns c =
    ap Ok (c.info.ensures c.in_ok-fields.field-0.node)
    ∙ ap (λ r. answer_of (answer_map (λ b. (info_of c.args.self.now b, c.args.self.now)) r)) c.in_ok-fields.ensures.answer
