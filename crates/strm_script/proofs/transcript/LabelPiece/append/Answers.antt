use Rattle.std.proofs.Common.{append-nil, ◌∙◌, arith}
use Rattle.std.proofs.lemmas.Grind.{common_steps}
use Rattle.strm_script.proofs.Forms.{length_u32, length_u8, placed}
use Rattle.strm_script.proofs.transcript.LabelPiece.append.Goals as goal

pub write_digits-colon-requires : goal.write_digits-colon-requires
write_digits-colon-requires c = let short = length_u32 c.from.result (omega arith) in (omega (arith, short), omega arith)

pub overflow_sub-colon : goal.overflow_sub-colon
overflow_sub-colon c = omega (arith, length_u32 c.from.result (omega arith), c.write_digits-colon.ensures.start)

pub write_digits-start-requires : goal.write_digits-start-requires
write_digits-start-requires c =
    (omega (arith, length_u32 c.from.result (omega arith), length_u8 c.from-2.result (omega arith), c.write_digits-colon.ensures.start), grind (arith, common_steps))

pub returns-clause-ok : goal.returns-clause-ok
returns-clause-ok c =
    let short = length_u32 c.from.result (omega arith) in
    let start = c.write_digits-colon.ensures.start in
    let whole =
    placed 58 c.write_digits-colon.new.buf c.write_digits-start.new.buf _ _ c.write_digits-colon.result c.write_digits-start.result
    (omega (arith, short, start)) (omega (arith, c.write_digits-colon.auto.buf, start)) (c.write_digits-colon.ensures.written ∙ append-nil _) c.write_digits-start.ensures.written in
    grind (arith, common_steps)
