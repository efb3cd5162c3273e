use Rattle.std.proofs.Common.{arith}
use Rattle.std.proofs.lemmas.Grind.{common_steps}
use Rattle.strm_script.proofs.Forms.{length_u32, placed}
use Rattle.strm_script.proofs.transcript.CountsPiece.append.Goals as goal

pub write_digits-held-requires : goal.write_digits-held-requires
write_digits-held-requires c = (omega (arith, length_u32 c.from.result (omega arith)), omega arith)

pub overflow_sub-counts : goal.overflow_sub-counts
overflow_sub-counts c = omega (arith, length_u32 c.from.result (omega arith), c.write_digits-held.ensures.start)

pub overflow_sub-held : goal.overflow_sub-held
overflow_sub-held c = omega (arith, length_u32 c.from.result (omega arith), c.write_digits-held.ensures.start)

pub write_digits-queued-requires : goal.write_digits-queued-requires
write_digits-queued-requires c =
    (omega (arith, length_u32 c.from.result (omega arith), length_u32 c.from-2.result (omega arith), c.write_digits-held.ensures.start), grind (arith, common_steps))

pub overflow_sub-counts-2 : goal.overflow_sub-counts-2
overflow_sub-counts-2 c =
    omega (arith, length_u32 c.from.result (omega arith), length_u32 c.from-2.result (omega arith), c.write_digits-held.ensures.start, c.write_digits-queued.ensures.start)

pub overflow_sub-queued : goal.overflow_sub-queued
overflow_sub-queued c =
    omega (arith, length_u32 c.from.result (omega arith), length_u32 c.from-2.result (omega arith), c.write_digits-held.ensures.start, c.write_digits-queued.ensures.start)

pub write_digits-free-requires : goal.write_digits-free-requires
write_digits-free-requires c = (
  omega (arith, length_u32 c.from.result (omega arith), length_u32 c.from-2.result (omega arith), length_u32 c.from-3.result (omega arith), c.write_digits-held.ensures.start, c.write_digits-queued.ensures.start),
  grind (arith, common_steps),
)

pub returns-clause-ok : goal.returns-clause-ok
returns-clause-ok c =
    let short = length_u32 c.from.result (omega arith) in
    let shorter = length_u32 c.from-2.result (omega arith) in
    let held = c.write_digits-held.ensures.start in
    let queued = c.write_digits-queued.ensures.start in
    let two =
    placed 32 c.write_digits-held.new.buf c.write_digits-queued.new.buf _ _ c.write_digits-held.result c.write_digits-queued.result
    (omega (arith, short, held)) (omega (arith, c.write_digits-held.auto.buf, held)) c.write_digits-held.ensures.written c.write_digits-queued.ensures.written in
    let three =
    placed 32 c.write_digits-queued.new.buf c.write_digits-free.new.buf _ _ c.write_digits-queued.result c.write_digits-free.result
    (omega (arith, short, shorter, held, queued)) (omega (arith, c.write_digits-held.auto.buf, c.write_digits-queued.auto.buf, held, queued)) two c.write_digits-free.ensures.written in
    grind (arith, common_steps)
