use Rattle.std.proofs.Common.{rules, ◌++◌, arith, take, length-append, length-take}
use Rattle.std.proofs.KnownBytes.{Consumes-trans}
use Rattle.strm_run.proofs.input.read_input.Goals as goal

pub returns-in_err-extend_from_slice-in-Ok-clause-taken : goal.returns-in_err-extend_from_slice-in-Ok-clause-taken
returns-in_err-extend_from_slice-in-Ok-clause-taken g c =
    let read = take c.in-Ok.count c.read.new.buf in (
      c.loop-chunk.input.items ++ read,
      Consumes-trans _ _ _ _ _ c.loop-chunk.invariant.read c.in-Ok.ensures.bytes.0,
      simp (length-append, length-take) (omega (arith, c.in-Ok.ensures.bound, c.min-room.ensures, c.read.auto.buf, length-take c.min-room.result c.loop-chunk.chunk)),
      search rules,
    )
