use Rattle.std.proofs.Common.{[], length, refl, ap, arith}
use Rattle.strm_run.proofs.Serving.{serial_text-parts}
use Rattle.strm_run.proofs.serial.serial_text.Goals as goal

pub serve_parts-requires : goal.serve_parts-requires
serve_parts-requires c = omega (arith, c.requires, ap length c.items-sections.ensures)

pub returns-in-Ok-serve_parts-clause-text : goal.returns-in-Ok-serve_parts-clause-text
returns-in-Ok-serve_parts-clause-text c =
    serial_text-parts c.args.script c.in_ok-pool.pool c.serve_parts.new.text.items _ c.in_ok-pool.ensures.opens.1 c.in-Ok.ensures.items (rw c.items-sections.ensures at c.in-Ok-serve_parts.ensures.text [] refl)
