use Rattle.std.proofs.Common.{arith}
use Rattle.std.proofs.lemmas.Grind.{common_steps}
use Rattle.std.proofs.lemmas.List.{set_past}
use Rattle.strm_queue.proofs.bands.Used.{used_above, used_zero}
use Rattle.strm_queue.proofs.tally.Tally.set_ends.Goals as goal

pub returns-then-band-gt0 : goal.returns-then-band-gt0
returns-then-band-gt0 c = grind (arith, common_steps, used_above)

pub returns-else-band-gt0 : goal.returns-else-band-gt0
returns-else-band-gt0 c = grind (arith, common_steps, used_zero, set_past)
