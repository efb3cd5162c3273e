-- The sections that are left.
use Rattle.std.proofs.Common.{length}
use Rattle.strm_run.proofs.serial.+serve_parts.Given as goal

abbrev pub decreases-serve_parts : goal.decreases-serve_parts
decreases-serve_parts l = length l.parts.now
