use Rattle.std.proofs.Common.{length}
use Rattle.strm_scheduler.proofs.need.+all_fit.Given as goal

abbrev pub decreases-all_fit : goal.decreases-all_fit
decreases-all_fit l = length l.left.now
