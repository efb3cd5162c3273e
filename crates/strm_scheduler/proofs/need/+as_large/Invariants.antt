use Rattle.std.proofs.Common.{length}
use Rattle.strm_scheduler.proofs.need.+as_large.Given as goal

abbrev pub decreases-as_large : goal.decreases-as_large
decreases-as_large l = length l.sizes.now
