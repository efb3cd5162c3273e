-- Fewer queues are ahead.
use Rattle.std.proofs.Common.{◌-◌, length}
use Rattle.strm_scheduler.proofs.writers.+target.Given as goal

abbrev pub decreases-target : goal.decreases-target
decreases-target l = length l.pool.now.queues.specs - l.queue
