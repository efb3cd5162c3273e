use Rattle.std.proofs.Common.{◌≤◌, ◌-◌, length}
use Rattle.strm_scheduler.proofs.starting.count_enabled.Given as goal

abbrev pub invariant-loop-count : goal.invariant-loop-count
invariant-loop-count l = l.count ≤ length l.fn.pool.queues.run

abbrev pub decreases-loop-count : goal.decreases-loop-count
decreases-loop-count l = length l.fn.pool.queues.run - l.count
