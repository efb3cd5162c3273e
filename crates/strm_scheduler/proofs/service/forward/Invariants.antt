-- So many messages have gone; the others are left, and so fewer with each round.
use Rattle.std.proofs.Common.{length}
use Rattle.strm_mblk.specs.Arena.{shelf_at}
use Rattle.strm_scheduler.proofs.Looping.{IsOn}
use Rattle.strm_scheduler.proofs.service.forward.Given as goal

abbrev pub invariant-loop-from : goal.invariant-loop-from
invariant-loop-from l = IsOn l.from l.to l.count l.initial.pool l.pool

abbrev pub decreases-loop-from : goal.decreases-loop-from
decreases-loop-from l = length (shelf_at l.pool.arena l.from)
