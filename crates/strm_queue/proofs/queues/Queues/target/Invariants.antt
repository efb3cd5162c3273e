use Rattle.std.proofs.Common.{length}
use Rattle.strm_queue.proofs.Flow.{IsOnWay, target_found}
use Rattle.strm_queue.proofs.queues.Queues.target.Given as goal

-- the walk to the target has made `_queue` steps
abbrev pub invariant-loop-queue : goal.invariant-loop-queue
invariant-loop-queue l = IsOnWay (target_found l.self.state.specs l.queue l._queue-end) (length l.self.state.specs) l.queue l._queue-end l._queue l.at
