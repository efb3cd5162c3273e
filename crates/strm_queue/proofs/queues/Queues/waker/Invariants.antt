use Rattle.std.proofs.Common.{length}
use Rattle.strm_queue.proofs.Flow.{IsOnWay, waker_found}
use Rattle.strm_queue.proofs.queues.Queues.waker.Given as goal

-- the walk to the waker has made `_queue` steps
abbrev pub invariant-loop-queue : goal.invariant-loop-queue
invariant-loop-queue l = IsOnWay (waker_found l.self.state.specs l.queue l._queue-end) (length l.self.state.specs) l.queue l._queue-end l._queue l.at
