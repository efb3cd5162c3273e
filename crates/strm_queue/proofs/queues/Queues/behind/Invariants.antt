use Rattle.strm_queue.proofs.Flow.{NoneBehind}
use Rattle.strm_queue.proofs.queues.Queues.behind.Given as goal

-- none of the queues below `other` has this one as its next
abbrev pub invariant-loop-other : goal.invariant-loop-other
invariant-loop-other l = NoneBehind l.self.state.specs l.queue l.other
