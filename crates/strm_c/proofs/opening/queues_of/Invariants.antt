use Rattle.std.proofs.Common.{◌≡◌, length, map, take}
use Rattle.strm_c.specs.Opening.{queue_spec_of}
use Rattle.strm_c.proofs.opening.queues_of.Given as goal

-- the queues so far
abbrev pub invariant-loop-queue : goal.invariant-loop-queue
invariant-loop-queue l = (l.array.items ≡ map queue_spec_of (take l.queue-index l.queues)) × (length l.array.items ≡ l.queue-index)
