use Rattle.std.proofs.Common.{◌≡◌, map, take}
use Rattle.strm_queue.specs.QueuesLayout.{new_queue}
use Rattle.strm_queue.proofs.queues.Queues.new.Given as goal

-- `spec-index` queues were made
abbrev pub invariant-loop-spec : goal.invariant-loop-spec
invariant-loop-spec l = l.queues.items ≡ map new_queue (take l.spec-index l.specs)
