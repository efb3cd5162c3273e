-- The first fault of the queues that are left is the first of all.
use Rattle.std.proofs.Common.{◌≡◌, drop}
use Rattle.strm_scheduler.specs.Sides.{fault_from}
use Rattle.strm_scheduler.proofs.sides.first_fault.Given as goal

abbrev pub invariant-loop-queue : goal.invariant-loop-queue
invariant-loop-queue l = fault_from l.queue (drop l.queue l.specs) ≡ fault_from 0 l.specs
