use Rattle.std.proofs.Common.{◌≡◌}
use Rattle.std.specs.Prelude.{slice_get}
use Rattle.strm_links.specs.Rows.{list_at}
use Rattle.strm_queue.proofs.queues.Queues.run_at.Given as goal

-- the queue at the place that was reached
abbrev pub invariant-loop-queue : goal.invariant-loop-queue
invariant-loop-queue l = l.at ≡ slice_get (list_at 0 l.self-inside.run) l._queue
