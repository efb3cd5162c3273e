use Rattle.std.proofs.Common.{◌≡◌}
use Rattle.std.specs.Prelude.{slice_get}
use Rattle.strm_mblk.specs.Shelves.{heads_at}
use Rattle.strm_queue.proofs.queues.places.head_at.Given as goal

-- the head of the message at this step
abbrev pub invariant-loop-message : goal.invariant-loop-message
invariant-loop-message l = l.at ≡ slice_get (heads_at l.blocks l.queue) l._message
