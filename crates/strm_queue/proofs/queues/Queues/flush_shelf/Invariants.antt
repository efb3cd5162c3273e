use Rattle.std.proofs.Common.{◌≡◌}
use Rattle.strm_queue.specs.Flush.{is_flushed, is_picked, with_freed}
use Rattle.strm_queue.specs.QueuedBlocks.{AreInOrder}
use Rattle.strm_queue.proofs.moving.Flushing.{IsFlushing}
use Rattle.strm_queue.proofs.queues.Queues.flush_shelf.Given as goal

-- `_message` messages were passed
abbrev pub invariant-loop-message : goal.invariant-loop-message
invariant-loop-message l =
    IsFlushing with_freed (is_picked l.fn.blocks.store l.fn.band l.fn.flush) (is_flushed l.fn.blocks.store l.fn.flush) l.fn.blocks l.queue l._message l.at l.blocks
    × (l.self.state ≡ l.fn.self.state) × AreInOrder l.self l.blocks
