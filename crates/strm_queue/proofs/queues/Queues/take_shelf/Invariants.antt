use Rattle.std.proofs.Common.{◌≡◌, ◌≤◌}
use Rattle.strm_queue.specs.Flush.{is_flushed, is_picked}
use Rattle.strm_queue.specs.QueuedBlocks.{AreInOrder}
use Rattle.strm_queue.proofs.moving.Taking.{IsTaking}
use Rattle.strm_queue.proofs.queues.Queues.take_shelf.Given as goal

-- `_message` messages were passed, and `taken` of them taken
abbrev pub invariant-loop-message : goal.invariant-loop-message
invariant-loop-message g l =
    IsTaking g.R.Receiver.receives (is_picked l.fn.blocks.store l.fn.band l.fn.flush) (is_flushed l.fn.blocks.store l.fn.flush) l.fn.blocks l.queue l._message l.taken l.at l.blocks l.fn.into l.into
    × (l.taken ≤ l.most) × (l.self.state ≡ l.fn.self.state) × AreInOrder l.self l.blocks
