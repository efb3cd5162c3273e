-- The queues before this one were woken if their wait was over. The entries from this one on are as they were.
use Rattle.std.proofs.Common.{◌≡◌, ℕ, ◌-◌, ◌<◌, ◌≤◌, None, false, length}
use Rattle.strm_scheduler.proofs.Waking.{AreWokenBelow}
use Rattle.strm_scheduler.specs.Sides.{need_at}
use Rattle.strm_scheduler.specs.Waits.{with_queues_woken}
use Rattle.strm_scheduler.proofs.waits.wake_each.Given as goal

abbrev pub invariant-loop-needs : goal.invariant-loop-needs
invariant-loop-needs l = record {
  within : l.queue ≤ 16;
  pool : l.pool ≡ with_queues_woken l.all l.initial.needs l.queue l.initial.pool;
  table : AreWokenBelow l.all l.initial.pool.arena l.queue l.initial.needs l.needs;
  long : length l.needs ≡ length l.initial.needs;
  none : l.any ≡ false → (q : ℕ) → q < l.queue → need_at l.needs q ≡ None;
}

abbrev pub decreases-loop-needs : goal.decreases-loop-needs
decreases-loop-needs l = 16 - l.queue
