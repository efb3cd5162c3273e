-- The entries below this one are written.
use Rattle.std.proofs.Common.{◌≡◌, ℕ, ◌-◌, ◌<◌, ◌≤◌, length}
use Rattle.strm_scheduler.specs.Sides.{need_at}
use Rattle.strm_scheduler.specs.Waits.{IsEntry}
use Rattle.strm_scheduler.proofs.waits.ask_each.Given as goal

abbrev pub invariant-loop-needs : goal.invariant-loop-needs
invariant-loop-needs g l = record {
  within : l.queue ≤ 16;
  long : length l.needs ≡ length l.initial.needs;
  done : (q : ℕ) → q < l.queue → IsEntry g.M.Module.needs l.fn.handler q l.fn.pool (need_at l.needs q);
}

abbrev pub decreases-loop-needs : goal.decreases-loop-needs
decreases-loop-needs g l = 16 - l.queue
