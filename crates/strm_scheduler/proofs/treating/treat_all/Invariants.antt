-- All queues are kept awake. The last queues of the run list are held back: those that had a turn since the last service. The work or what
-- is left of the budget falls, or one more queue is held back.
use Rattle.std.proofs.Common.{◌≡◌, Bool, true, List}
use Rattle.strm_scheduler.specs.Waits.{AreLastHeldBack, is_spent, work_left}
use Rattle.strm_scheduler.specs.Laws.{AreKeptAwake}
use Rattle.strm_scheduler.specs.Modules.{AreTurns, NeedsNothing, PassesEach, turns_since}
use Rattle.strm_pool.specs.PoolValue.{queued_blocks_of}
use Rattle.strm_scheduler.specs.Sides.{KeepsOrder}
use Rattle.strm_scheduler.specs.Running.{IsServed}
use Rattle.strm_scheduler.proofs.Holding.{IsLeft}
use Rattle.strm_scheduler.proofs.treating.treat_all.Given as goal

abbrev pub invariant-loop-left : goal.invariant-loop-left
invariant-loop-left g l = record {
  awake : AreKeptAwake l.pool;
  last : AreLastHeldBack g.M.Module.needs l.handler l.count l.pool;
  turns : (turns : List Bool) × AreTurns g.M.Module.needs g.M.Module.treats turns l.initial.handler l.initial.pool l.handler l.pool × IsLeft l.fn.budget l.left turns × (turns_since turns ≡ l.count);
  fresh : is_spent l.left ≡ true → l.count ≡ 0;
  order : PassesEach g.M.Module.treats → KeepsOrder l.initial.pool l.pool;
  served : NeedsNothing g.M.Module.needs → PassesEach g.M.Module.treats → IsServed (queued_blocks_of l.initial.pool) (queued_blocks_of l.pool);
  specs : l.pool.queues.specs ≡ l.initial.pool.queues.specs;
}

abbrev pub decreases-loop-left : goal.decreases-loop-left
decreases-loop-left g l = work_left l.left l.pool l.count
