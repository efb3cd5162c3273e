-- The queues are kept awake, and some were served; the work falls with each.
use Rattle.std.proofs.Common.{◌≡◌}
use Rattle.strm_pool.specs.PoolValue.{queued_blocks_of}
use Rattle.strm_scheduler.specs.Laws.{AreKeptAwake}
use Rattle.strm_scheduler.specs.Sides.{KeepsOrder}
use Rattle.strm_scheduler.specs.Running.{IsServed}
use Rattle.strm_scheduler.specs.Serving.{work}
use Rattle.strm_scheduler.proofs.serving.serve_all.Given as goal

abbrev pub invariant-loop : goal.invariant-loop
invariant-loop l = record {
  awake : AreKeptAwake l.pool;
  served : IsServed (queued_blocks_of l.initial.pool) (queued_blocks_of l.pool);
  order : KeepsOrder l.initial.pool l.pool;
  specs : l.pool.queues.specs ≡ l.initial.pool.queues.specs;
  wishes : l.pool.wishes ≡ l.initial.pool.wishes;
}

abbrev pub decreases-loop : goal.decreases-loop
decreases-loop l = work (queued_blocks_of l.pool)
