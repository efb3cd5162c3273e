-- The queues are kept awake, and some rest; each leaves less enabled. The held messages stay.
use Rattle.std.proofs.Common.{◌≡◌, ℕ}
use Rattle.strm_scheduler.specs.Laws.{AreKeptAwake}
use Rattle.strm_scheduler.specs.Running.{AreRested}
use Rattle.strm_scheduler.specs.Serving.{powers}
use Rattle.strm_scheduler.proofs.starting.serve.Given as goal

abbrev pub invariant-loop-pool : goal.invariant-loop-pool
invariant-loop-pool l = record {
  awake : AreKeptAwake l.initial.pool → AreKeptAwake l.pool;
  rested : (rested : ℕ) × AreRested l.fn.held rested l.initial.pool l.pool;
  held : l.pool.arena.held ≡ l.initial.pool.arena.held;
  id : l.pool.arena.id ≡ l.initial.pool.arena.id;
}

abbrev pub decreases-loop-pool : goal.decreases-loop-pool
decreases-loop-pool l = powers l.pool.queues.run
