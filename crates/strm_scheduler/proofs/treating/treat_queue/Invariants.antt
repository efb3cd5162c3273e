-- The queue is being served, and is not held back: so far messages were treated, or nothing has changed.
use Rattle.std.proofs.Common.{◌≡◌, ℕ, length, ◌<◌, ◌⊎◌}
use Rattle.strm_mblk.specs.Arena.{shelf_at}
use Rattle.strm_scheduler.specs.Modules.{AreTreated, IsMet, PassesEach, PassesOne}
use Rattle.strm_scheduler.specs.Sides.{KeepsOrder}
use Rattle.strm_scheduler.specs.Serving.{IsServing, weigh}
use Rattle.strm_scheduler.proofs.Looping.{IsOn}
use Rattle.strm_scheduler.proofs.treating.treat_queue.Given as goal

abbrev pub invariant-loop-pool : goal.invariant-loop-pool
invariant-loop-pool g l = record {
  serving : IsServing l.queue l.next l.pool;
  met : IsMet g.M.Module.needs l.handler l.queue l.pool;
  treated : (count : ℕ) × AreTreated g.M.Module.needs g.M.Module.treats l.queue l.next count l.initial.handler l.initial.pool l.handler l.pool;
  moved : (l.pool ≡ l.initial.pool) ⊎ (PassesOne g.M.Module.treats → weigh l.pool.arena.shelves < weigh l.initial.pool.arena.shelves);
  order : PassesEach g.M.Module.treats → KeepsOrder l.initial.pool l.pool;
  on : PassesEach g.M.Module.treats → (count : ℕ) × IsOn l.queue l.next count l.initial.pool l.pool;
  specs : l.pool.queues.specs ≡ l.initial.pool.queues.specs;
}

abbrev pub decreases-loop-pool : goal.decreases-loop-pool
decreases-loop-pool g l = length (shelf_at l.pool.arena l.queue)
