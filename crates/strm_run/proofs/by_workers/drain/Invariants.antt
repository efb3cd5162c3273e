-- The desks that are left, those that are spent, and what is left of the pool.
use Rattle.std.proofs.Common.{◌≡◌, ◌+◌, ◌++◌, length}
use Rattle.strm_run.specs.Holding.{AreHeldAlike}
use Rattle.strm_run.proofs.Holding.{entries_at}
use Rattle.strm_run.proofs.Working.{served_at_each}
use Rattle.strm_run.proofs.by_workers.drain.Given as goal

abbrev pub invariant-loop : goal.invariant-loop
invariant-loop g l = record {
  id : l.pool.arena.id ≡ g.N.Name.opened.arena.id;
  alike : AreHeldAlike l.fn.pool (entries_at l.fn.desks) l.pool (entries_at l.desks);
  spent : served_at_each l.fn.desks ≡ served_at_each l.desks ++ l.spent;
  counted : length l.spent ≡ l.counter;
  left : length l.spent + length l.desks ≡ length l.fn.desks;
}
