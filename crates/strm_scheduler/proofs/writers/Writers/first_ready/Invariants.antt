-- The first writer that may ask again, of those that are left, is the first of all.
use Rattle.std.proofs.Common.{◌≡◌, ◌<◌, drop, map}
use Rattle.std.specs.Prelude.{IfSome}
use Rattle.strm_links.specs.Rows.{Reads, list_at, next_in}
use Rattle.strm_scheduler.specs.Writers.{first_ready}
use Rattle.strm_scheduler.specs.WritersLayout.{writer_of, writers_in}
use Rattle.strm_scheduler.proofs.writers.Writers.first_ready.Given as goal

abbrev pub invariant-loop-writer : goal.invariant-loop-writer
invariant-loop-writer l = record {
  reads : Reads (next_in l.self-inside.links) l.at (drop l._writer (list_at 0 l.self-inside.links));
  within : IfSome l.at (λ node. node < l.self-inside.links.nodes);
  first : first_ready l.fn.pool.queues (map writer_of (drop l._writer (list_at 0 l.self-inside.links))) ≡ first_ready l.fn.pool.queues (writers_in l.self-inside.links);
}
