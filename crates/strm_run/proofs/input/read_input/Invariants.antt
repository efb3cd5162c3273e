use Rattle.std.proofs.Common.{◌≡◌, ◌+◌, ◌-◌, ◌≤◌, length}
use Rattle.std.specs.Io.KnownBytes.{Consumes}
use Rattle.strm_run.specs.Watched.{Stops}
use Rattle.strm_run.proofs.input.read_input.Given as goal

abbrev pub invariant-loop-chunk : goal.invariant-loop-chunk
invariant-loop-chunk g l = record {
  short : length l.input.items ≤ l.max + 1;
  read : Consumes (g.R.Read.remaining l.initial.reader.inner) (g.R.Read.remaining l.reader.inner) l.input.items;
  failed : l.reader.failed ≡ l.initial.reader.failed;
  ended : l.reader.ended ≡ l.initial.reader.ended;
  stops : Stops l.initial.reader l.reader;
}

abbrev pub decreases-loop-chunk : goal.decreases-loop-chunk
decreases-loop-chunk g l = l.max + 1 - length l.input.items
