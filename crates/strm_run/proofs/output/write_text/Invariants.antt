use Rattle.std.proofs.Common.{◌≡◌, ◌-◌, ◌≤◌, length, take}
use Rattle.std.specs.Io.KnownBytes.{Appends}
use Rattle.strm_run.specs.Watched.{Stops}
use Rattle.strm_run.proofs.output.write_text.Given as goal

abbrev pub invariant-loop-written : goal.invariant-loop-written
invariant-loop-written g l = record {
  within : l.written ≤ length l.text;
  wrote : Appends (g.W.Write.contents l.initial.writer.inner) (g.W.Write.contents l.writer.inner) (take l.written l.text);
  failed : l.writer.failed ≡ l.initial.writer.failed;
  ended : l.writer.ended ≡ l.initial.writer.ended;
  stops : Stops l.initial.writer l.writer;
  desks : l.writer.desks ≡ l.initial.writer.desks;
}

abbrev pub decreases-loop-written : goal.decreases-loop-written
decreases-loop-written g l = length l.text - l.written
