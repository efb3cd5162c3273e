use Rattle.std.proofs.Common.{◌≡◌, ◌*◌, drop}
use Rattle.strm_shared.specs.Batches.{AreBatches}
use Rattle.strm_shared.specs.Limits.{most_batch}
use Rattle.strm_shared.proofs.shared.Shared.serve_all.Given as goal

-- the batches so far are served, and later replies are as they were
abbrev pub invariant-loop-batch : goal.invariant-loop-batch
invariant-loop-batch g l = record {
  served : AreBatches g.N.Name l.batch l.fn.desk l.lines l.replies l.desk;
  kept : drop (l.batch * most_batch) l.replies ≡ drop (l.batch * most_batch) l.fn.replies;
}
