use Rattle.std.proofs.Common.{◌≡◌, drop, take}
use Rattle.strm_shared.specs.Batches.{AreTurned}
use Rattle.strm_shared.proofs.book.Book.turn_all.Given as goal

-- the lines so far are served, and later replies are as they were
abbrev pub invariant-loop-place : goal.invariant-loop-place
invariant-loop-place g l = record {
  turned : AreTurned g.N.Name l.fn.self l.fn.desk l.lines (take l.place l.replies) l.self l.desk;
  kept : drop l.place l.replies ≡ drop l.place l.fn.replies;
}
