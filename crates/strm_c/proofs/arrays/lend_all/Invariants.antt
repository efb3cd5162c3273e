use Rattle.std.proofs.Common.{◌≡◌, ◌+◌}
use Rattle.strm_c.specs.InPlace.{lengths_lent}
use Rattle.strm_c.proofs.BlockArrays.{AreLentSoFar}
use Rattle.strm_c.proofs.arrays.lend_all.Given as goal

-- the place of the next block, and what was lent so far
abbrev pub invariant-loop-done : goal.invariant-loop-done
invariant-loop-done l = record {
  at : l.place ≡ l.from + l.done;
  lent : AreLentSoFar (lengths_lent l.named l.lent l.from) l.fn.into l.into l.done;
}
