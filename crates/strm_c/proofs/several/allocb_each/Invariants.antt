use Rattle.std.proofs.Common.{◌+◌, ◌-◌, ◌≤◌, length, replicate}
use Rattle.strm_mblk.specs.BlockCalls.{IsSupplied}
use Rattle.strm_c.specs.Series.{allocb}
use Rattle.strm_c.proofs.Serial.{HasStored}
use Rattle.strm_c.proofs.several.allocb_each.Given as goal

-- what was stored so far
abbrev pub invariant-loop-place : goal.invariant-loop-place
invariant-loop-place l = record {
  within : l.place ≤ length l.msgs;
  so : HasStored (replicate (length l.fn.msgs) (allocb l.size)) l.fn.named l.named l.fn.msgs l.msgs l.place;
}

abbrev pub decreases-loop-place : goal.decreases-loop-place
decreases-loop-place l = length l.msgs - l.place

-- and what is left of the supply
abbrev pub invariant-loop-at : goal.invariant-loop-at
invariant-loop-at l = record {
  so : HasStored (replicate (length l.fn.msgs) (allocb l.size)) l.fn.named l.named l.fn.msgs l.msgs l.at;
  supplied : IsSupplied l.size l.named.pool.arena l.supply;
  enough : l.end ≤ l.at + l.supply.count;
}
