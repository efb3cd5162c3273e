use Rattle.std.proofs.Common.{◌-◌, ◌≤◌, length, replicate}
use Rattle.strm_c.specs.Series.{getq}
use Rattle.strm_c.proofs.Serial.{HasStored}
use Rattle.strm_c.proofs.several.getq_each.Given as goal

-- what was stored so far
abbrev pub invariant-loop-taken : goal.invariant-loop-taken
invariant-loop-taken l = record {
  within : l.taken ≤ length l.msgs;
  so : HasStored (replicate (length l.fn.msgs) (getq l.queue)) l.fn.named l.named l.fn.msgs l.msgs l.taken;
}

abbrev pub decreases-loop-taken : goal.decreases-loop-taken
decreases-loop-taken l = length l.msgs - l.taken
