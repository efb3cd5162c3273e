use Rattle.strm_c.specs.Series.{freemsg}
use Rattle.strm_c.proofs.Serial.{HasSpent}
use Rattle.strm_c.proofs.several.freemsg_each.Given as goal

-- the calls that were made
abbrev pub invariant-loop-place : goal.invariant-loop-place
invariant-loop-place l = HasSpent freemsg l.msgs l.fn.named l.named l.place
