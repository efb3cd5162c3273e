-- What the draft and the rest of the text give is what all bytes give; a line less is left each time.
use Rattle.std.proofs.Common.{length}
use Rattle.strm_script.specs.Script.{pieces_of}
use Rattle.strm_script.proofs.Scripts.{Continues}
use Rattle.strm_script.proofs.script.parse.Given as goal

abbrev pub invariant-loop-rest : goal.invariant-loop-rest
invariant-loop-rest l = Continues l.draft l.number l.text l.bytes

abbrev pub decreases-loop-rest : goal.decreases-loop-rest
decreases-loop-rest l = length (pieces_of l.text)
