use Rattle.std.proofs.Common.{arith, get_or}
use Rattle.std.proofs.lemmas.Grind.{common_steps}
use Rattle.strm_script.proofs.Forms.{two_digits}
use Rattle.strm_script.proofs.transcript.HexPiece.append.Goals as goal

pub loop-byte-preserved : goal.loop-byte-preserved
loop-byte-preserved c = let two = two_digits (get_or c.args.self.0.now c.loop-byte.byte-index 0) (omega arith) in grind (arith, common_steps)
