use Rattle.std.proofs.Common.{arith}
use Rattle.std.proofs.lemmas.Fmt.{decimal_digit}
use Rattle.std.proofs.lemmas.Grind.{common_steps}
use Rattle.strm_script.proofs.piece.U8Piece.append.Goals as goal

pub returns-then-self-lt10-clause-ok : goal.returns-then-self-lt10-clause-ok
returns-then-self-lt10-clause-ok c = let one = decimal_digit c.args.self (omega arith) in grind (arith, common_steps)
