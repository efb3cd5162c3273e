use Rattle.std.proofs.Common.{◌==◌, sym}
use Rattle.strm_script.proofs.Words.{position-first}
use Rattle.strm_script.proofs.cut.find.Goals as goal

pub returns-clause-place : goal.returns-clause-place
returns-clause-place c = sym (position-first (λ b. b == c.args.byte) c.args.text.now c.memchr.result c.memchr.ensures)
