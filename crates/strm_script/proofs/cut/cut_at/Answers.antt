use Rattle.std.proofs.Common.{◌==◌, sym, ◌∙◌}
use Rattle.strm_script.proofs.Words.{slice_split-None, slice_split-Some}
use Rattle.strm_script.proofs.cut.cut_at.Goals as goal

pub returns-in-Some : goal.returns-in-Some
returns-in-Some c byte is = slice_split-Some (λ b. b == byte) c.args.text.now c.in-Some.at 0 (sym is ∙ c.in-Some.is)

pub returns-in-None : goal.returns-in-None
returns-in-None c byte is = slice_split-None (λ b. b == byte) c.args.text.now (sym is ∙ c.in-None.is)
