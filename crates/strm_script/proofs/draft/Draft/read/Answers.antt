use Rattle.std.proofs.Common.{◌∙◌, rules}
use Rattle.strm_script.proofs.Scripts.{reads_fault, with_line-word}
use Rattle.strm_script.proofs.draft.Draft.read.Goals as goal

pub returns-in_err-word : goal.returns-in_err-word
returns-in_err-word c = λ es so.
    reads_fault _ _ _ _ c.from_residual.ensures.1
    (with_line-word es c.args.number c.args.text.now _ _ (search rules) c.cut_word.ensures (search rules) ∙ c.in_err-word.ensures.reads es c.args.number _ so)
