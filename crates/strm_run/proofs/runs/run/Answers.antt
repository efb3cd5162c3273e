use Rattle.strm_run.proofs.Texts.{errs-text}
use Rattle.strm_run.proofs.runs.run.Goals as goal

pub returns-in_err-text-clause-writer : goal.returns-in_err-text-clause-writer
returns-in_err-text-clause-writer g c = errs-text _ _ c.in_err-text.field-0.0 c.from_residual-in_err-text.ensures.1
