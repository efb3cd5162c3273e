use Rattle.std.proofs.Common.{◌==◌, arith, sym}
use Rattle.std.proofs.lemmas.List.Splits.{length-slice_split}
use Rattle.strm_script.proofs.Words.{read_none-some}
use Rattle.strm_script.proofs.shape.none.Goals as goal

pub returns-in-Some : goal.returns-in-Some
returns-in-Some c = rw c.in-Some.is (sym (read_none-some _ (omega (arith, length-slice_split (λ b. b == 32) c.in-Some.field-0.now))))
