-- A number that is too great before its last digit stays so.
use Rattle.std.proofs.Common.{◌+◌, sym, arith}
use Rattle.std.proofs.lemmas.Grind.{common_steps}
use Rattle.strm_script.proofs.Forms.{number_of-above}
use Rattle.strm_script.proofs.form.number_of.Goals as goal

pub returns-then-value-from : goal.returns-then-value-from
returns-then-value-from c = sym (number_of-above c.args.most c.args.word.now (c.loop-byte.byte-index + 1) (grind (arith, common_steps)))
