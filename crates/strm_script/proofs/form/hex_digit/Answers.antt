use Rattle.std.proofs.Common.{arith}
use Rattle.strm_script.proofs.Forms.{hex_digits-at}
use Rattle.strm_script.proofs.form.hex_digit.Goals as goal

pub returns : goal.returns
returns c = rw c.from.ensures (hex_digits-at c.args.byte (omega (arith, c.ranges.byte.fits)))
