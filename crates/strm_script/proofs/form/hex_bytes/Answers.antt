use Rattle.std.proofs.Common.{◌≤◌, get_or, arith}
use Rattle.std.proofs.lemmas.Grind.{common_steps}
use Rattle.strm_script.proofs.Forms.{hex_bytes-step, hex_pair-digits}
use Rattle.strm_script.proofs.form.hex_bytes.Goals as goal

pub loop-rest-preserved : goal.loop-rest-preserved
loop-rest-preserved c =
    let high : c.hex_digit-high.result ≤ 15 = omega (arith, c.if-high-gt15.false) in
    let low : c.hex_digit-low.result ≤ 15 = omega (arith, c.if-low-gt15.false) in
    record {
      value = rw c.push.ensures.items (hex_bytes-step c.loop-rest.bytes.items c.loop-rest.rest.now c.args.word.now _ c.in-len2-up.len_at_least
          (hex_pair-digits (get_or c.loop-rest.rest.now 0 0) (get_or c.loop-rest.rest.now 1 0) _ _ c.hex_digit-high.ensures c.hex_digit-low.ensures high low)
          c.loop-rest.invariant.value);
      room = grind (arith, common_steps);
    }
