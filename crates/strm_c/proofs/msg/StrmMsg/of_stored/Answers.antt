-- The turned halves are those of the name.
use Rattle.std.proofs.Common.{◌/◌, ◌^◌, ◌%◌, ◌<◌, rules, ◌∙◌, ap}
use Rattle.std.proofs.lemmas.Nat.{mod_low, shr_high}
use Rattle.strm_c.proofs.Turning.{turned}
use Rattle.strm_c.proofs.msg.StrmMsg.of_stored.Goals as goal

pub returns : goal.returns
returns c =
    let pool : c.from.result < 2 ^ 32 = search rules in
    let head : c.from-2.result < 2 ^ 32 = search rules in
    let is = c.rotate_left.ensures ∙ turned c.from.result c.from-2.result pool head in
    λ i. record {
      pool = (ap (λ n. n % 2 ^ 32) is ∙ (mod_low c.from-2.result 32 c.from.result pool ∙ c.from.ensures)) i;
      head = (ap (λ n. n / 2 ^ 32) is ∙ (shr_high c.from-2.result 32 c.from.result pool ∙ c.from-2.ensures)) i;
      stamp = c.args.name.stamp;
    }
