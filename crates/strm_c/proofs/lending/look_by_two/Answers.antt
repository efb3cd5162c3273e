-- The pointer that comes back has the address and the pool that were lent.
use Rattle.std.proofs.Common.{◌∙◌}
use Rattle.strm_c.proofs.lending.look_by_two.Goals as goal

pub returns-clause-back : goal.returns-clause-back
returns-clause-back c =
    let lent = c.lend_to_two-one.ensures.lender in let back = c.take_back.ensures in
    λ i. record { raw = (back.0 ∙ lent.0) i; named = (back.1 ∙ lent.1) i }
