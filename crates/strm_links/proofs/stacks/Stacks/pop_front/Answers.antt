use Rattle.strm_links.proofs.Stacked.{IsSound-rows, parts}
use Rattle.strm_links.proofs.stacks.Stacks.pop_front.Goals as goal

pub returns-in_err-get-clause-parting : goal.returns-in_err-get-clause-parting
returns-in_err-get-clause-parting g c = parts _ _ _ (IsSound-rows _ _ _ c.self.view_is c.self.invariant)
