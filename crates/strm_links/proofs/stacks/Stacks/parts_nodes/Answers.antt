use Rattle.strm_links.proofs.Stacked.{IsSound-rows, parts}
use Rattle.strm_links.proofs.stacks.Stacks.parts_nodes.Goals as goal

pub returns-clause-parting : goal.returns-clause-parting
returns-clause-parting g c = parts _ _ _ (IsSound-rows _ _ _ c.self.view_is c.self.invariant)
