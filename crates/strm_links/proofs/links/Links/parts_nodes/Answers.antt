use Rattle.strm_links.proofs.linking.StoredRows.{IsSound-rows, parts}
use Rattle.strm_links.proofs.links.Links.parts_nodes.Goals as goal

pub returns-clause-parting : goal.returns-clause-parting
returns-clause-parting c = parts _ _ _ (IsSound-rows c.self.view_is c.self.invariant)
