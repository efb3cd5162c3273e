use Rattle.strm_links.proofs.linking.StoredRows.{IsSound-rows, reads_forward, reads_backward}
use Rattle.strm_links.proofs.links.Links.reads_alike.Goals as goal

pub returns : goal.returns
returns c =
    let sound = IsSound-rows c.self.view_is c.self.invariant in
    record { forward = reads_forward sound; backward = reads_backward sound }
