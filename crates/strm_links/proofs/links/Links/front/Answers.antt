use Rattle.std.proofs.Common.{◌≡◌, ℕ, Some, sym, ◌∙◌}
use Rattle.strm_links.specs.Rows.{holder}
use Rattle.strm_links.proofs.lists.OneList.{IfSome-from}
use Rattle.strm_links.proofs.linking.StoredRows.{IsSound-rows, ends_read}
use Rattle.strm_links.proofs.linking.TableCalls.{front_holder, front_is, holder_within}
use Rattle.strm_links.proofs.links.Links.front.Goals as goal

pub returns : goal.returns
returns c =
    let sound = IsSound-rows c.self.view_is c.self.invariant in
    let read = ends_read sound c.args.list c.requires c.index.ensures in
    let held : (k : ℕ) → c.get.result ≡ Some k → holder k c.args.self.now ≡ Some c.args.list = λ k is. front_holder _ _ _ sound c.args.list c.requires _ read (sym c.get.ensures ∙ is) in
    record {
      value = c.get.ensures ∙ front_is _ _ _ sound c.args.list c.requires _ read;
      member = IfSome-from c.get.result _ held;
      in_range = IfSome-from c.get.result _ (λ k is. holder_within sound k (held k is));
    }
