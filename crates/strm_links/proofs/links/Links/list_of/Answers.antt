use Rattle.std.proofs.Common.{ap, arith, sym, ◌∙◌}
use Rattle.std.proofs.lemmas.List.{length-map}
use Rattle.strm_links.specs.declared.table.Place.{Place}
use Rattle.strm_links.proofs.lists.OneList.{IfSome-from}
use Rattle.strm_links.proofs.linking.Carried.{place_read}
use Rattle.strm_links.proofs.linking.StoredRows.{IsSound-rows, holder-owner}
use Rattle.strm_links.proofs.links.Links.list_of.Goals as goal

pub returns : goal.returns
returns c =
    let sound = IsSound-rows c.self.view_is c.self.invariant in
    let is = c.get.ensures ∙ ap (λ (p : Place). p.list) (place_read _ c.args.node c.index.result.now (omega (arith, sound.node_count, c.requires, length-map c.self.inside.table.nodes.items (λ n. n.place))) c.index.ensures) in
    record {
      value = is ∙ sym (holder-owner sound c.args.node);
      in_range = IfSome-from c.get.result _ (λ l some. sound.known c.args.node l (sym is ∙ some));
    }
