use Rattle.std.proofs.Common.{ap, arith, sym, ◌∙◌}
use Rattle.std.proofs.lemmas.List.{length-map}
use Rattle.strm_links.specs.declared.table.Place.{Place}
use Rattle.strm_links.proofs.lists.OneList.{IfSome-from}
use Rattle.strm_links.proofs.linking.Carried.{place_read}
use Rattle.strm_links.proofs.linking.StoredRows.{IsSound-rows, previous_in-at}
use Rattle.strm_links.proofs.linking.TableCalls.{previous_neighbour}
use Rattle.strm_links.proofs.links.Links.prev.Goals as goal

pub returns : goal.returns
returns c =
    let sound = IsSound-rows c.self.view_is c.self.invariant in
    let is = c.get.ensures ∙ ap (λ (p : Place). p.previous) (place_read _ c.args.node c.index.result.now (omega (arith, sound.node_count, c.requires, length-map c.self.inside.table.nodes.items (λ n. n.place))) c.index.ensures) in
    record {
      value = is ∙ sym (previous_in-at sound c.args.node);
      neighbour = IfSome-from c.get.result _ (λ k some. (previous_neighbour sound c.args.node (sym is ∙ some)).0);
      in_range = IfSome-from c.get.result _ (λ k some. (previous_neighbour sound c.args.node (sym is ∙ some)).1);
    }
