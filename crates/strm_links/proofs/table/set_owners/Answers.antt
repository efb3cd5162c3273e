use Rattle.std.proofs.Common.{suc, ◌≡◌, ◌+◌, ◌-◌, arith, ap, sym, refl, ◌∙◌}
use Rattle.std.proofs.lemmas.List.{length-map}
use Rattle.strm_links.specs.declared.table.Place.{Place}
use Rattle.strm_links.specs.Layout.{places_of, carried_by}
use Rattle.strm_links.proofs.linking.Carried.{carried-set, place_read, places-set}
use Rattle.strm_links.proofs.linking.Changes.{Gives-none, Gives-some, Gives-start}
use Rattle.strm_links.proofs.table.set_owners.Goals as goal
use Rattle.strm_links.proofs.table.set_owners.Goals.{in-Some, in_default}

pub loop-done-init : goal.loop-done-init
loop-done-init g c = record {
  gives = Gives-start _ c.args.list c.args.count c.args.first (λ k there. omega (arith, c.requires k there, length-map c.args.nodes.now.items (λ n. n.place)));
  carried = refl;
}

pub loop-done-preserved : goal.loop-done-preserved
loop-done-preserved g c =
    let left : c.args.count - c.loop-done._done ≡ suc (c.args.count - (c.loop-done._done + 1)) = omega arith in
    elim c.match-get.branch [
      | in-Some w ↦
          let node = w.index_mut-node.result.now in
          let n = w.in-Some.k in
          let place : Place = record node.place { list = c.args.list } in
          record {
            gives = Gives-some _ node.place c.loop-done.invariant.gives left (sym c.get.ensures ∙ w.in-Some.is)
                (λ low. place_read _ n node (omega (arith, low, length-map c.loop-done.nodes.items (λ x. x.place))) w.index_mut-node.ensures.value)
                (ap (λ v. places_of v.items) w.nodes-is ∙ places-set c.loop-done.nodes.items n (record node { place = place })) w.at-is;
            carried = ap (λ v. carried_by v.items) w.nodes-is ∙ carried-set c.loop-done.nodes.items n node place w.index_mut-node.ensures.value ∙ c.loop-done.invariant.carried;
          }
      | in_default w ↦ record {
        gives = Gives-none _ _ c.loop-done.invariant.gives (sym c.get.ensures ∙ w.in_default.is) (ap (λ v. places_of v.items) w.nodes-is) w.at-is;
        carried = ap (λ v. carried_by v.items) w.nodes-is ∙ c.loop-done.invariant.carried;
      }
    ]
