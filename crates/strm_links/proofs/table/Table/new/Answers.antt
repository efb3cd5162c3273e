use Rattle.std.proofs.Common.{◌≡◌, [], replicate, ap, sym, ◌∙◌, subst}
use Rattle.strm_links.specs.Layout.{IsSound, no_ends, no_place, places_of}
use Rattle.strm_links.specs.Rows.{Rows}
use Rattle.strm_links.proofs.linking.Carried.{carried_alike, places_alike}
use Rattle.strm_links.proofs.linking.StoredRows.{IsSound-new, IsSound-stored, parts, rows_of_is}
use Rattle.strm_links.proofs.table.Table.new.Given.{Over}
use Rattle.strm_links.proofs.table.Table.new.Goals as goal
use Rattle.strm_links.proofs.table.Table.new.Goals.{In_ok-vec}

made : (g : Over) (c : In_ok-vec g) → IsSound (places_of c.resize.new.self.items) c.in_ok-vec.field-0.items (record { nodes = c.args.nodes; lists = replicate c.args.lists [] })
made g c =
    let rows : Rows = record { nodes = c.args.nodes; lists = replicate c.args.lists [] } in
    let places = places_alike c.args.nodes _ c.resize.new.self.items _ _ c.in_ok-resize.ensures.items c.in_ok-table.ensures.items c.in_ok-table.ensures.len ∙ ap (replicate c.args.nodes) c.free.ensures in
    let ends : c.in_ok-vec.field-0.items ≡ replicate c.args.lists no_ends = c.in_ok-vec.ensures.items_if_clones_equal (λ y same. same) ∙ ap (replicate c.args.lists) c.empty.ensures in
    subst (λ ps. IsSound ps c.in_ok-vec.field-0.items rows) (sym places)
    (subst (λ es. IsSound (replicate c.args.nodes no_place) es rows) (sym ends) (IsSound-new c.args.nodes c.args.lists c.ranges.nodes.fits c.ranges.lists.fits))

pub returns-clause-sound : goal.returns-clause-sound
returns-clause-sound g c = IsSound-stored (made g c)

pub returns-clause-parting : goal.returns-clause-parting
returns-clause-parting g c = parts _ _ _ (returns-clause-sound g c)

pub returns-clause-rows : goal.returns-clause-rows
returns-clause-rows g c = rows_of_is (made g c)

pub returns-clause-carried : goal.returns-clause-carried
returns-clause-carried g c = carried_alike c.args.nodes _ c.resize.new.self.items _ _ c.in_ok-resize.ensures.items c.in_ok-table.ensures.items c.in_ok-table.ensures.len
