use Rattle.std.proofs.Common.{◌≡◌, [], replicate, ap, ◌∙◌}
use Rattle.strm_links.specs.Rows.{Rows}
use Rattle.strm_links.specs.StackLayout.{behind_of, no_top, IsSound}
use Rattle.strm_links.proofs.Stacked.{behind_alike, IsSound-stored, loads_alike, parts, stacked_rows_is, IsSound-new}
use Rattle.strm_links.proofs.stacks.Stacks.new.Given.{Over}
use Rattle.strm_links.proofs.stacks.Stacks.new.Goals as goal
use Rattle.strm_links.proofs.stacks.Stacks.new.Goals.{In_ok-vec}

made : (g : Over) (c : In_ok-vec g) → IsSound (behind_of c.resize.new.self.items) c.in_ok-vec.field-0.items (record { nodes = c.args.nodes; lists = replicate c.args.lists [] })
made g c =
    let rows : Rows = record { nodes = c.args.nodes; lists = replicate c.args.lists [] } in
    let behind = behind_alike c.args.nodes _ c.resize.new.self.items _ _ c.in_ok-resize.ensures.items c.in_ok-table.ensures.items c.in_ok-table.ensures.len ∙ ap (replicate c.args.nodes) c.none.ensures in
    let tops : c.in_ok-vec.field-0.items ≡ replicate c.args.lists no_top = c.in_ok-vec.ensures.items_if_clones_equal (λ y same. same) ∙ ap (replicate c.args.lists) c.empty.ensures in
    rw (behind, tops) (IsSound-new c.args.nodes c.args.lists c.ranges.nodes.fits c.ranges.lists.fits)

pub invariant_of-result : goal.invariant_of-result
invariant_of-result g c = IsSound-stored _ _ _ (made g (goal.at.invariant_of-result g c).In_ok-vec)

pub returns : goal.returns
returns g c =
    let made = made g (goal.at.returns g c).In_ok-vec in
    record {
      rows = stacked_rows_is _ _ _ made;
      loads = loads_alike c.args.nodes _ c.resize.new.self.items _ _ c.in_ok-resize.ensures.items c.in_ok-table.ensures.items c.in_ok-table.ensures.len;
      parting = parts _ _ _ (IsSound-stored _ _ _ made);
    }
