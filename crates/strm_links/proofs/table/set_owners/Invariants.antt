use Rattle.std.proofs.Common.{◌≡◌, ◌-◌}
use Rattle.strm_links.specs.Layout.{carried_by, next_at, places_of, walk}
use Rattle.strm_links.proofs.linking.Changes.{Gives}
use Rattle.strm_links.proofs.table.set_owners.Given as goal

abbrev pub invariant-loop-done : goal.invariant-loop-done
invariant-loop-done g l = record {
  gives : Gives (places_of l.initial.nodes.items) (places_of l.nodes.items) l.list (walk (next_at (places_of l.initial.nodes.items)) l.count l.fn.first) (walk (next_at (places_of l.initial.nodes.items)) (l.count - l._done) l.at);
  carried : carried_by l.nodes.items ≡ carried_by l.initial.nodes.items;
}
