use Rattle.std.proofs.Common.{◌≡◌, Some}
use Rattle.strm_links.specs.ChainLayout.{after_at, links_of, onward, path, unlinked}
use Rattle.strm_links.proofs.chains.Freed.{Reverses}
use Rattle.strm_links.proofs.chained.reverse_links.Given as goal

abbrev pub invariant-loop-reversed : goal.invariant-loop-reversed
invariant-loop-reversed g l = record {
  reverses : Reverses (links_of l.fn.nodes.items) (links_of l.nodes.items) l.fn.beyond (onward (after_at (links_of l.fn.nodes.items)) l.len (Some l.head)) (path (links_of l.fn.nodes.items) l.len (Some l.head)) l._reversed l.at l.onto;
  rest : unlinked l.nodes.items ≡ unlinked l.fn.nodes.items;
}
