use Rattle.std.proofs.Common.{◌≡◌, ◌-◌, ◌<◌, length, Some}
use Rattle.strm_links.specs.ChainLayout.{after_at, links_of, onward}
use Rattle.strm_links.proofs.chained.node_behind.Given as goal

abbrev pub invariant-loop-step : goal.invariant-loop-step
invariant-loop-step g l = record {
  rest : onward (after_at (links_of l.nodes)) (l.steps - l._step) (Some l.at) ≡ onward (after_at (links_of l.nodes)) l.steps (Some l.fn.from);
  within : l.at < length l.nodes;
}
