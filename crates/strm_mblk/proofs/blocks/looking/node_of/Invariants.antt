use Rattle.std.proofs.Common.{◌≡◌, ◌<◌, length}
use Rattle.std.specs.Prelude.{slice_get}
use Rattle.std.specs.Option.{IfSome}
use Rattle.strm_links.specs.ChainLists.{chain_of}
use Rattle.strm_mblk.proofs.blocks.looking.node_of.Given as goal

-- the block at this step of the message, if it has that many
abbrev pub invariant-loop-step : goal.invariant-loop-step
invariant-loop-step l = record {
  value : l.at ≡ slice_get (chain_of l.chains.lists l.head) l._step;
  in_range : IfSome l.at (λ node. node < length l.chains.lists.held);
}
