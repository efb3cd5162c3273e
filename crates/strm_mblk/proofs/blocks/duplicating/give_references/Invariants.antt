use Rattle.std.proofs.Common.{◌≡◌}
use Rattle.std.specs.Prelude.{take}
use Rattle.strm_data.specs.CountedStore.{IsKept}
use Rattle.strm_mblk.specs.BlocksLayout.{data_used_by, with_references_given, IsReached}
use Rattle.strm_links.specs.ChainLists.{nodes_at}
use Rattle.strm_mblk.proofs.blocks.duplicating.give_references.Given as goal

-- the data blocks of the first blocks have a name more
abbrev pub invariant-loop-given : goal.invariant-loop-given
invariant-loop-given l = record {
  at : IsReached l.chains.lists l.head l.given l.node;
  after : l.stored ≡ with_references_given (take l.given (data_used_by l.chains.loads (nodes_at l.chains.lists l.head))) l.fn.stored;
  kept : IsKept l.stored;
}
