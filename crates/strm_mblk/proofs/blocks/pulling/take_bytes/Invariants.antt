use Rattle.std.proofs.Common.{◌≡◌}
use Rattle.strm_data.specs.CountedStore.{IsKept}
use Rattle.strm_links.specs.ChainLists.{nodes_at}
use Rattle.strm_mblk.specs.BlocksLayout.{IsReached}
use Rattle.strm_mblk.proofs.pulling.Taken.{AreTaking}
use Rattle.strm_mblk.proofs.blocks.pulling.take_bytes.Given as goal

-- the walk is at the last block that was used up, or at the first of the message, and no block has lost bytes
abbrev pub invariant-loop-used : goal.invariant-loop-used
invariant-loop-used l = record {
  at : IsReached l.fn.chains.lists l.head l.used l.node;
  takes : AreTaking l.fn.chains.loads (nodes_at l.fn.chains.lists l.head) l.count l.fn.stored l.used l.left l.stored;
  same : l.chains ≡ l.fn.chains;
  kept : IsKept l.stored;
}
