use Rattle.std.proofs.Common.{◌≡◌, length}
use Rattle.std.specs.Prelude.{take}
use Rattle.strm_data.specs.CountedStore.{CountedStore}
use Rattle.strm_data.specs.Limits.{most_classes}
use Rattle.strm_mblk.specs.BlocksLayout.{message_of, IsReached}
use Rattle.strm_mblk.specs.Copying.{lent_store}
use Rattle.strm_links.specs.ChainLists.{nodes_at}
use Rattle.strm_mblk.proofs.making.CopiesCounted.{IsAhead}
use Rattle.strm_mblk.proofs.blocks.copying.copies_fit.Given as goal

-- the block at this step, and what would be left of the data blocks, had the copies before it been made
abbrev pub invariant-loop-block : goal.invariant-loop-block
invariant-loop-block l = record {
  at : IsReached l.chains.lists l.head l._block l.node;
  len : length l.left ≡ most_classes;
  ahead : (t : CountedStore) × IsAhead (lent_store l.other) (take l.count (message_of l.chains.loads (nodes_at l.chains.lists l.head))) l._block l.stored t l.left;
}
