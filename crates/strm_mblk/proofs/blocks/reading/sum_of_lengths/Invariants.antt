use Rattle.std.proofs.Common.{◌≡◌, ◌+◌, ◌-◌, ◌≤◌, ◌<◌, Some, drop, length}
use Rattle.std.specs.Prelude.{slice_get, sum_by}
use Rattle.strm_links.specs.ChainLists.{chain_of}
use Rattle.strm_mblk.specs.Block.{len_counted}
use Rattle.strm_mblk.specs.BlocksLayout.{message_of}
use Rattle.strm_mblk.proofs.blocks.reading.sum_of_lengths.Given as goal

-- the block before this step; and what was summed up, which with what is to come is all
abbrev pub invariant-loop-block : goal.invariant-loop-block
invariant-loop-block l = record {
  begun : 1 ≤ l._block;
  at : slice_get (chain_of l.chains.lists l.head) (l._block - 1) ≡ Some l.node;
  in_range : l.node < length l.chains.lists.held;
  sum : l.sum + sum_by (len_counted l.data_alone l.stored.store) (drop l._block (message_of l.chains.loads (chain_of l.chains.lists l.head))) ≡ sum_by (len_counted l.data_alone l.stored.store) (message_of l.chains.loads (chain_of l.chains.lists l.head));
}
