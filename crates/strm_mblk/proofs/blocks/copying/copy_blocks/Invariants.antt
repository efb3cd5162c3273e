use Rattle.std.proofs.Common.{◌≡◌, length}
use Rattle.std.specs.Prelude.{None, take}
use Rattle.strm_data.specs.CountedStore.{IsKept}
use Rattle.strm_mblk.specs.BlocksLayout.{message_of, IsReached}
use Rattle.strm_links.specs.ChainLists.{nodes_at}
use Rattle.strm_mblk.proofs.making.Copied.{IsCopying}
use Rattle.strm_mblk.proofs.blocks.copying.copy_blocks.Given as goal

-- both blocks at this step, and what the copies before it made
abbrev pub invariant-loop-block : goal.invariant-loop-block
invariant-loop-block l = record {
  lists : l.chains.lists ≡ l.fn.chains.lists;
  long_as : length l.chains.loads ≡ length l.fn.chains.loads;
  read : IsReached l.fn.chains.lists l.from l._block l.read;
  written : IsReached l.fn.chains.lists l.into l._block l.written;
  copying : IsCopying None (take l.count (message_of l.fn.chains.loads (nodes_at l.fn.chains.lists l.from))) (nodes_at l.fn.chains.lists l.into) l._block l.fn.chains.loads l.chains.loads l.fn.stored l.stored;
  kept : IsKept l.stored;
}
