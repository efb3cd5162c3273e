use Rattle.std.proofs.Common.{◌≡◌, length}
use Rattle.std.specs.Prelude.{Some}
use Rattle.strm_data.specs.CountedStore.{IsKept}
use Rattle.strm_mblk.specs.Arena.{message_at}
use Rattle.strm_links.specs.ChainLists.{nodes_at}
use Rattle.strm_mblk.specs.BlocksLayout.{IsReached}
use Rattle.strm_mblk.proofs.making.Copied.{IsCopying}
use Rattle.strm_mblk.proofs.blocks.Blocks.copy_into.Given as goal

-- both blocks at this step, and what the copies before it made
abbrev pub invariant-loop-block : goal.invariant-loop-block
invariant-loop-block l = record {
  lists : l.chains.lists ≡ l.fn.chains.lists;
  long_as : length l.chains.loads ≡ length l.fn.chains.loads;
  read : IsReached l.self-inside.chains.lists l.token.head l._block l.read;
  written : IsReached l.fn.chains.lists l.head l._block l.written;
  copying : IsCopying (Some l.self.store) (message_at l.self l.token.head) (nodes_at l.fn.chains.lists l.head) l._block l.fn.chains.loads l.chains.loads l.fn.stored l.stored;
  kept : IsKept l.stored;
}
