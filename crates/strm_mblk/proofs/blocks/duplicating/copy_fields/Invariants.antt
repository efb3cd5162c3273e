use Rattle.std.proofs.Common.{◌≡◌, length}
use Rattle.std.specs.Prelude.{take}
use Rattle.strm_links.specs.ChainLists.{nodes_at}
use Rattle.strm_mblk.specs.BlocksLayout.{IsReached}
use Rattle.strm_mblk.proofs.making.Duplicated.{IsCopying}
use Rattle.strm_mblk.proofs.blocks.duplicating.copy_fields.Given as goal

-- the blocks at this step, and what is left to copy
abbrev pub invariant-loop-block : goal.invariant-loop-block
invariant-loop-block l = record {
  lists : l.chains.lists ≡ l.fn.chains.lists;
  long_as : length l.chains.loads ≡ length l.fn.chains.loads;
  read : IsReached l.fn.chains.lists l.from l._block l.read;
  written : IsReached l.fn.chains.lists l.to l._block l.written;
  copying : IsCopying (take l.count (nodes_at l.fn.chains.lists l.from)) (nodes_at l.fn.chains.lists l.to) l._block l.fn.chains.loads l.chains.loads;
}
