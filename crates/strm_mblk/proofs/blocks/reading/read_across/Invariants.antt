use Rattle.std.proofs.Common.{◌≡◌, ◌<◌, Some, drop, length}
use Rattle.std.specs.Prelude.{slice_get}
use Rattle.strm_links.specs.ChainLists.{chain_of}
use Rattle.strm_mblk.specs.Block.{bytes_of}
use Rattle.strm_mblk.specs.BlocksLayout.{message_of}
use Rattle.strm_mblk.proofs.Lists.{IsLaid}
use Rattle.strm_mblk.proofs.blocks.reading.read_across.Given as goal

-- the block at this step, and the bytes so far, which with those to come are all
abbrev pub invariant-loop-block : goal.invariant-loop-block
invariant-loop-block l = record {
  at : l._block < length (chain_of l.chains.lists l.head) → (slice_get (chain_of l.chains.lists l.head) l._block ≡ Some l.node) × (l.node < length l.chains.lists.held);
  laid : IsLaid (drop l.at (bytes_of l.stored.store (message_of l.chains.loads (chain_of l.chains.lists l.head)))) (drop l.skip (bytes_of l.stored.store (drop l._block (message_of l.chains.loads (chain_of l.chains.lists l.head))))) l.fn.into l.into l.done;
}
