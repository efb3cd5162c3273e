use Rattle.std.proofs.Common.{◌≡◌, drop}
use Rattle.strm_data.specs.CountedStore.{IsKept}
use Rattle.strm_mblk.specs.BlocksLayout.{message_of, IsReached}
use Rattle.strm_mblk.specs.InPlace.{store_overwritten}
use Rattle.strm_links.specs.ChainLists.{nodes_at}
use Rattle.strm_mblk.proofs.layout.Rooms.{HasRooms}
use Rattle.strm_mblk.proofs.blocks.overwriting.overwrite_blocks.Given as goal

-- the block at this step, and what is left to write
abbrev pub invariant-loop-block : goal.invariant-loop-block
invariant-loop-block l = record {
  at : IsReached l.chains.lists l.head l._block l.node;
  rest : store_overwritten l.at l.bytes (message_of l.chains.loads (nodes_at l.chains.lists l.head)) l.fn.stored.store
      ≡ store_overwritten l.skip l.rest (drop l._block (message_of l.chains.loads (nodes_at l.chains.lists l.head))) l.stored.store;
  counts : l.stored.counts ≡ l.fn.stored.counts;
  rooms : HasRooms l.fn.stored.store l.stored.store;
  kept : IsKept l.stored;
}
