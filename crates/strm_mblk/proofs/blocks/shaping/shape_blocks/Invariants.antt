use Rattle.std.proofs.Common.{◌≡◌, ◌<◌, ◌^◌, ℕ, drop, length, map}
use Rattle.strm_data.specs.CountedStore.{IsKept}
use Rattle.strm_mblk.specs.BlocksLayout.{fields_at, message_of, with_shapes, IsReached}
use Rattle.strm_mblk.specs.InPlace.{store_retyped}
use Rattle.strm_links.specs.ChainLists.{nodes_at}
use Rattle.strm_mblk.proofs.blocks.shaping.shape_blocks.Given as goal

-- the block at this step, and the shapes that are left
abbrev pub invariant-loop-shaped : goal.invariant-loop-shaped
invariant-loop-shaped g l = record {
  lists : l.chains.lists ≡ l.fn.chains.lists;
  at : IsReached l.fn.chains.lists l.head l.shaped-index l.node;
  fields : with_shapes (drop l.shaped-index (map g.S.Shaped.shape l.shapes)) (drop l.shaped-index (nodes_at l.fn.chains.lists l.head)) l.chains.loads
      ≡ with_shapes (map g.S.Shaped.shape l.shapes) (nodes_at l.fn.chains.lists l.head) l.fn.chains.loads;
  named : (n : ℕ) → (fields_at l.chains.loads n).data_number ≡ (fields_at l.fn.chains.loads n).data_number;
  many : length l.chains.loads ≡ length l.fn.chains.loads;
  banded : (n : ℕ) → n < length l.chains.loads → (fields_at l.chains.loads n).band < 2 ^ 8;
  store : store_retyped (drop l.shaped-index (map g.S.Shaped.shape l.shapes)) (drop l.shaped-index (message_of l.fn.chains.loads (nodes_at l.fn.chains.lists l.head))) l.stored.store
      ≡ store_retyped (map g.S.Shaped.shape l.shapes) (message_of l.fn.chains.loads (nodes_at l.fn.chains.lists l.head)) l.fn.stored.store;
  counts : l.stored.counts ≡ l.fn.stored.counts;
  long : length l.stored.store.blocks ≡ length l.fn.stored.store.blocks;
  kept : IsKept l.stored;
}
