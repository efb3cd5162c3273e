use Rattle.std.proofs.Common.{◌≡◌, ◌≤◌, ℕ, length}
use Rattle.std.specs.Prelude.{drop, take}
use Rattle.strm_data.specs.CountedStore.{IsKept, count_of}
use Rattle.strm_data.specs.DataStore.{times}
use Rattle.strm_mblk.specs.BlocksLayout.{data_used_by, with_references_dropped, IsReached}
use Rattle.strm_links.specs.ChainLists.{nodes_at}
use Rattle.strm_mblk.proofs.blocks.freeing.drop_references.Given as goal

-- the references of the first blocks are gone, and those of the others are left to drop
abbrev pub invariant-loop-block : goal.invariant-loop-block
invariant-loop-block l = record {
  at : IsReached l.chains.lists l.head l._block l.node;
  after : with_references_dropped (drop l._block (take l.count (data_used_by l.chains.loads (nodes_at l.chains.lists l.head)))) l.stored ≡ with_references_dropped (take l.count (data_used_by l.chains.loads (nodes_at l.chains.lists l.head))) l.fn.stored;
  named : (d : ℕ) → times d (drop l._block (take l.count (data_used_by l.chains.loads (nodes_at l.chains.lists l.head)))) ≤ count_of l.stored d;
  many : length l.stored.store.blocks ≡ length l.fn.stored.store.blocks;
  kept : IsKept l.stored;
}
