use Rattle.std.proofs.Common.{◌≡◌, ◌+◌, ◌<◌, ◌^◌, ℕ, Some, drop, length}
use Rattle.std.specs.Prelude.{slice_get}
use Rattle.strm_mblk.specs.BlocksLayout.{fields_at, IsReached}
use Rattle.strm_mblk.specs.Cutting.{with_bytes_cut}
use Rattle.strm_links.specs.ChainLists.{nodes_at}
use Rattle.strm_mblk.proofs.blocks.trimming.cut.Given as goal

-- the block at this step, and the bytes before the cut from it on
abbrev pub invariant-loop-block : goal.invariant-loop-block
invariant-loop-block l = record {
  lists : l.chains.lists ≡ l.fn.chains.lists;
  at : (h i : ℕ) → slice_get (nodes_at l.fn.chains.lists h) i ≡ Some l.first → IsReached l.fn.chains.lists h (i + l._block) l.node;
  after : (h i : ℕ) → slice_get (nodes_at l.fn.chains.lists h) i ≡ Some l.first → i + l.count ≡ length (nodes_at l.fn.chains.lists h) → with_bytes_cut l.from_tail l.left (drop (i + l._block) (nodes_at l.fn.chains.lists h)) l.chains.loads ≡ with_bytes_cut l.from_tail l.bytes (drop i (nodes_at l.fn.chains.lists h)) l.fn.chains.loads;
  in_range : l._block < l.count → l.node < length l.fn.chains.lists.held;
  many : length l.chains.loads ≡ length l.fn.chains.loads;
  small : (n : ℕ) → n < length l.chains.loads → (fields_at l.chains.loads n).offset + (fields_at l.chains.loads n).len < 2 ^ 32;
}
