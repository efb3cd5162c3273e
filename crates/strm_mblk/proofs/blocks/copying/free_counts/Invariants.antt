use Rattle.std.proofs.Common.{◌≡◌, ◌<◌, ◌≤◌, ℕ, length}
use Rattle.std.specs.Prelude.{slice_index_or}
use Rattle.strm_data.specs.DataStore.{free_of}
use Rattle.strm_data.specs.Limits.{most_classes}
use Rattle.strm_mblk.proofs.blocks.copying.free_counts.Given as goal

-- the classes seen are counted, and the others are still to come
abbrev pub invariant-loop-class : goal.invariant-loop-class
invariant-loop-class l = record {
  len : length l.left ≡ most_classes;
  seen : (c : ℕ) → c < l.class → slice_index_or l.left c 0 ≡ length (free_of l.stored.store c);
  rest : (c : ℕ) → l.class ≤ c → slice_index_or l.left c 0 ≡ 0;
}
