-- What a monitor has seen when it ends.
use Rattle.std.specs.Prelude.{◌≡◌, ℕ, ◌+◌, ◌<◌, ◌≤◌, ◌⊎◌, List, ◌++◌, All, fold, length, min, slice_index_or}
use Rattle.strm_monitor.specs.declared.monitor.Seen.{Seen}
use Rattle.strm_shared.specs.Desks.{DeskValue, stamp_seen}
use Rattle.strm_shared.specs.Pairs.{Pair, count_in, no_pair}

-- from this place on, no stamp is below the one before it
abbrev pub NeverFall : ℕ → List Pair → Type 0
NeverFall from ps = (k : ℕ) → from ≤ k + 1 → k + 1 < length ps → (slice_index_or ps k no_pair).0 ≤ (slice_index_or ps (k + 1) no_pair).0

-- the smallest number of free message blocks in these pairs, or 2^32 - 1 if there are none
abbrev pub fewest_of : List Pair → ℕ
fewest_of ps = fold (λ n p. min n p.1.free) 4294967295 ps

-- A desk looked this number of times at a pool with this number of message blocks; `fewest` is the smallest number of free ones
-- that it saw.
pub record Looks (blocks : ℕ) (before : DeskValue) (looks fewest : ℕ) (after : DeskValue) : Type 0 where
  -- It has seen these pairs, one at each look, and is otherwise unchanged.
  pub pairs : List Pair
  pub shown : after ≡ record before { pairs = before.pairs ++ pairs }
  pub often : length pairs ≡ looks
  -- Each pair counts all blocks of the pool. Stamps never fall, from what the desk had seen before on.
  pub whole : All (λ p. count_in p.1 ≡ blocks) pairs
  pub rise : NeverFall (length before.pairs) after.pairs
  pub least : fewest ≡ fewest_of pairs

-- The monitor looked until it saw this stamp or a later one, or as many times as it may.
pub record Watched (blocks last most : ℕ) (before : DeskValue) (s : Seen) (after : DeskValue) : Type 0 where
  pub looks : Looks blocks before s.looks s.fewest after
  pub ended : (last ≤ stamp_seen after) ⊎ (s.looks ≡ most)
  pub once : 0 < most → 0 < s.looks
