use Rattle.std.proofs.Common.{◌≡◌, ℕ, ◌+◌, ◌-◌, ◌<◌, ◌≤◌, ◌++◌, None, drop, map, slice_set, take}
use Rattle.std.specs.List.{range_with_len}
use Rattle.strm_links.specs.Rows.{holder}
use Rattle.strm_data.specs.DataLayout.{extent_in, room_of, unused_at}
use Rattle.strm_data.proofs.data.fill.Given as goal

-- the data blocks from here on are laid out and in the list, and those below and beyond in none
abbrev pub invariant-loop-at : goal.invariant-loop-at
invariant-loop-at l = record {
  from : l.first ≤ l.at;
  below : l.at ≤ l.first + l.class.spec.count;
  lists : l.blocks.rows ≡ record l.initial.blocks.rows { lists = slice_set l.initial.blocks.rows.lists l.number (range_with_len l.at (l.first + l.class.spec.count - l.at)) };
  loads : l.blocks.loads ≡ take l.at l.initial.blocks.loads
      ++ (map unused_at (map (extent_in l.number (room_of l.class)) (range_with_len (l.at - l.first) (l.first + l.class.spec.count - l.at))) ++ drop (l.first + l.class.spec.count) l.initial.blocks.loads);
  ahead : (k : ℕ) → l.first ≤ k → k < l.at → holder k l.blocks.rows ≡ None;
  beyond : (k : ℕ) → l.first + l.class.spec.count ≤ k → holder k l.blocks.rows ≡ None;
}

abbrev pub decreases-loop-at : goal.decreases-loop-at
decreases-loop-at l = l.at - l.first
