use Rattle.std.proofs.Common.{◌≡◌, ℕ, ◌+◌, ◌*◌, ◌≤◌, None, take}
use Rattle.strm_links.specs.Rows.{holder}
use Rattle.strm_data.specs.Classes.{total_of}
use Rattle.strm_data.specs.Limits.{most_data_block_bytes}
use Rattle.strm_data.proofs.layout.Opened.{AreLaid, filled}
use Rattle.strm_data.proofs.data.Data.new.Given as goal

-- the classes so far are laid out, and their lists filled; the nodes from here on are in none
abbrev pub invariant-loop-number : goal.invariant-loop-number
invariant-loop-number l = record {
  first : l.first ≡ total_of (take l.number l.specs);
  few : l.start ≤ most_data_block_bytes * l.first + 64 * l.number;
  nodes : l.blocks.rows.nodes ≡ total_of l.specs;
  lists : l.blocks.rows.lists ≡ filled l.specs l.number;
  laid : AreLaid l.specs l.number l.classes.items l.start l.blocks.loads;
  unlinked : (k : ℕ) → l.first ≤ k → holder k l.blocks.rows ≡ None;
}
