-- A shared pool that serves the sections of a script. No public clause cites this module.
use Rattle.std.specs.Prelude.{◌≡◌, ◌≤◌, List, Some, length, max, sum_by}
use Rattle.strm_pool.specs.declared.line.Line.{Line}
use Rattle.strm_shared.specs.declared.name.Name.{Ghosts}
use Rattle.strm_script.specs.Limits.{most_command_lines}

-- The pool of this name serves these parts and nothing else. Its first stamp is 0, and it has a desk for each part. Its trace
-- has room for exactly the number of lines, or for one if there are none.
pub record IsServedUnder {N : Type 0} (n : Ghosts N) (parts : List (List Line)) : Type 0 where
  pub begun : n.first ≡ 0
  pub desks : n.desks ≡ length parts
  pub kept : n.kept ≡ Some (max (sum_by length parts) 1)
  pub few : sum_by length parts ≤ most_command_lines
