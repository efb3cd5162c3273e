-- How a trace is stored. No public clause cites this module.
use Rattle.std.specs.Prelude.{◌≡◌, ℕ, ◌≤◌, [], length, Option, None, Some, vec_capacity}
use Rattle.std.specs.Global.{Vec}
use Rattle.strm_pool.specs.declared.line.Entry.{Entry}

-- There are at most as many entries as may be kept, and room for that number; without a trace there are none.
abbrev pub IsWithin : Option ℕ → Vec Entry → Type 0
IsWithin None entries = entries.items ≡ []
IsWithin (Some n) entries = (length entries.items ≤ n) × (n ≤ vec_capacity entries)
