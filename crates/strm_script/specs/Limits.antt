-- The limits of this crate: command lines and bytes of a script. src/limits.rt has a constant of each name.
use Rattle.std.specs.Prelude.{ℕ}

-- the greatest number of command lines of a script, over all its sections
abbrev pub most_command_lines : ℕ
most_command_lines = 1048576

-- the greatest number of bytes of a script
abbrev pub most_script_bytes : ℕ
most_script_bytes = 16777216
