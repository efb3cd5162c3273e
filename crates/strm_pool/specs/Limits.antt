-- The limits of this crate: registers, workers, wishes, ids and bytes. src/limits.rt has a constant of each name.
use Rattle.std.specs.Prelude.{ℕ}

-- the number of registers of one worker, a to z
abbrev pub most_registers : ℕ
most_registers = 26

-- the greatest number of workers of a script, and so of desks at a shared pool
abbrev pub most_workers : ℕ
most_workers = 16

-- the greatest number of bufcall wishes at one time
abbrev pub most_wishes : ℕ
most_wishes = 64

-- the id of the last wish that can be recorded
abbrev pub last_id : ℕ
last_id = 4294967295

-- the greatest number of bytes in a call or a reply
abbrev pub most_octets : ℕ
most_octets = 64
