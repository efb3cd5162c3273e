-- The limits of this crate: stamps, trace entries and batches. src/limits.rt has a constant of each name.
use Rattle.std.specs.Prelude.{ℕ}

-- the last stamp, at which each call is refused
abbrev pub most_stamp : ℕ
most_stamp = 68719476735

-- the greatest number of entries of a trace
abbrev pub most_trace : ℕ
most_trace = 1048576

-- the greatest number of lines that are served while the lock is taken once
abbrev pub most_batch : ℕ
most_batch = 256
