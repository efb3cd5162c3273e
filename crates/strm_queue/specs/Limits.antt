-- The greatest number of queues, and the numbers of bands and ranks. src/limits.rt has a constant of each name.
use Rattle.std.specs.Prelude.{ℕ, ◌+◌}

-- the greatest number of queues over one arena of message blocks
abbrev pub most_queues : ℕ
most_queues = 16

-- the number of bands of a queue, which are numbered from 0
abbrev pub bands : ℕ
bands = 256

-- the rank of high priority messages, above all bands, which are ranks too
abbrev pub high_rank : ℕ
high_rank = bands

-- the number of ranks, which are numbered from 0
abbrev pub ranks : ℕ
ranks = high_rank + 1
