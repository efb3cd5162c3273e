-- The word of a shared pool: a stamp and the census at it, in one number. No public clause cites this module.
use Rattle.std.specs.Prelude.{ℕ, ◌+◌, ◌-◌, ◌*◌, ◌/◌, ◌%◌}
use Rattle.strm_mblk.specs.Limits.{most_message_blocks}
use Rattle.strm_shared.specs.Pairs.{Pair}

-- each count in a word is below this number
abbrev pub count_range : ℕ
count_range = most_message_blocks + 1

-- stamp, free and queued blocks as three digits of this base
abbrev pub word_of : Pair → ℕ
word_of p = (p.0 * count_range + p.1.free) * count_range + p.1.queued

-- the pair of a word, in a pool of n message blocks; held blocks are those that are neither free nor queued
abbrev pub pair_of : ℕ → ℕ → Pair
pair_of blocks w =
    let free : ℕ = w / count_range % count_range in
    let queued : ℕ = w % count_range in
    (w / count_range / count_range, record { free = free; queued = queued; held = blocks - (free + queued) })
