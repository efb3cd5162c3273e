-- The limit of this crate. The number is here once, and src/limits.rt has a constant of the same name.
use Rattle.std.specs.Prelude.{ℕ}

-- the most message blocks: free, held and on shelves together
abbrev pub most_message_blocks : ℕ
most_message_blocks = 16383
