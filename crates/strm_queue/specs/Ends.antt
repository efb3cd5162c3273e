-- The messages of one rank on a queue, and the heads of the first and the last of them.
use Rattle.std.specs.Prelude.{ℕ, List, Option, ◌==◌, filter, map}
use Rattle.strm_links.specs.Rows as rows
use Rattle.strm_mblk.specs.Block.{Message, head_of}

-- the messages of a rank on a queue, front to back
abbrev pub of_rank : (Message → ℕ) → ℕ → List Message → List Message
of_rank rank r ms = filter (λ m. rank m == r) ms

-- the head of the first message of a rank, if any
abbrev pub first_of_rank : (Message → ℕ) → ℕ → List Message → Option ℕ
first_of_rank rank r ms = rows.first (map head_of (of_rank rank r ms))

-- the head of the last message of a rank, if any
abbrev pub last_of_rank : (Message → ℕ) → ℕ → List Message → Option ℕ
last_of_rank rank r ms = rows.last (map head_of (of_rank rank r ms))
