-- The number of message blocks that are held, in the pool and in the registers of desks.
use Rattle.std.specs.Prelude.{◌≡◌, ℕ, ◌+◌, List, Option, None, Some, sum_by}
use Rattle.strm_mblk.specs.declared.token.TokenValue.{TokenValue}
use Rattle.strm_mblk.specs.Arena.{census_of}
use Rattle.strm_pool.specs.PoolValue.{PoolValue}
use Rattle.strm_pool.specs.Registers.{Entries, entries_of}
use Rattle.strm_shared.specs.Desks.{DeskValue}

-- the number of blocks of a register's message, by its entry
abbrev pub entry_blocks : Option (ℕ × ℕ) → ℕ
entry_blocks None = 0
entry_blocks (Some e) = e.1

-- the number of blocks of all messages in a desk's table
abbrev pub blocks_listed : Entries → ℕ
blocks_listed es = sum_by entry_blocks es

-- the blocks of the tokens in these registers
abbrev pub blocks_held : List (Option TokenValue) → ℕ
blocks_held rs = blocks_listed (entries_of rs)

-- the blocks of the tokens in the registers of these desks
abbrev pub blocks_at : List DeskValue → ℕ
blocks_at ds = sum_by (λ d. blocks_held d.regs) ds

-- All desks of a pool with this number of message blocks came back: free, queued and held blocks are all blocks, and the held
-- ones are those of the tokens in the desks' registers.
pub record AreAll (blocks : ℕ) (v : PoolValue) (ds : List DeskValue) : Type 0 where
  pub whole : (census_of v.arena).free + (census_of v.arena).queued + (census_of v.arena).held ≡ blocks
  pub held : (census_of v.arena).held ≡ blocks_at ds
