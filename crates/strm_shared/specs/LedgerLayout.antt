-- How the ledger of held blocks is spread over book and desks. No public clause cites this module.
use Rattle.std.specs.Prelude.{◌≡◌, ℕ, ◌≤◌, List, length, Option}
use Rattle.strm_mblk.specs.declared.token.TokenValue.{TokenValue}
use Rattle.strm_mblk.specs.Arena.{census_of}
use Rattle.strm_pool.specs.PoolValue.{PoolValue}
use Rattle.strm_shared.specs.Ledger.{blocks_held}

-- a desk's share is one part of the ledger, and counts the blocks of the tokens in these registers
pub record IsPart (parts amount : ℕ) (rs : List (Option TokenValue)) : Type 0 where
  pub one : parts ≡ 1
  pub counted : amount ≡ blocks_held rs

-- The ledger's book, with at least one desk: it counts the held blocks of the pool, which has as many blocks as when it was
-- opened.
pub record IsCounted (blocks desks total : ℕ) (v : PoolValue) : Type 0 where
  pub some : 1 ≤ desks
  pub counted : total ≡ (census_of v.arena).held
  pub sized : length v.arena.held ≡ blocks
