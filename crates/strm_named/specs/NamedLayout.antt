-- How a named pool stores names: as a stamp for each message block. No public clause cites this module.
use Rattle.std.specs.Prelude.{◌≡◌, ℕ, List, length}
use Rattle.strm_mblk.specs.Arena.{Arena}
use Rattle.strm_pool.specs.PoolValue.{PoolValue}
use Rattle.strm_named.specs.declared.named_pool.NamedPool.TheInside.{Inside}
use Rattle.strm_named.specs.NamedValue.{NamedValue}

-- a pool with these stamps
abbrev pub pool_with : PoolValue → List ℕ → NamedValue
pool_with p stamps = record { pool = p; stamps = stamps }

-- there is a stamp for each message block
abbrev pub Fits : Arena → List ℕ → Type 0
Fits a stamps = length stamps ≡ length a.held

abbrev pub named_value : Inside → NamedValue
named_value a = pool_with a.pool a.stamps.items

abbrev pub IsSound : Inside → Type 0
IsSound a = Fits a.pool.arena a.stamps.items
