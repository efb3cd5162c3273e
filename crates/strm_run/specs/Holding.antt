-- What registers hold of a pool during a run, until it is freed at the end. No public clause cites this module.
use Rattle.std.specs.Prelude.{◌≡◌, ℕ, List, ◌++◌, None}
use Rattle.strm_mblk.specs.Arena.{held_at}
use Rattle.strm_pool.specs.PoolValue.{PoolValue}
use Rattle.strm_pool.specs.Registers.{AreAccounted, Entries}

-- Pool and some registers changed together. The pool keeps its id. If each held message was in one register, of these or of
-- others, each is in one now, and the others have what they had.
pub record AreHeldAlike (v : PoolValue) (before : List Entries) (w : PoolValue) (after : List Entries) : Type 0 where
  pub id : w.arena.id ≡ v.arena.id
  pub accounted : (others : List Entries) → AreAccounted v.arena (before ++ others)
      → AreAccounted w.arena (after ++ others)

-- no message is held
abbrev pub IsIdle : PoolValue → Type 0
IsIdle v = (h : ℕ) → held_at v.arena h ≡ None
