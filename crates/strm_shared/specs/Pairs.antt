-- Pairs of a stamp and the census at it: those of a shared pool, and those that a desk saw.
use Rattle.std.specs.Prelude.{◌≡◌, ℕ, ◌+◌, ◌-◌, ◌<◌, ◌≤◌, List, length, All, Contains, slice_index_or}
use Rattle.strm_mblk.specs.declared.census.Census.{Census}
use Rattle.strm_mblk.specs.Arena.{census_of}
use Rattle.strm_pool.specs.PoolValue.{PoolValue}

-- a pair: a stamp, and the census at it
abbrev pub Pair : Type 0
Pair = ℕ × Census

-- the pair of a pool at a stamp
abbrev pub pair_at : ℕ → PoolValue → Pair
pair_at stamp v = (stamp, census_of v.arena)

-- the number of message blocks that a census counts
abbrev pub count_in : Census → ℕ
count_in c = c.free + c.queued + c.held

abbrev pub no_pair : Pair
no_pair = (0, record { free = 0; queued = 0; held = 0 })

-- the last of these pairs, if any
abbrev pub last_pair : List Pair → Pair
last_pair ps = slice_index_or ps (length ps - 1) no_pair

-- A pair k calls after the opening pair o: its stamp is k above o's, and its census counts as many blocks as o's.
abbrev pub IsPairAfter : Pair → ℕ → Pair → Type 0
IsPairAfter o k p = (p.0 ≡ o.0 + k) × (count_in p.1 ≡ count_in o.1)

-- the pair at place k of the list is one k calls after the opening pair
abbrev pub AreRising : Pair → List Pair → Type 0
AreRising o ps = (k : ℕ) → k < length ps → IsPairAfter o k (slice_index_or ps k no_pair)

-- The pairs of a pool that was shared with opening pair o and is now at this stamp. The first pair is o, stamps rise by 1, each
-- census counts the same number of blocks, and the last pair is that of the pool.
pub record ArePairs (o : Pair) (stamp : ℕ) (v : PoolValue) (ps : List Pair) : Type 0 where
  pub some : 1 ≤ length ps
  pub opened : slice_index_or ps 0 no_pair ≡ o
  pub rising : AreRising o ps
  pub last : last_pair ps ≡ pair_at stamp v

-- one of these pairs has this stamp
abbrev pub HasStamp : List Pair → ℕ → Type 0
HasStamp ps k = (p : Pair) × Contains ps p × (p.0 ≡ k)

-- What a desk saw of a pool with this number of message blocks: at least one pair, and the last has the greatest stamp. One
-- stamp has one census, and each census counts all blocks of the pool.
pub record AreSeen (blocks : ℕ) (ps : List Pair) : Type 0 where
  pub some : 1 ≤ length ps
  pub latest : All (λ p. p.0 ≤ (last_pair ps).0) ps
  pub one : (p q : Pair) → Contains ps p → Contains ps q → p.0 ≡ q.0 → p.1 ≡ q.1
  pub whole : All (λ p. count_in p.1 ≡ blocks) ps
