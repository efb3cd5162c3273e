-- A pool that is ready to be shared, and what its name will say.
use Rattle.std.specs.Prelude.{◌≡◌, ℕ, Bool, true, false, not, ◌&&◌, ◌||◌, [], nat_le, nat_lt, Option, Result, Ok, Err}
use Rattle.atomic_table.specs.Seated.{TableId}
use Rattle.strm_pool.specs.declared.config.NewFault.{NewFault}
use Rattle.strm_pool.specs.declared.config.NewFault.TheVariants.{BadConfig, BadShared, Memory}
use Rattle.strm_pool.specs.PoolValue.{PoolValue, opening_pool}
use Rattle.strm_shared.specs.declared.name.Name.{Ghosts}
use Rattle.strm_shared.specs.declared.setup.Setup.{Setup}
use Rattle.strm_pool.specs.Limits.{most_workers}
use Rattle.strm_shared.specs.Limits.{most_stamp}
use Rattle.strm_shared.specs.Traces.{is_bad_trace, most_of}

-- The pool, the board with its word, the number of desks, the stamp before the first call, the greatest number of trace
-- entries, if a trace is kept, and the ledger of held blocks.
pub record StartValue : Type 0 where
  pub pool : PoolValue
  pub board : TableId
  pub desks : ℕ
  pub first : ℕ
  pub kept : Option ℕ
  pub ledger : ℕ

-- the number of desks, the first stamp, or the number of trace entries is out of range
abbrev pub is_bad_shared : Setup → Bool
is_bad_shared s = not (nat_le 1 s.desks && nat_le s.desks most_workers) || nat_lt most_stamp s.first_stamp || is_bad_trace s.trace

abbrev pub start_of : PoolValue → TableId → Setup → ℕ → StartValue
start_of v board s ledger = record { pool = v; board = board; desks = s.desks; first = s.first_stamp; kept = most_of s.trace; ledger = ledger }

-- A pool is ready to be shared with this setup, or comes back unchanged. A bad setup is found before memory is taken.
abbrev pub Starts : PoolValue → Setup → Result StartValue (NewFault × PoolValue) → Type 0
Starts v s (Ok start) = (is_bad_shared s ≡ false) × (start ≡ start_of v start.board s start.ledger)
Starts v s (Err (BadShared, w)) = (is_bad_shared s ≡ true) × (w ≡ v)
Starts v s (Err (Memory, w)) = (is_bad_shared s ≡ false) × (w ≡ v)
Starts v s (Err (BadConfig which, w)) = ⊥

-- a table that is that of no shared pool
abbrev pub no_board : TableId
no_board = record { words = 0; slots = 0; views_name = 0; atom = 0; block = 0; offset = 0; slot_names = [] }

-- a pool without blocks, which is that of no name
abbrev pub no_pool : PoolValue
no_pool = opening_pool (record { id = 0; mblks = 0; classes = []; queues = []; bufcalls = 0; first_id = 0 })

-- what the name of a start says: pool, board, number of desks, first stamp, number of entries, ledger
abbrev pub name_of : {N : Type 0} → StartValue → Ghosts N
name_of s = record { opened = s.pool; board = s.board; desks = s.desks; first = s.first; kept = s.kept; ledger = s.ledger }

-- the name is that of this start
pub record IsNameOf {N : Type 0} (n : Ghosts N) (s : StartValue) : Type 0 where
  pub opened : n.opened ≡ s.pool
  pub board : n.board ≡ s.board
  pub counted : n.desks ≡ s.desks
  pub begun : n.first ≡ s.first
  pub kept : n.kept ≡ s.kept
  pub named : n.ledger ≡ s.ledger
