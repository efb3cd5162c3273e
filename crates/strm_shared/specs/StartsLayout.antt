-- How a pool that is ready to be shared is stored. No public clause cites this module.
use Rattle.std.specs.Prelude.{◌≡◌, ℕ, ◌≤◌, []}
use Rattle.atomic_table.specs.declared.shared.Seat.{Seat}
use Rattle.atomic_table.specs.Seated.{TableId}
use Rattle.strm_mblk.specs.Arena.{census_of}
use Rattle.strm_pool.specs.PoolValue.{PoolValue}
use Rattle.strm_shared.specs.declared.views.View.{View}
use Rattle.strm_pool.specs.Limits.{most_workers}
use Rattle.strm_shared.specs.Limits.{most_stamp}
use Rattle.strm_shared.specs.Seats.{opening_history}
use Rattle.strm_shared.specs.SeatsLayout.{IsLock}
use Rattle.strm_shared.specs.Pairs.{Pair}
use Rattle.strm_shared.specs.Traces.{TraceValue}

-- The number of desks is in range, no message is held, the trace is empty, and the ledger has a part for each desk.
pub record IsReady (v : PoolValue) (desks first : ℕ) (trace : TraceValue) (parts : ℕ) : Type 0 where
  pub some : 1 ≤ desks
  pub few : desks ≤ most_workers
  pub unspent : first ≤ most_stamp
  pub idle : (census_of v.arena).held ≡ 0
  pub blank : trace.entries ≡ []
  pub shared : parts ≡ desks

-- the table of the word was opened with this pair, and the lock's seat has taken no step
pub record IsLaid (o : Pair) (z : TableId) (key : Pair) (s : Seat (Unit {0}) View) : Type 0 where
  pub one_word : z.words ≡ 1
  pub opened : key ≡ o
  pub here : IsLock z (opening_history o 0) [] s
