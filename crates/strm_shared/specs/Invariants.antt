-- What is always true of a book, of a desk and of a pool that is to be shared, one fact a field. No public clause cites this module.
use Rattle.std.specs.Prelude.{ℕ, List, Option, length}
use Rattle.atomic_table.specs.declared.shared.Seat.{Seat}
use Rattle.atomic_table.specs.Seated.{TableId}
use Rattle.strm_mblk.specs.declared.token.TokenValue.{TokenValue}
use Rattle.strm_pool.specs.PoolValue.{PoolValue}
use Rattle.strm_pool.specs.Registers.{entries_of}
use Rattle.strm_shared.specs.declared.name.Name.{Ghosts}
use Rattle.strm_shared.specs.declared.views.View.{View}
use Rattle.strm_shared.specs.Books.{IsBookOf}
use Rattle.strm_shared.specs.Chronicle.{AreTold}
use Rattle.strm_shared.specs.Desks.{IsDeskOf, desk_value}
use Rattle.strm_shared.specs.LedgerLayout.{IsCounted, IsPart}
use Rattle.strm_shared.specs.Pairs.{Pair, pair_at}
use Rattle.strm_shared.specs.SeatsLayout.{IsKeptBy, IsSeated, book_with, history_at, known_in}
use Rattle.strm_shared.specs.StartsLayout.{IsLaid, IsReady}
use Rattle.strm_shared.specs.Traces.{IsTraceOf, TraceValue}

-- What the lock of a shared pool guards: the pool, the stamp, the trace, how many blocks the ledger's book counts as held, and the
-- lock's seat. These facts hold each time a thread takes the lock.
pub record IsSoundBook {N : Type 0} (n : Ghosts N) (v : PoolValue) (stamp : ℕ) (t : TraceValue) (held : ℕ) (lock : Seat (Unit {0}) View) : Type 0 where
  -- The pool is the one that was shared, the stamp is in its range, and there is a table of registers for each desk. Each held
  -- message is in one register of one table, with its number of blocks, and the tables have nothing else.
  pub book : IsBookOf n.opened.arena.id n.desks n.first (book_with (history_at lock) v stamp t)
  -- The ledger counts exactly the blocks that are held, and the pool has as many message blocks as when it was shared.
  pub ledger : IsCounted (length n.opened.arena.held) n.desks held v
  -- The lock's seat is at the word's table. No desk's seat has joined it, and the last pair of its history is that of stamp and pool.
  pub seat : IsKeptBy n.board (pair_at n.first n.opened) n.desks stamp v (history_at lock) lock
  -- Pool, tables, pairs and replies are those of the served calls, one after another, from the pool as it was shared.
  pub told : AreTold n.opened n.desks n.first stamp (history_at lock).entries v (history_at lock).tables
      (history_at lock).pairs
  -- If a trace is kept, it has the entry of each served call, in order, and no more entries than it may have.
  pub trace : IsTraceOf n.kept (history_at lock).entries t

-- A desk: its number, the stamp that it saw last, how many calls it was served, its registers, its share of the ledger, and its seat.
pub record IsSoundDesk {N : Type 0} (n : Ghosts N) (number seen calls : ℕ) (regs : List (Option TokenValue)) (parts amount : ℕ) (s : Option (Seat (Unit {0}) View)) : Type 0 where
  -- The number is below that of the desks, and the tokens in its registers carry the pool's id.
  pub desk : IsDeskOf n.opened.arena.id n.desks (desk_value number regs (known_in s).pairs (known_in s).served)
  -- The share is one part of the ledger, which counts the blocks of these tokens.
  pub share : IsPart parts amount regs
  -- The seat is at the word's table and knows what the desk knows: its number, its registers, what it has seen and was served.
  pub seat : IsSeated n.board (pair_at n.first n.opened) (length n.opened.arena.held) number seen calls
      (entries_of regs) (known_in s) s

-- A pool that is to be shared: the pool, the number of desks, the first stamp, the trace, how many parts the ledger has, and the
-- word's table with the lock's seat.
pub record IsSoundStart (v : PoolValue) (desks first : ℕ) (trace : TraceValue) (parts : ℕ) (z : TableId) (key : Pair) (lock : Seat (Unit {0}) View) : Type 0 where
  -- The setup is lawful, no message is held, the trace has no entry, and the ledger has a part for each desk.
  pub ready : IsReady v desks first trace parts
  -- The table has one word, with the pair of the first stamp and the pool, and the lock's seat has taken no step.
  pub table : IsLaid (pair_at first v) z key lock
