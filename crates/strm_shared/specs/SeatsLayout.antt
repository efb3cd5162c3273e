-- Where seats are stored, and what they know there. No public clause cites this module.
use Rattle.std.specs.Prelude.{◌≡◌, ℕ, ◌+◌, ◌≤◌, length, map, All, Contains, List, [], Option, None, Some, slice_index_or}
use Rattle.atomic_table.specs.declared.shared.Seat.{Seat}
use Rattle.atomic_table.specs.Seated.{TableId}
use Rattle.strm_pool.specs.PoolValue.{PoolValue}
use Rattle.strm_links.specs.Counting.{times}
use Rattle.strm_pool.specs.Registers.{Entries, entries_of}
use Rattle.strm_shared.specs.Books.{BookValue, book_value}
use Rattle.strm_shared.specs.Chronicle.{served_from}
use Rattle.strm_shared.specs.Desks.{DeskValue, IsDeskOf}
use Rattle.strm_pool.specs.declared.line.Entry.{Entry}
use Rattle.strm_shared.specs.declared.views.History.{History}
use Rattle.strm_shared.specs.declared.views.Known.{Known}
use Rattle.strm_shared.specs.declared.views.View.{View}
use Rattle.strm_shared.specs.declared.views.View.TheVariants.{Lock, At}
use Rattle.strm_shared.specs.Pairs.{Pair, count_in, last_pair, pair_at}
use Rattle.strm_shared.specs.Seats.{IsHistory, IsOf, Shows, history_after, known_after, with_pair}
use Rattle.strm_shared.specs.Traces.{TraceValue}

-- ---- what a seat knows

-- the history of the lock's view
abbrev pub history_of : View → History
history_of (Lock h gs) = h
history_of v = record { pairs = []; entries = []; desks = 0; tables = [] }

abbrev pub no_known : Known
no_known = record { number = 0; pairs = []; served = []; table = [] }

-- what the desk of a desk's view knows
abbrev pub known_of : View → Known
known_of (At d) = d
known_of v = no_known

abbrev pub history_at : Seat (Unit {0}) View → History
history_at s = history_of s.me.0

abbrev pub known_at : Seat (Unit {0}) View → Known
known_at s = known_of s.me.0

-- what the desk of this seat knows, if there is a seat
abbrev pub known_in : Option (Seat (Unit {0}) View) → Known
known_in None = no_known
known_in (Some s) = known_at s

-- ---- where a seat is

-- the lock's seat at this table, with this history and these guests
abbrev pub IsLock : TableId → History → List Known → Seat (Unit {0}) View → Type 0
IsLock z h gs s = (s.table_id ≡ z) × (s.me ≡ (Lock h gs, []))

-- the seat of a desk at this table, which knows d
abbrev pub IsAt : TableId → Known → Seat (Unit {0}) View → Type 0
IsAt z d s = (s.table_id ≡ z) × (s.me ≡ (At d, []))

-- The lock's seat after each guest saw the pair, which is the last of its history. All guests have different numbers.
pub record AreGuestsShown (z : TableId) (o : Pair) (h : History) (gs : List Known) (p : Pair) (lock : Seat (Unit {0}) View) : Type 0 where
  pub here : IsLock z h (map (with_pair p) gs) lock
  pub lawful : IsHistory o h
  pub last : last_pair h.pairs ≡ p
  pub guests : All (IsOf o.0 h) (map (with_pair p) gs)
  pub apart : (n : ℕ) → times n (map (λ (d : Known). d.number) gs) ≤ 1

-- The lock's seat and a desk's after the desk saw the pair, which is the last of the lock's history.
pub record IsShownBy (z : TableId) (o : Pair) (h : History) (d : Known) (p : Pair) (lock desk : Seat (Unit {0}) View) : Type 0 where
  pub here : IsLock z h [] lock
  pub there : IsAt z (with_pair p d) desk
  pub lawful : IsHistory o h
  pub last : last_pair h.pairs ≡ p
  pub known : IsOf o.0 h (with_pair p d)

-- A desk of a pool with this id and number of desks, as the history says. The pairs that it saw are of the history. It was
-- served exactly the entries of its number. Its registers are the table of its number.
pub record IsDeskOfHistory (id desks first : ℕ) (h : History) (d : DeskValue) : Type 0 where
  pub desk : IsDeskOf id desks d
  pub pairs : All (Contains h.pairs) d.pairs
  pub served : d.served ≡ served_from (first + 1) d.number h.entries
  pub table : slice_index_or h.tables d.number [] ≡ entries_of d.regs

-- The seat of a desk, at a table that was opened with this pair and counts this number of blocks. The desk has its view's
-- number and table, and was served as many calls. When the view saw its last pair, that was the last one of a history that it
-- fits.
pub record IsSeated (z : TableId) (o : Pair) (blocks n stamp calls : ℕ) (t : Entries) (d : Known) (s : Option (Seat (Unit {0}) View)) : Type 0 where
  pub seat : Seat (Unit {0}) View
  pub there : s ≡ Some seat
  pub here : IsAt z d seat
  pub number : d.number ≡ n
  pub table : d.table ≡ t
  pub counted : length d.served ≡ calls
  pub sized : count_in o.1 ≡ blocks
  pub some : 1 ≤ length d.pairs
  pub seen : (last_pair d.pairs).0 ≡ stamp
  pub shows : Shows o (last_pair d.pairs) (At d)

-- the book whose seat has this history, with this pool, stamp and trace
abbrev pub book_with : History → PoolValue → ℕ → TraceValue → BookValue
book_with h v n t = book_value v n h.tables h.pairs h.entries t

-- The lock's seat, as a book with this number of desks has it: without guests, and with a history whose last pair is that of
-- the book's pool.
pub record IsKeptBy (z : TableId) (o : Pair) (n stamp : ℕ) (v : PoolValue) (h : History) (s : Seat (Unit {0}) View) : Type 0 where
  pub here : IsLock z h [] s
  pub lawful : IsHistory o h
  pub last : last_pair h.pairs ≡ pair_at stamp v
  pub desks : h.desks ≡ n

-- ---- a served call

-- The lock's seat and a desk's, once the lock's has stored this pair, with this entry and this table of the desk, and the desk's,
-- which had joined it, has left.
abbrev pub AreEntered : TableId → Pair → Entry → Entries → History → Known → Seat (Unit {0}) View → Seat (Unit {0}) View → Type 0
AreEntered z p e t h d lock desk = IsLock z (history_after p e t h) [] lock × IsAt z (known_after p e t d) desk

-- The pair can be the next of this history: its stamp is 1 above the last, and its census counts the pool's blocks.
pub record IsNextOf (o : Pair) (h : History) (p : Pair) : Type 0 where
  pub stamp : p.0 ≡ (last_pair h.pairs).0 + 1
  pub whole : count_in p.1 ≡ count_in o.1
