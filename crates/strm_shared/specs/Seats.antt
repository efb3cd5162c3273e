-- The rule of the word: what each seat knows, and what each kind of step does and shows. No public clause cites this module.
use Rattle.std.specs.Prelude.{◌≡◌, ℕ, ◌+◌, ◌<◌, ◌≤◌, List, [], ◌∷◌, ◌++◌, map, length, All, Contains, None, slice_index_or, slice_set, replicate, nat_lt, if◌then◌else◌}
use Rattle.std.specs.List.{flat_map}
use lib.ListN.{get_elem?}
use mathlib.Core.Option.{some}
use Rattle.atomic_table.specs.Table.{Me, State, Step}
use Rattle.strm_links.specs.Counting.{times}
use Rattle.strm_mblk.specs.Limits.{most_message_blocks}
use Rattle.strm_pool.specs.declared.call.Call.TheVariants.{Census}
use Rattle.strm_pool.specs.declared.reply.Reply.TheVariants.{Done}
use Rattle.strm_pool.specs.Limits.{most_registers}
use Rattle.strm_pool.specs.Registers.{Entries}
use Rattle.strm_pool.specs.declared.line.Entry.{Entry}
use Rattle.strm_shared.specs.declared.views.History.{History}
use Rattle.strm_shared.specs.declared.views.Known.{Known}
use Rattle.strm_shared.specs.declared.views.View.{View}
use Rattle.strm_shared.specs.declared.views.View.TheVariants.{Lock, At, Spent}
use Rattle.strm_shared.specs.Chronicle.{served_from}
use Rattle.strm_shared.specs.Pairs.{AreRising, HasStamp, Pair, count_in, last_pair, no_pair}
use Rattle.strm_shared.specs.Words.{pair_of, word_of}

-- ---- an entry of no call

abbrev pub no_entry : Entry
no_entry = record { desk = 0; line = 0; call = Census; reply = Done }

-- ---- a history, and what desks know of it

-- A history that begins with this opening pair. Stamps rise by 1, and each census counts the pool's blocks. Each pair but the
-- first has the entry of a call at an existing desk, and each desk has a table.
pub record IsHistory (o : Pair) (h : History) : Type 0 where
  pub few : count_in o.1 ≤ most_message_blocks
  pub opened : slice_index_or h.pairs 0 no_pair ≡ o
  pub rising : AreRising o h.pairs
  pub entered : length h.pairs ≡ length h.entries + 1
  pub there : All (λ e. e.desk < h.desks) h.entries
  pub told : length h.tables ≡ h.desks

-- What a desk knows fits a history that begins with this stamp. The desk's number exists, and its pairs are pairs of the
-- history. It was served exactly the entries of its number, and saw the pair of each. Its table is that of its number.
pub record IsOf (first : ℕ) (h : History) (d : Known) : Type 0 where
  pub below : d.number < h.desks
  pub pairs : All (Contains h.pairs) d.pairs
  pub served : d.served ≡ served_from (first + 1) d.number h.entries
  pub carried : All (λ (s : ℕ × Entry). HasStamp d.pairs s.0) d.served
  pub table : slice_index_or h.tables d.number [] ≡ d.table

-- ---- the rule

-- the desks of a view: the guests of the lock's seat, or the desk itself
abbrev pub desks_of : View → List Known
desks_of (Lock h gs) = gs
desks_of (At d) = d ∷ []
desks_of Spent = []

abbrev pub numbers_in : View → List ℕ
numbers_in v = map (λ d. d.number) (desks_of v)

-- if this is the lock's view, it has this history
abbrev pub HasHistory : History → View → Type 0
HasHistory h (Lock l gs) = l ≡ h
HasHistory h (At d) = Unit {0}
HasHistory h Spent = Unit {0}

-- if this is the lock's view, it is that of the seat with this number
abbrev pub IsLocks : ℕ → ℕ → View → Type 0
IsLocks lock seat (Lock h gs) = seat ≡ lock
IsLocks lock seat (At d) = Unit {0}
IsLocks lock seat Spent = Unit {0}

-- a view that fits this history
pub record IsViewOf (first : ℕ) (h : History) (v : View) : Type 0 where
  pub history : HasHistory h v
  pub desks : All (IsOf first h) (desks_of v)

-- The rule of a table that was opened with this pair: there is one history that all views fit. At most one seat is the lock's.
-- The word is that of the history's last pair. Each desk number below the number of desks is in one view, once, and no other
-- is.
pub record IsRuled (o : Pair) (s : State (Unit {0}) View) : Type 0 where
  pub lock : ℕ
  pub history : History
  pub lawful : IsHistory o history
  pub word : s.words ≡ word_of (last_pair history.pairs) ∷ []
  pub alone : (seat : ℕ) (v : View) → get_elem? s.views seat ≡ some v → IsLocks lock seat v
  pub views : (seat : ℕ) (v : View) → get_elem? s.views seat ≡ some v → IsViewOf o.0 history v
  pub each : (n : ℕ) → times n (flat_map numbers_in s.views) ≡ (if nat_lt n history.desks then 1 else 0)

-- ---- the steps

abbrev pub no_entries : Entries
no_entries = replicate most_registers None

-- the history before any call was served, with this number of desks; the lock's seat begins with no desks
abbrev pub opening_history : Pair → ℕ → History
opening_history o n = record { pairs = o ∷ []; entries = []; desks = n; tables = replicate n no_entries }

abbrev pub first_view : Pair → View
first_view o = Lock (opening_history o 0) []

-- store: the history gets the pair, its entry, and the table of the entry's desk
abbrev pub history_after : Pair → Entry → Entries → History → History
history_after p e t h = record h { pairs = h.pairs ++ p ∷ []; entries = h.entries ++ e ∷ []; tables = slice_set h.tables e.desk t }

-- store: the desk that was served gets the pair, its entry, and its table
abbrev pub known_after : Pair → Entry → Entries → Known → Known
known_after p e t d = record d { pairs = d.pairs ++ p ∷ []; served = d.served ++ (p.0, e) ∷ []; table = t }

-- store: the lock's history and its guest get the pair
abbrev pub view_after : Pair → Entry → Entries → View → View
view_after p e t (Lock h gs) = Lock (history_after p e t h) (map (known_after p e t) gs)
view_after p e t (At d) = At d
view_after p e t Spent = Spent

-- store: the view of the seat that stored
abbrev pub Stored : Pair → Entry → Entries → Step (Unit {0}) → Me (Unit {0}) View → ℕ → Me (Unit {0}) View → Type 0
Stored o e t s m w m' = m' ≡ (view_after (pair_of (count_in o.1) w) e t m.0, m.1)

-- load: the desk, or each of the lock's guests, sees the pair
abbrev pub with_pair : Pair → Known → Known
with_pair p d = record d { pairs = d.pairs ++ p ∷ [] }

abbrev pub view_with_pair : Pair → View → View
view_with_pair p (Lock h gs) = Lock h (map (with_pair p) gs)
view_with_pair p (At d) = At (with_pair p d)
view_with_pair p Spent = Spent

-- What a load shows: the pair is the last one of a history that the view fits, and no two desks of the view have one number.
pub record Shows (o p : Pair) (v : View) : Type 0 where
  pub history : History
  pub lawful : IsHistory o history
  pub last : last_pair history.pairs ≡ p
  pub view : IsViewOf o.0 history v
  pub apart : (n : ℕ) → times n (numbers_in v) ≤ 1

-- load: the view of the seat that loaded gets the pair, and fits as `Shows` says
abbrev pub Loaded : Pair → Step (Unit {0}) → Me (Unit {0}) View → ℕ → Me (Unit {0}) View → Type 0
Loaded o s m w m' = (m' ≡ (view_with_pair (pair_of (count_in o.1) w) m.0, m.1)) × Shows o (pair_of (count_in o.1) w) m'.0

-- this is the view of the lock's seat
abbrev pub IsLockView : View → Type 0
IsLockView (Lock h gs) = Unit {0}
IsLockView (At d) = ⊥
IsLockView Spent = ⊥

-- the load that changes no view, which only the lock's seat can make
abbrev pub Read : Pair → Step (Unit {0}) → Me (Unit {0}) View → ℕ → Me (Unit {0}) View → Type 0
Read o s m w m' = IsLockView m.0 × (m' ≡ m) × Shows o (pair_of (count_in o.1) w) m.0

-- join: the desk becomes a guest of the lock's seat
abbrev pub with_guest : View → View → View
with_guest (Lock h gs) (At d) = Lock h (d ∷ gs)
with_guest v w = v

-- split: the guest that joined last leaves
abbrev pub without_guest : View → View
without_guest (Lock h (g ∷ gs)) = Lock h gs
without_guest v = v

abbrev pub guest_of : View → View
guest_of (Lock h (g ∷ gs)) = At g
guest_of v = Spent

-- split of a new desk: it gets the next number, empty registers, and all pairs so far
abbrev pub new_known : History → Known
new_known h = record { number = h.desks; pairs = h.pairs; served = []; table = no_entries }

abbrev pub history_with_desk : History → History
history_with_desk h = record h { desks = h.desks + 1; tables = h.tables ++ no_entries ∷ [] }

abbrev pub with_desk : View → View
with_desk (Lock h gs) = Lock (history_with_desk h) gs
with_desk v = v

abbrev pub new_desk_of : View → View
new_desk_of (Lock h gs) = At (new_known h)
new_desk_of v = Spent
