-- Registers by their places in the alphabet, and tables of what they hold.
use Rattle.std.specs.Prelude.{◌≡◌, ℕ, Bool, true, false, ◌&&◌, ◌==◌, List, Option, None, Some, IfSome, map, count_by, slice_index_or, if◌then◌else◌}
use Rattle.std.specs.List.{flat_map}
use Rattle.std.specs.Option.{option_map}
use Rattle.strm_mblk.specs.declared.token.TokenValue.{TokenValue}
use Rattle.strm_mblk.specs.Arena.{Arena, held_at, is_of_length}

-- what a register has: a token, a head or an entry, if any
abbrev pub register : {T : Type 0} → List (Option T) → ℕ → Option T
register rs x = slice_index_or rs x None

-- a register table: for each register the head of its message, or none
abbrev pub RegisterTable : Type 0
RegisterTable = List (Option ℕ)

abbrev pub table_of : List (Option TokenValue) → RegisterTable
table_of rs = map (option_map (λ t. t.head)) rs

-- no two registers have one message
abbrev pub AreDistinct : RegisterTable → Type 0
AreDistinct t = (x y h : ℕ) → register t x ≡ Some h → register t y ≡ Some h → x ≡ y

-- each token in these registers carries the id of a pool
abbrev pub CarryId : ℕ → List (Option TokenValue) → Type 0
CarryId id rs = (x : ℕ) → IfSome (register rs x) (λ t. t.pool ≡ id)

-- ---- the registers of several desks

-- the entry of a token: the head and the number of blocks of its message
abbrev pub entry_of : TokenValue → ℕ × ℕ
entry_of t = (t.head, t.blocks)

-- the entries of a desk: for each register the entry of its token, or none
abbrev pub Entries : Type 0
Entries = List (Option (ℕ × ℕ))

abbrev pub entries_of : List (Option TokenValue) → Entries
entries_of rs = map (option_map entry_of) rs

-- whether a register has the entry of a message of n blocks with head h
abbrev pub is_entry_of : ℕ → ℕ → Option (ℕ × ℕ) → Bool
is_entry_of h n None = false
is_entry_of h n (Some e) = e.0 == h && e.1 == n

-- each of these entries is of a held message with its number of blocks
abbrev pub AreOfHeld : Arena → Entries → Type 0
AreOfHeld a es = (x : ℕ) → IfSome (register es x) (λ e. is_of_length e.1 (held_at a e.0) ≡ true)

-- the number of registers of these desks that have this entry
abbrev pub times_listed : ℕ → ℕ → List Entries → ℕ
times_listed h n desks = count_by (is_entry_of h n) (flat_map (λ es. es) desks)

-- Each held message is in one register of one desk, with its number of blocks, and no register has another entry.
abbrev pub AreAccounted : Arena → List Entries → Type 0
AreAccounted a desks = (h n : ℕ) → times_listed h n desks ≡ (if is_of_length n (held_at a h) then 1 else 0)
