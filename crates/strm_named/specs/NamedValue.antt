-- A named pool as a value: a pool and stamps, and which names are valid.
use Rattle.std.specs.Prelude.{◌≡◌, ℕ, ◌+◌, ◌%◌, ◌^◌, Bool, true, false, ◌&&◌, ◌==◌, List, [], ◌∷◌, is_some, option_map, replicate, Result, Ok, Err, Option, None, slice_index_or, slice_set}
use Rattle.strm_links.specs.Rows as rows
use Rattle.strm_mblk.specs.Arena.{held_at}
use Rattle.strm_pool.specs.declared.config.Config.{Config}
use Rattle.strm_pool.specs.declared.config.NewFault.{NewFault}
use Rattle.strm_pool.specs.Config.{fault_of}
use Rattle.strm_pool.specs.PoolValue.{Opens, PoolValue, opening_pool}
use Rattle.strm_named.specs.declared.name.Name.{Name}

-- A pool, and the stamp of each message block: the number of messages that were given and begin with it.
pub record NamedValue : Type 0 where
  pub pool : PoolValue
  pub stamps : List ℕ

-- the stamp of block h
abbrev pub stamp_at : NamedValue → ℕ → ℕ
stamp_at v h = slice_index_or v.stamps h 0

-- the name of the last message that was given and begins with block h
abbrev pub name_of : NamedValue → ℕ → Name
name_of v h = record { pool = v.pool.arena.id; head = h; stamp = stamp_at v h }

-- the name of the message held at h, if one is
abbrev pub name_at : NamedValue → ℕ → Option Name
name_at v h = option_map (λ m. name_of v h) (held_at v.pool.arena h)

-- A name is valid if it has the pool's id, a message is held at its head, and its stamp is the last one there.
abbrev pub is_valid : NamedValue → Name → Bool
is_valid v n = n.pool == v.pool.arena.id && (is_some (held_at v.pool.arena n.head) && n.stamp == stamp_at v n.head)

-- the next stamp; stamps have 64 bits, and begin again at 0 after the last
abbrev pub stamp_after : ℕ → ℕ
stamp_after n = (n + 1) % 2 ^ 64

-- the stamps after messages with these heads were given
abbrev pub stamps_given : List ℕ → List ℕ → List ℕ
stamps_given [] stamps = stamps
stamps_given (h ∷ hs) stamps = stamps_given hs (slice_set stamps h (stamp_after (slice_index_or stamps h 0)))

-- the named pool that a lawful configuration opens: no message was given yet
abbrev pub opening_named : Config → NamedValue
opening_named c = record { pool = opening_pool c; stamps = replicate c.mblks 0 }

-- a lawful configuration opens its named pool, unless memory is refused; otherwise its fault is that of any pool
abbrev pub OpensNamed : Config → Result NamedValue NewFault → Type 0
OpensNamed c (Ok v) = (fault_of c ≡ None) × (v ≡ opening_named c)
OpensNamed c (Err fault) = Opens c (Err fault)

-- ---- which names are valid after a call

-- A call spends the names of messages with some heads, and gives messages with others. Names with a spent head are valid no
-- more, except the new name of a message that is given there. The name of a given message is valid, and was not before. All
-- other names are valid if and only if they were before.
pub record Renames (spent given : List ℕ) (old new : NamedValue) : Type 0 where
  pub others : (n : Name) → rows.has n.head spent ≡ false → rows.has n.head given ≡ false → is_valid new n
      ≡ is_valid old n
  pub gone : (n : Name) → rows.has n.head spent ≡ true → rows.has n.head given ≡ false → is_valid new n ≡ false
  pub fresh : (h : ℕ) → rows.has h given ≡ true → is_valid new (name_of new h) ≡ true
  pub unheard : (h : ℕ) → rows.has h given ≡ true → is_valid old (name_of new h) ≡ false

-- each name is valid if and only if it was before
abbrev pub KeepsNames : NamedValue → NamedValue → Type 0
KeepsNames old new = (n : Name) → is_valid new n ≡ is_valid old n

-- no name is valid
abbrev pub HasNoNames : NamedValue → Type 0
HasNoNames v = (n : Name) → is_valid v n ≡ false

-- another pool with the same stamps
abbrev pub with_pool : NamedValue → PoolValue → NamedValue
with_pool v p = record v { pool = p }
