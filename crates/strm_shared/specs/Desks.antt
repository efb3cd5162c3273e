-- A desk as a value: its number, its registers, and what it has seen.
use Rattle.std.specs.Prelude.{ℕ, zero, suc, ◌<◌, List, [], ◌∷◌, ◌++◌, Option, None, replicate}
use Rattle.strm_mblk.specs.declared.token.TokenValue.{TokenValue}
use Rattle.strm_pool.specs.Limits.{most_registers}
use Rattle.strm_pool.specs.Registers.{CarryId}
use Rattle.strm_pool.specs.declared.line.Entry.{Entry}
use Rattle.strm_shared.specs.Pairs.{Pair, last_pair}

-- A desk: its number, its registers, the pairs that it saw, in order, and the calls that it was served, each with its stamp.
pub record DeskValue : Type 0 where
  pub number : ℕ
  pub regs : List (Option TokenValue)
  pub pairs : List Pair
  pub served : List (ℕ × Entry)

abbrev pub desk_value : ℕ → List (Option TokenValue) → List Pair → List (ℕ × Entry) → DeskValue
desk_value n rs ps ss = record { number = n; regs = rs; pairs = ps; served = ss }

-- the desk after it saw one more pair
abbrev pub with_pair_seen : Pair → DeskValue → DeskValue
with_pair_seen p d = record d { pairs = d.pairs ++ p ∷ [] }

-- the pair that the desk saw last, and that pair's stamp
abbrev pub newest : DeskValue → Pair
newest d = last_pair d.pairs

abbrev pub stamp_seen : DeskValue → ℕ
stamp_seen d = (newest d).0

-- A desk of a pool with this id and number of desks: its number is below that, and its tokens have the id.
pub record IsDeskOf (id desks : ℕ) (d : DeskValue) : Type 0 where
  pub below : d.number < desks
  pub carry : CarryId id d.regs

-- a desk that was served nothing, and has seen these pairs
abbrev pub empty_desk : ℕ → List Pair → DeskValue
empty_desk n ps = desk_value n (replicate most_registers None) ps []

-- this number of unused desks, numbered from 0
abbrev pub fresh_desks : ℕ → List Pair → List DeskValue
fresh_desks zero ps = []
fresh_desks (suc n) ps = fresh_desks n ps ++ empty_desk n ps ∷ []

-- the desk that is found at a place without one
abbrev pub no_desk : DeskValue
no_desk = empty_desk 0 []
