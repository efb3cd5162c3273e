-- What a call leaves unchanged: all held messages except those that it gets or returns and, if it is about held messages only, all
-- shelves.
use Rattle.std.specs.Prelude.{◌≡◌, ℕ, false, List, [], ◌∷◌, length, Option, None, Some, Result, Ok, Err}
use Rattle.std.specs.List.{All}
use Rattle.strm_data.specs.declared.refusal.Refusal.{Refusal}
use Rattle.strm_data.specs.DataStore.{DataStore, data_block_at}
use Rattle.strm_links.specs.Rows as rows
use Rattle.strm_mblk.specs.declared.rejected.Rejected.{Rejected}
use Rattle.strm_mblk.specs.declared.token.TokenValue.{TokenValue}
use Rattle.strm_mblk.specs.Arena.{Arena, held_at, message_at, shelved_blocks}
use Rattle.strm_mblk.specs.Block.{Block}

-- the block's data block has the same class, type and bytes in both stores
abbrev pub IsSameData : DataStore → DataStore → Block → Type 0
IsSameData s t b = data_block_at t b.data_number ≡ data_block_at s b.data_number

-- Held messages stay unchanged, except for those at these heads. The id and the number of message blocks stay unchanged.
pub record LeavesOthers (heads : List ℕ) (old new : Arena) : Type 0 where
  pub id : new.id ≡ old.id
  pub size : length new.held ≡ length old.held
  pub held : (h : ℕ) → rows.has h heads ≡ false → held_at new h ≡ held_at old h

-- Each shelf keeps its messages and their blocks. The data blocks of these messages, and of messages held at other heads than these, keep
-- type and bytes.
pub record LeavesShelves (heads : List ℕ) (old new : Arena) : Type 0 where
  pub shelves : new.shelves ≡ old.shelves
  pub shelved_data : All (IsSameData old.store new.store) (shelved_blocks old)
  pub held_data : (h : ℕ) → rows.has h heads ≡ false → All (IsSameData old.store new.store) (message_at old h)

-- ---- the heads of the tokens that a call returns

abbrev pub head_given : Option TokenValue → List ℕ
head_given None = []
head_given (Some t) = t.head ∷ []

abbrev pub head_answered : Result TokenValue Refusal → List ℕ
head_answered (Ok t) = t.head ∷ []
head_answered (Err why) = []

abbrev pub heads_answered : Result (Option TokenValue) Refusal → List ℕ
heads_answered (Ok given) = head_given given
heads_answered (Err why) = []

abbrev pub heads_parted : Result (TokenValue × Option TokenValue) Rejected → List ℕ
heads_parted (Ok tokens) = tokens.0.head ∷ head_given tokens.1
heads_parted (Err rejected) = []
