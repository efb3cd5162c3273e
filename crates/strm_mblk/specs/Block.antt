-- A message block, and a message as a list of blocks.
use Rattle.std.specs.Prelude.{ℕ, Bool, true, ◌||◌, ◌==◌, not, List, [], ◌∷◌, map, take, drop, sum_by, if◌then◌else◌}
use Rattle.std.specs.List.{flat_map}
use Rattle.strm_data.specs.declared.msg_type.MsgType.{MsgType}
use Rattle.strm_data.specs.declared.msg_type.MsgType.TheVariants.{MData}
use Rattle.strm_data.specs.DataStore.{DataStore, data_block_at}
use Rattle.strm_data.specs.MsgType.{same_kind}

-- a message block: its number, its data block, its read place, its number of bytes from there to its write place, and its band
pub record Block : Type 0 where
  pub number : ℕ
  pub data_number : ℕ
  pub offset : ℕ
  pub len : ℕ
  pub band : ℕ

-- a message: a chain of one block or more (`IsParted` says so)
abbrev pub Message : Type 0
Message = List Block

-- the number of the message's first block
abbrev pub head_of : Message → ℕ
head_of [] = 0
head_of (b ∷ bs) = b.number

abbrev pub numbers_of : List Block → List ℕ
numbers_of bs = map (λ b. b.number) bs

-- whether the block uses data block d
abbrev pub uses_data : ℕ → Block → Bool
uses_data d b = b.data_number == d

-- the type of the block's data block
abbrev pub kind_of : DataStore → Block → MsgType
kind_of s b = (data_block_at s b.data_number).kind

-- the bytes of a block, from its read place to its write place
abbrev pub bytes_of_block : DataStore → Block → List ℕ
bytes_of_block s b = take b.len (drop b.offset (data_block_at s b.data_number).bytes)

-- the bytes of a message: those of its blocks, joined
abbrev pub bytes_of : DataStore → Message → List ℕ
bytes_of s m = flat_map (bytes_of_block s) m

-- the number of bytes of a message
abbrev pub size_of : Message → ℕ
size_of m = sum_by (λ b. b.len) m

-- the bytes of a block that count: all, or with `data_alone` only those of an M_DATA block
abbrev pub len_counted : Bool → DataStore → Block → ℕ
len_counted data_alone s b = if same_kind (kind_of s b) MData || not data_alone then b.len else 0

-- the number of bytes of a message that are in blocks of type M_DATA
abbrev pub data_size_of : DataStore → Message → ℕ
data_size_of s m = sum_by (len_counted true s) m

-- a block over a data block just taken: both places and the band are 0
abbrev pub new_block : ℕ → ℕ → Block
new_block n d = record { number = n; data_number = d; offset = 0; len = 0; band = 0 }
