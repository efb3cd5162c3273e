-- How `Blocks` lays out message blocks. No public clause cites this module.
use Rattle.std.specs.Prelude.{◌≡◌, ℕ, ◌+◌, ◌^◌, ◌<◌, ◌≤◌, Bool, List, [], ◌∷◌, length, map, take, Some, option_map, slice_get, slice_index_or, slice_set, nat_lt}
use Rattle.strm_data.specs.CountedStore.{CountedStore, IsKept, count_of, without_reference, with_reference}
use Rattle.strm_data.specs.DataStore.{DataStore, capacity_of, times}
use Rattle.std.specs.List.{list_any}
use Rattle.strm_links.specs.ChainLists.{ChainLists, IsLawful, chain_of, nodes_at}
use Rattle.strm_data.specs.Limits.{most_data_block_bytes, most_references}
use Rattle.strm_mblk.specs.declared.block_place.Shape.{Shape}
use Rattle.strm_mblk.specs.declared.blocks.Blocks.TheInside.{Inside}
use Rattle.strm_mblk.specs.declared.blocks.Fields.{Fields}
use Rattle.strm_mblk.specs.declared.blocks.finding.Found.{Found}
use Rattle.strm_mblk.specs.declared.blocks.finding.Start.{Start}
use Rattle.strm_mblk.specs.Arena.{Arena, message_at, references_to, shelved_blocks}
use Rattle.strm_mblk.specs.Block as model
use Rattle.strm_mblk.specs.Limits.{most_message_blocks}

-- the result of a read past the message blocks
abbrev pub no_fields : Fields
no_fields = record { data_number = 0; offset = 0; len = 0; band = 0 }

abbrev pub fields_at : List Fields → ℕ → Fields
fields_at fields n = slice_index_or fields n no_fields

-- message block n with these fields
abbrev pub block_of : ℕ → Fields → model.Block
block_of n f = record { number = n; data_number = f.data_number; offset = f.offset; len = f.len; band = f.band }

-- the block that a call found
abbrev pub block_of_found : Found → model.Block
block_of_found f = block_of f.node f.fields

-- the fields of a message block, which are all but its number
abbrev pub fields_of : model.Block → Fields
fields_of b = record { data_number = b.data_number; offset = b.offset; len = b.len; band = b.band }

-- message block n
abbrev pub block_at : List Fields → ℕ → model.Block
block_at fields n = block_of n (fields_at fields n)

-- the message with these block numbers
abbrev pub message_of : List Fields → List ℕ → model.Message
message_of fields ns = map (block_at fields) ns

-- the data blocks of these message blocks
abbrev pub data_used_by : List Fields → List ℕ → List ℕ
data_used_by fields ns = map (λ n. (fields_at fields n).data_number) ns

-- the fields after each of these message blocks got new ones
abbrev pub with_fields : List ℕ → List Fields → List Fields → List Fields
with_fields [] xs fields = fields
with_fields (n ∷ ns) [] fields = fields
with_fields (n ∷ ns) (x ∷ xs) fields = with_fields ns xs (slice_set fields n x)

-- these fields with the places and the band of a shape
abbrev pub fields_shaped : Shape → Fields → Fields
fields_shaped x f = record f { offset = x.at; len = x.len; band = x.band }

-- the fields after the first of these message blocks got the places and bands of these shapes
abbrev pub with_shapes : List Shape → List ℕ → List Fields → List Fields
with_shapes [] ns fields = fields
with_shapes (x ∷ xs) [] fields = fields
with_shapes (x ∷ xs) (n ∷ ns) fields = with_shapes xs ns (slice_set fields n (fields_shaped x (fields_at fields n)))

-- the store after each of these data blocks, first to last, got a reference
abbrev pub with_references_given : List ℕ → CountedStore → CountedStore
with_references_given [] s = s
with_references_given (d ∷ ds) s = with_references_given ds (with_reference d s)

-- whether some data block would have more than most_references references after each of these got one
abbrev pub exceeds_counts : List ℕ → CountedStore → Bool
exceeds_counts ds s = list_any (λ d. nat_lt most_references (count_of s d + times d ds)) ds

-- the store after each of these data blocks, first to last, lost a reference
abbrev pub with_references_dropped : List ℕ → CountedStore → CountedStore
with_references_dropped [] s = s
with_references_dropped (d ∷ ds) s = with_references_dropped ds (without_reference d s)

abbrev pub arena_of : ℕ → DataStore → List Fields → ChainLists → Arena
arena_of id store fields lists = record {
  id = id;
  store = store;
  free = lists.free;
  held = map (option_map (message_of fields)) lists.held;
  shelves = map (map (message_of fields)) lists.shelves;
  least = lists.least;
}

abbrev pub arena_in : Inside → Arena
arena_in a = arena_of a.id a.data.store a.chains.loads a.chains.lists

-- the data block exists, the places are inside it, and the band is below 256
pub record IsPlaced (s : DataStore) (f : Fields) : Type 0 where
  pub there : f.data_number < length s.blocks
  pub within : f.offset + f.len ≤ capacity_of s f.data_number
  pub banded : f.band < 2 ^ 8

-- the block that a call found has its places inside its data block, which has this capacity, and a band below 256
pub record IsFoundIn (s : DataStore) (f : Found) : Type 0 where
  pub there : f.fields.data_number < length s.blocks
  pub within : f.fields.offset + f.fields.len ≤ f.capacity
  pub capacity : f.capacity ≡ capacity_of s f.fields.data_number
  pub small : f.capacity ≤ most_data_block_bytes
  pub banded : f.fields.band < 2 ^ 8

-- a walk along the message held at h has reached n, its block i, or has passed its end
pub record IsReached (v : ChainLists) (h i n : ℕ) : Type 0 where
  pub here : i < length (nodes_at v h) → slice_get (nodes_at v h) i ≡ Some n
  pub in_range : i < length (nodes_at v h) → n < length v.held

-- message block n is in a held message, and these can become its fields: they have its data block, and places inside it
pub record Suits (a : Arena) (n : ℕ) (f : Fields) : Type 0 where
  pub head : ℕ
  pub place : ℕ
  pub block : model.Block
  pub found : slice_get (message_at a head) place ≡ Some block
  pub number : block.number ≡ n
  pub same : f.data_number ≡ block.data_number
  pub room : f.offset + f.len ≤ capacity_of a.store f.data_number
  pub banded : f.band < 2 ^ 8

-- every message block has an existing data block, and the bytes of the message that begins with `head` number less than 2^32
pub record IsSummable (lists : ChainLists) (fields : List Fields) (s : DataStore) (head : ℕ) : Type 0 where
  pub begins : slice_get (chain_of lists head) 0 ≡ Some head
  pub there : head < length lists.held
  pub listed : length fields ≡ length lists.held
  pub named : (n : ℕ) → n < length fields → (fields_at fields n).data_number < length s.blocks
  pub small : model.size_of (message_of fields (chain_of lists head)) < 2 ^ 32

-- every message block has its places inside a data block, and a message begins with `head`
pub record IsReadable (lists : ChainLists) (fields : List Fields) (s : CountedStore) (head : ℕ) : Type 0 where
  pub begins : slice_get (chain_of lists head) 0 ≡ Some head
  pub there : head < length lists.held
  pub listed : length fields ≡ length lists.held
  pub placed : (n : ℕ) → n < length fields → IsPlaced s.store (fields_at fields n)
  pub kept : IsKept s

-- byte `at` of the message that begins with `head` is byte `r.at` of its blocks from block `r.block` on, whose number is `r.node`
pub record IsStart (lists : ChainLists) (fields : List Fields) (head at : ℕ) (r : Start) : Type 0 where
  pub begins : slice_get (chain_of lists head) r.block ≡ Some r.node
  pub there : r.node < length lists.held
  pub before : model.size_of (take r.block (message_of fields (chain_of lists head))) + r.at ≡ at

-- every message block, free ones too, has its places inside a data block, and the stored counts are the numbers of references
pub record IsFilled (s : CountedStore) (fields : List Fields) (lists : ChainLists) (arena : Arena) : Type 0 where
  pub kept : IsKept s
  pub parted : IsLawful lists
  pub few : length lists.held ≤ most_message_blocks
  pub listed : length fields ≡ length lists.held
  pub placed : (n : ℕ) → n < length fields → IsPlaced s.store (fields_at fields n)
  pub counts : (d : ℕ) → count_of s d ≡ references_to arena d

pub record IsSound (a : Inside) : Type 0 where
  pub filled : IsFilled a.data a.chains.loads a.chains.lists (arena_in a)
  pub queued : a.queued ≡ length (shelved_blocks (arena_in a))
