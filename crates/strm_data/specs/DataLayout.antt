-- How `Data` lays out its data blocks. No public clause cites this module.
use Rattle.std.specs.Prelude.{◌≡◌, ℕ, ◌+◌, ◌*◌, ◌≤◌, List, [], ◌∷◌, ◌++◌, length, map, take, drop, slice_index_or}
use Rattle.std.specs.List.{range_with_len}
use Rattle.strm_data.specs.declared.class_spec.ClassSpec.{ClassSpec}
use Rattle.strm_data.specs.declared.data.Class.{Class}
use Rattle.strm_data.specs.declared.data.Data.TheInside.{Inside}
use Rattle.strm_data.specs.declared.data.DataBlock.{DataBlock}
use Rattle.strm_data.specs.declared.msg_type.MsgType.TheVariants.{MData}
use Rattle.strm_data.specs.CountedStore.{CountedStore, IsKept}
use Rattle.strm_data.specs.DataStore as store
use Rattle.strm_data.specs.DataStore.{IsLeast, no_class_spec}

-- the results of reads past the classes and past the data blocks
abbrev pub no_class : Class
no_class = record { spec = no_class_spec; start = 0; least = 0 }

abbrev pub no_block : DataBlock
no_block = record { start = 0; size = 0; class = 0; kind = MData; references = 0 }

abbrev pub block_at : List DataBlock → ℕ → DataBlock
block_at blocks d = slice_index_or blocks d no_block

-- ---- where the bytes of data blocks are

-- the class of a data block, the place where its bytes begin, and how many there are
pub record Extent : Type 0 where
  pub class : ℕ
  pub start : ℕ
  pub size : ℕ

abbrev pub extent_of : DataBlock → Extent
extent_of b = record { class = b.class; start = b.start; size = b.size }

-- the bytes of an extent
abbrev pub bytes_in : List ℕ → Extent → List ℕ
bytes_in bytes e = take e.size (drop e.start bytes)

-- the size and the number of a class's data blocks, and the place where their bytes begin
pub record Room : Type 0 where
  pub spec : ClassSpec
  pub start : ℕ

abbrev pub room_of : Class → Room
room_of k = record { spec = k.spec; start = k.start }

-- the place after the last byte of a class
abbrev pub end_of : Room → ℕ
end_of room = room.start + room.spec.size * room.spec.count

-- from a place on, the classes come one after the other, up to an end
abbrev pub FitFrom : ℕ → List Room → ℕ → Type 0
FitFrom at [] end = at ≤ end
FitFrom at (room ∷ rooms) end = (at ≤ room.start) × FitFrom (end_of room) rooms end

-- data block j of a class with this number
abbrev pub extent_in : ℕ → Room → ℕ → Extent
extent_in c room j = record { class = c; start = room.start + j * room.spec.size; size = room.spec.size }

-- the data blocks of the class, one after the other
abbrev pub extents_in : ℕ → Room → List Extent
extents_in c room = map (extent_in c room) (range_with_len 0 room.spec.count)

-- those of all classes, which are numbered from c on
abbrev pub extents_from : ℕ → List Room → List Extent
extents_from c [] = []
extents_from c (room ∷ rooms) = extents_in c room ++ extents_from (c + 1) rooms

-- a data block before its first use
abbrev pub unused_at : Extent → DataBlock
unused_at e = record { start = e.start; size = e.size; class = e.class; kind = MData; references = 0 }

-- ---- what contracts see

-- a data block
abbrev pub seen_in : List ℕ → DataBlock → store.DataBlock
seen_in bytes b = record { class = b.class; kind = b.kind; bytes = bytes_in bytes (extent_of b) }

-- the store and counts that classes, bytes, data blocks and free lists mean
abbrev pub store_of_parts : List Class → List ℕ → List DataBlock → List (List ℕ) → CountedStore
store_of_parts classes bytes blocks free = record {
  store = record { classes = map (λ c. c.spec) classes; blocks = map (seen_in bytes) blocks; free = free; least = map (λ c. c.least) classes };
  counts = map (λ b. b.references) blocks;
}

abbrev pub store_of : Inside → CountedStore
store_of a = store_of_parts a.classes.items a.bytes.items a.blocks.loads a.blocks.rows.lists

-- the classes have room among the bytes, and the data blocks are where they were laid out
pub record IsPlaced (rooms : List Room) (bytes : List ℕ) (blocks : List DataBlock) : Type 0 where
  pub fit : FitFrom 0 rooms (length bytes)
  pub laid : map extent_of blocks ≡ extents_from 0 rooms

-- each data block is accounted for and has its place among the bytes, no class says more than are free, and each data block is a node
pub record IsSound (a : Inside) : Type 0 where
  pub kept : IsKept (store_of a)
  pub placed : IsPlaced (map room_of a.classes.items) a.bytes.items a.blocks.loads
  pub least : IsLeast (store_of a).store
  pub nodes : a.blocks.rows.nodes ≡ length a.blocks.loads
