-- Data blocks by number, which of them are free, and which one `take` takes for a size.
use Rattle.std.specs.Prelude.{◌≡◌, ℕ, ◌+◌, ◌<◌, ◌≤◌, min, Bool, ◌==◌, nat_le, nat_lt, List, [], ◌∷◌, ◌++◌, length, take, drop, replicate, count_by, map, Option, Some, None, Result, Ok, Err, ok_or, slice_get, slice_index_or, slice_set, if◌then◌else◌}
use Rattle.std.specs.List.{flat_map, zip, enumerate_from, range_with_len}
use Rattle.std.specs.Result.{is_ok}
use Rattle.strm_data.specs.Classes.{fits_a_class}
use Rattle.strm_data.specs.declared.class_info.ClassInfo.{ClassInfo}
use Rattle.strm_data.specs.declared.class_spec.ClassSpec.{ClassSpec}
use Rattle.strm_data.specs.declared.msg_type.MsgType.{MsgType}
use Rattle.strm_data.specs.declared.msg_type.MsgType.TheVariants.{MData}
use Rattle.strm_data.specs.declared.refusal.Refusal.{Refusal}
use Rattle.strm_data.specs.declared.refusal.Refusal.TheVariants.{TooLarge, NoData}
pub use Rattle.strm_links.specs.Counting.{times}

-- a data block: the number of its size class, its type, and its bytes, which are as many as its capacity
pub record DataBlock : Type 0 where
  pub class : ℕ
  pub kind : MsgType
  pub bytes : List ℕ

-- the size classes and the data blocks by number; for each class its free data blocks, the next to be taken first; and for each
-- class the fewest that were free since the classes were made or `least` was reset
pub record DataStore : Type 0 where
  pub classes : List ClassSpec
  pub blocks : List DataBlock
  pub free : List (List ℕ)
  pub least : List ℕ

-- the result of a read past the data blocks
abbrev pub no_data_block : DataBlock
no_data_block = record { class = 0; kind = MData; bytes = [] }

-- data block d
abbrev pub data_block_at : DataStore → ℕ → DataBlock
data_block_at s d = slice_index_or s.blocks d no_data_block

-- the number of the data block's size class
abbrev pub class_of : DataStore → ℕ → ℕ
class_of s d = (data_block_at s d).class

-- the result of a read past the classes
abbrev pub no_class_spec : ClassSpec
no_class_spec = record { size = 0; count = 0 }

-- size class c
abbrev pub class_spec_at : DataStore → ℕ → ClassSpec
class_spec_at s c = slice_index_or s.classes c no_class_spec

-- the number of data blocks of class c
abbrev pub blocks_in : DataStore → ℕ → ℕ
blocks_in s c = count_by (λ b. b.class == c) s.blocks

-- the capacity of data block d: its number of bytes
abbrev pub capacity_of : DataStore → ℕ → ℕ
capacity_of s d = length (data_block_at s d).bytes

-- n bytes of data block d, from place `at` on
abbrev pub bytes_at : ℕ → ℕ → ℕ → DataStore → List ℕ
bytes_at d at n s = take n (drop at (data_block_at s d).bytes)

-- the free data blocks of class c
abbrev pub free_of : DataStore → ℕ → List ℕ
free_of s c = slice_index_or s.free c []

-- the fewest data blocks of class c that were free
abbrev pub least_of : DataStore → ℕ → ℕ
least_of s c = slice_index_or s.least c 0

-- for each class the fewest that were free, and no more than are free now
pub record IsLeast (s : DataStore) : Type 0 where
  pub each : length s.least ≡ length s.classes
  pub fewest : (c : ℕ) → least_of s c ≤ length (free_of s c)

-- the bytes of all data blocks of class c, one block after the other
abbrev pub class_bytes : ℕ → DataStore → List ℕ
class_bytes c s = flat_map (λ b. if b.class == c then b.bytes else []) s.blocks

-- the same, if there is such a class
abbrev pub class_region : ℕ → DataStore → Option (List ℕ)
class_region c s = if nat_lt c (length s.classes) then Some (class_bytes c s) else None

-- the free data blocks of the classes that fit the size, in order of class
abbrev pub fitting_blocks : ℕ → DataStore → List ℕ
fitting_blocks size s = flat_map (λ p. if nat_le size p.0.size then p.1 else []) (zip s.classes s.free)

-- the data block that is taken for a size: the first free one of the smallest class that fits and has one
abbrev pub take_data : ℕ → DataStore → Result ℕ Refusal
take_data size s = if fits_a_class size s.classes then ok_or (slice_get (fitting_blocks size s) 0) NoData else Err TooLarge

-- whether a data block can be taken for this size now
abbrev pub fits : ℕ → DataStore → Bool
fits size s = is_ok (take_data size s)

-- for this size a data block of class c is taken, which fits and has a free one (no public clause cites it)
pub record IsTakenFrom (size : ℕ) (s : DataStore) (c : ℕ) : Type 0 where
  pub wide : size ≤ (class_spec_at s c).size
  pub some : 0 < length (free_of s c)
  pub front : take_data size s ≡ Ok (slice_index_or (free_of s c) 0 0)

-- for this size data blocks of class c are taken as long as it has free ones: it fits, and no smaller class that fits has one
pub record IsClassFor (size : ℕ) (s : DataStore) (c : ℕ) : Type 0 where
  pub wide : size ≤ (class_spec_at s c).size
  pub before : (k : ℕ) → k < c → size ≤ (class_spec_at s k).size → length (free_of s k) ≡ 0

-- the store after d, the first free one of its class, was taken: it has type M_DATA, and keeps its bytes
abbrev pub with_data_taken : ℕ → DataStore → DataStore
with_data_taken d s =
    let rest = drop 1 (free_of s (class_of s d)) in
    record s {
      blocks = slice_set s.blocks d (record (data_block_at s d) { kind = MData });
      free = slice_set s.free (class_of s d) rest;
      least = slice_set s.least (class_of s d) (min (least_of s (class_of s d)) (length rest));
    }

-- the store once the fewest that were free are those that are free now
abbrev pub with_data_reset : DataStore → DataStore
with_data_reset s = record s { least = map length s.free }

-- the store after d became free, at the front of its class's list
abbrev pub with_data_freed : ℕ → DataStore → DataStore
with_data_freed d s = record s { free = slice_set s.free (class_of s d) (d ∷ free_of s (class_of s d)) }

-- the store after d got this type
abbrev pub with_kind : ℕ → MsgType → DataStore → DataStore
with_kind d kind s = record s { blocks = slice_set s.blocks d (record (data_block_at s d) { kind = kind }) }

-- bytes, overwritten with new ones from a place on
abbrev pub bytes_overwritten : ℕ → List ℕ → List ℕ → List ℕ
bytes_overwritten at new old = take at old ++ (new ++ drop (at + length new) old)

-- the store after these bytes were written into d from a place on
abbrev pub with_bytes_written : ℕ → ℕ → List ℕ → DataStore → DataStore
with_bytes_written d at bytes s = record s {
  blocks = slice_set s.blocks d (record (data_block_at s d) { bytes = bytes_overwritten at bytes (data_block_at s d).bytes });
}

-- the store after `len` bytes of one data block, from a place on, were copied into another, from a place on
abbrev pub with_bytes_copied : ℕ → ℕ → ℕ → ℕ → ℕ → DataStore → DataStore
with_bytes_copied from at into to len s = with_bytes_written into to (take len (drop at (data_block_at s from).bytes)) s

-- for each class its size, the number of its free data blocks, and the number of all of them
abbrev pub class_infos : DataStore → List ClassInfo
class_infos s = map (λ p. record { size = p.0.size; free = length p.1; total = p.0.count }) (zip s.classes s.free)

-- a data block of a class before its first use
abbrev pub fresh_data_block : ℕ → ClassSpec → DataBlock
fresh_data_block number c = record { class = number; kind = MData; bytes = replicate c.size 0 }

-- for each class the numbers of its data blocks, which count up from `first`, class by class
abbrev pub numbers_from : ℕ → List ClassSpec → List (List ℕ)
numbers_from first [] = []
numbers_from first (c ∷ cs) = range_with_len first c.count ∷ numbers_from (first + c.count) cs

-- the store of a new pool: all data blocks are free, in rising order
abbrev pub opening_store : List ClassSpec → DataStore
opening_store cs = record {
  classes = cs;
  blocks = flat_map (λ p. replicate p.1.count (fresh_data_block p.0 p.1)) (enumerate_from 0 cs);
  free = numbers_from 0 cs;
  least = map (λ c. c.count) cs;
}
