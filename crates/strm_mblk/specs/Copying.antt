-- How copies of blocks are made, step by step. No public clause cites this module.
use Rattle.std.specs.Prelude.{◌≡◌, ℕ, ◌+◌, ◌<◌, ◌≤◌, List, None, Ok, Option, Some, count_by, length, map, slice_index_or, slice_set}
use Rattle.std.specs.Borrow.{Bor}
use Rattle.std.specs.List.{All}
use Rattle.strm_data.specs.declared.class_spec.ClassSpec.{ClassSpec}
use Rattle.strm_data.specs.CountedStore.{CountedStore, count_of}
use Rattle.strm_data.specs.DataStore.{DataStore, capacity_of, free_of, no_class_spec}
use Rattle.strm_mblk.specs.Block.{Block, uses_data}
use Rattle.strm_mblk.specs.declared.blocks.Fields.{Fields}
use Rattle.strm_mblk.specs.BlocksLayout.{IsPlaced, fields_of, with_fields}
use Rattle.strm_mblk.specs.BlockCalls.{store_with_copy, blocks_copied}

-- the store that was lent, if any
abbrev pub lent_store : Option (Bor CountedStore) → Option DataStore
lent_store None = None
lent_store (Some lent) = Some lent.now.store

-- for each class, `left` has the number of its free data blocks in this store
abbrev pub AreLeft : List ℕ → DataStore → Type 0
AreLeft left s = (c : ℕ) → slice_index_or left c 0 ≡ length (free_of s c)

-- the class fits the size, and has a data block left
pub record IsLeft (size : ℕ) (classes : List ClassSpec) (left : List ℕ) (c : ℕ) : Type 0 where
  pub there : c < length classes
  pub wide : size ≤ (slice_index_or classes c no_class_spec).size
  pub some : 0 < slice_index_or left c 0

-- the store after d was taken for a copy of b, with its type and bytes; d has one reference
abbrev pub with_copy : Option DataStore → Block → CountedStore → ℕ → CountedStore
with_copy other b s d = record { store = store_with_copy other b s.store d; counts = slice_set s.counts d 1 }

-- message blocks ns have become copies of these blocks, over data blocks with one reference each
pub record AreCopied (other : Option DataStore) (bs : List Block) (ns : List ℕ) (old new : List Fields) (s t : CountedStore) : Type 0 where
  pub made : List Block
  pub answer : blocks_copied other bs s.store ≡ Ok (made, t.store)
  pub fields : new ≡ with_fields ns (map fields_of made) old
  pub many : length made ≡ length bs
  pub named : (d : ℕ) → count_of t d ≡ count_of s d + count_by (uses_data d) made
  pub placed : All (λ b. IsPlaced t.store (fields_of b)) made
  pub blocks : length t.store.blocks ≡ length s.store.blocks
  pub rooms : (d : ℕ) → capacity_of t.store d ≡ capacity_of s.store d
