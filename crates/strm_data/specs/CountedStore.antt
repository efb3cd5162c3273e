-- What a contract sees of data blocks: a store, and the number of references to each data block.
use Rattle.std.specs.Prelude.{◌≡◌, ℕ, ◌+◌, ◌-◌, ◌<◌, ◌≤◌, Bool, ◌&&◌, ◌==◌, nat_lt, List, length, slice_index_or, slice_set, replicate, Result, Ok, Err, IsTrue, if◌then◌else◌}
use Rattle.strm_data.specs.Classes.{are_lawful}
use Rattle.strm_data.specs.declared.class_spec.ClassSpec.{ClassSpec}
use Rattle.strm_data.specs.declared.refusal.Refusal.{Refusal}
use Rattle.strm_data.specs.Limits.{most_references}
use Rattle.strm_data.specs.DataStore.{DataStore, times, blocks_in, capacity_of, class_of, class_spec_at, free_of, with_data_taken, with_data_freed, opening_store}

-- the store, and for each data block by number its references: how many message blocks use it
pub record CountedStore : Type 0 where
  pub store : DataStore
  pub counts : List ℕ

-- the number of references to data block d
abbrev pub count_of : CountedStore → ℕ → ℕ
count_of s d = slice_index_or s.counts d 0

-- the data block has at least one reference
abbrev pub IsInUse : CountedStore → ℕ → Type 0
IsInUse s d = 0 < count_of s d

-- whether d is a data block of class c without references
abbrev pub is_unused : CountedStore → ℕ → ℕ → Bool
is_unused s c d = nat_lt d (length s.store.blocks) && (class_of s.store d == c && count_of s d == 0)

-- d is a data block of one of the classes, and has no references
pub record IsUnused (s : CountedStore) (d : ℕ) : Type 0 where
  pub there : d < length s.store.blocks
  pub counted : d < length s.counts
  pub classed : class_of s.store d < length s.store.classes
  pub unnamed : count_of s d ≡ 0

-- each data block is accounted for: the classes are lawful, and each has its number of data blocks. Each data block has the size of
-- its class, and at most most_references references. Each class's free list has its data blocks without references, each once
pub record IsKept (s : CountedStore) : Type 0 where
  pub lawful : IsTrue (are_lawful s.store.classes)
  pub complete : (c : ℕ) → blocks_in s.store c ≡ (class_spec_at s.store c).count
  pub lists : length s.store.free ≡ length s.store.classes
  pub counted : length s.counts ≡ length s.store.blocks
  pub classed : (d : ℕ) → d < length s.store.blocks → class_of s.store d < length s.store.classes
  pub sized : (d : ℕ) → d < length s.store.blocks → capacity_of s.store d
      ≡ (class_spec_at s.store (class_of s.store d)).size
  pub few_references : (d : ℕ) → count_of s d ≤ most_references
  pub listed : (c d : ℕ) → times d (free_of s.store c) ≡ (if is_unused s c d then 1 else 0)

-- a new store: no data block has references
abbrev pub opening_counted : List ClassSpec → CountedStore
opening_counted cs = record { store = opening_store cs; counts = replicate (length (opening_store cs).blocks) 0 }

-- the store after `take` took this data block; unchanged if it was refused
abbrev pub after_take : CountedStore → Result ℕ Refusal → CountedStore
after_take s (Ok d) = record { store = with_data_taken d s.store; counts = slice_set s.counts d 1 }
after_take s (Err why) = s

-- the store after d got a reference
abbrev pub with_reference : ℕ → CountedStore → CountedStore
with_reference d s = record s { counts = slice_set s.counts d (count_of s d + 1) }

-- the store after d lost a reference; if that was the last one, d is free
abbrev pub without_reference : ℕ → CountedStore → CountedStore
without_reference d s = record {
  store = if count_of s d == 1 then with_data_freed d s.store else s.store;
  counts = slice_set s.counts d (count_of s d - 1);
}
