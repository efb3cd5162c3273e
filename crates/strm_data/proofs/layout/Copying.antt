-- Bytes of a data block in memory, and what a contract sees once others stand over them.
use Rattle.std.proofs.Common.{◌≡◌, ℕ, ◌+◌, ◌<◌, ◌≤◌, List, length, map, set, take, drop, Some, sym, ap, ◌∙◌, arith}
use Rattle.std.specs.Prelude.{slice_get}
use Rattle.strm_data.specs.declared.data.Data.TheInside.{Inside}
use Rattle.strm_data.specs.declared.data.DataBlock.{DataBlock}
use Rattle.strm_data.specs.CountedStore.{CountedStore}
use Rattle.strm_data.specs.DataLayout.{Room, block_at, room_of, seen_in, store_of_parts, store_of, IsPlaced, IsSound}
use Rattle.strm_data.specs.DataStore as store
use Rattle.strm_data.specs.DataStore.{bytes_overwritten, capacity_of, data_block_at, with_bytes_written}
use Rattle.strm_data.proofs.Lists.{part_of}
use Rattle.strm_data.proofs.layout.Seen.{block_is, block_within, capacity_is, seen_is, seen_written, whole, IsPlaced-written}

-- b is data block d, whose byte `at` is at place p
module _ (a : Inside) (v : CountedStore) (view : store_of a ≡ v) (sound : IsSound a) (d : ℕ) (there : d < length v.store.blocks) (b : DataBlock) (read : slice_get a.blocks.loads d ≡ Some b)
    (at p : ℕ) (is : p ≡ b.start + at) where
  abbrev rooms : List Room
  rooms = map room_of a.classes.items

  abbrev x : DataBlock
  x = block_at a.blocks.loads d

  within : d < length a.blocks.loads
  within = block_within a v view d there

  same : x ≡ b
  same = block_is a v view d b read

  place_is : p ≡ x.start + at
  place_is = is ∙ ap (λ (y : DataBlock). y.start + at) (sym same)

  capacity : x.size ≡ capacity_of v.store d
  capacity = ap (λ (y : DataBlock). y.size) same ∙ capacity_is a v view d b read sound there

  seen : seen_in a.bytes.items x ≡ data_block_at v.store d
  seen = ap (seen_in a.bytes.items) same ∙ sym (seen_is a v view d b read)

  -- n bytes from there on
  module _ (n : ℕ) (few : at + n ≤ capacity_of v.store d) where
    pub in_bytes : p + n ≤ length a.bytes.items
    in_bytes = omega (arith, whole rooms a.bytes.items a.blocks.loads sound.placed d within, capacity, few, place_is)

    pub part_is : take n (drop p a.bytes.items) ≡ take n (drop at (data_block_at v.store d).bytes)
    part_is = rw place_is (part_of n at x.start x.size a.bytes.items (omega (arith, capacity, few)) ∙ ap (λ (y : store.DataBlock). take n (drop at y.bytes)) seen)

  -- once these bytes are written over them
  module _ (new : List ℕ) (room : at + length new ≤ capacity_of v.store d) where
    abbrev after : List ℕ
    after = bytes_overwritten p new a.bytes.items

    fits : at + length new ≤ x.size
    fits = omega (arith, room, capacity)

    pub overwrites : store_of_parts a.classes.items after a.blocks.loads a.blocks.rows.lists ≡ record v { store = with_bytes_written d at new v.store }
    overwrites =
        rw place_is
        ((λ i. record (store_of a) { store = record (store_of a).store { blocks = seen_written rooms a.bytes.items a.blocks.loads sound.placed d within at new fits i } })
        ∙ ap (λ (y : store.DataBlock). record (store_of a) { store = record (store_of a).store { blocks = set (store_of a).store.blocks d (record y { bytes = bytes_overwritten at new y.bytes }) } }) seen
        ∙ ap (λ (s : CountedStore). record s { store = record s.store { blocks = set s.store.blocks d (record (data_block_at v.store d) { bytes = bytes_overwritten at new (data_block_at v.store d).bytes }) } }) view)

    pub IsPlaced-overwrites : IsPlaced rooms after a.blocks.loads
    IsPlaced-overwrites = rw place_is (IsPlaced-written rooms a.bytes.items a.blocks.loads sound.placed d within at new fits)
