-- What a contract sees of data blocks as they lie in memory, of their bytes, and of the classes.
use Rattle.std.proofs.Common.{◌≡◌, ℕ, zero, suc, ◌+◌, ◌*◌, ◌<◌, ◌≤◌, ◌≢◌, List, [], ◌∷◌, length, get_or, set, map, take, drop, Some, None, refl, sym, ap, ◌∙◌, subst, inl, inr, arith, if◌then◌else◌, ◌==◌, zero-add}
use Rattle.std.specs.Prelude.{option_map, slice_get}
use Rattle.std.specs.List.{flat_map, zip}
use Rattle.std.proofs.lemmas.Bool.{cases_eq, cases_lt}
use Rattle.std.proofs.lemmas.List.{get_or-map, length-map}
use Rattle.std.proofs.lemmas.List.Folds.{flat_map-map}
use Rattle.std.proofs.lemmas.Option.{get_or_from_slice_get, none-some, same_Some, slice_get-get_or, slice_get_past}
use Rattle.strm_links.specs.Rows.{first, holder}
use Rattle.strm_links.proofs.lists.AllLists.{holder_is}
use Rattle.strm_links.proofs.lists.Counting.{absent}
use Rattle.strm_data.specs.declared.class_info.ClassInfo.{ClassInfo}
use Rattle.strm_data.specs.declared.class_spec.ClassSpec.{ClassSpec}
use Rattle.strm_data.specs.declared.data.Class.{Class}
use Rattle.strm_data.specs.declared.data.Data.TheInside.{Inside}
use Rattle.strm_data.specs.declared.data.DataBlock.{DataBlock}
use Rattle.strm_data.specs.CountedStore.{CountedStore, IsKept, count_of}
use Rattle.strm_data.specs.DataLayout.{Extent, FitFrom, Room, block_at, bytes_in, extent_of, extents_from, no_block, room_of, seen_in, store_of, IsPlaced, IsSound}
use Rattle.strm_data.specs.DataStore as store
use Rattle.strm_data.specs.DataStore.{times, bytes_overwritten, capacity_of, class_bytes, class_infos, class_spec_at, data_block_at, free_of, no_class_spec}
use Rattle.strm_data.proofs.Lists.{length-part, length-overwritten, map-set_but, part_before, part_behind, part_over}
use Rattle.strm_data.proofs.layout.Extents.{class_given, extent_at, extents_apart, extents_within, given, room_at}
use Rattle.strm_data.proofs.store.Kept.{free_within, get_or-map_all, listed_unnamed}

-- ---- free lists

-- the first item is the one at place 0
pub get_or_first : (xs : List ℕ) (n : ℕ) → first xs ≡ Some n → get_or xs 0 0 ≡ n
get_or_first [] n is = absurd (none-some n is)
get_or_first (x ∷ xs) n is = same_Some x n is

-- a data block that is in use is in no list
pub holder_unlisted : (s : CountedStore) (kept : IsKept s) (nodes d : ℕ) → 0 < count_of s d → holder d (record { nodes = nodes; lists = s.store.free }) ≡ None
holder_unlisted s kept nodes d used =
    holder_is d (record { nodes = nodes; lists = s.store.free }) None
    (λ c within. absent d (free_of s.store c)
    (elim (cases_eq (times d (free_of s.store c)) 0) [
      | inl none ↦ none
      | inr some ↦ absurd (omega (arith, listed_unnamed s kept c d (omega (arith, some)), used))
    ]))
    (λ c is. absurd (none-some c is))

-- ---- where the bytes of a data block are

module _ (rooms : List Room) (bytes : List ℕ) (blocks : List DataBlock) (placed : IsPlaced rooms bytes blocks) where
  module _ (d : ℕ) where
    extent_is : extent_of (block_at blocks d) ≡ extent_at (extents_from 0 rooms) d
    extent_is = get_or-map_all extent_of blocks d no_block ∙ ap (λ es. extent_at es d) placed.laid

    within_laid : d < length blocks → d < length (extents_from 0 rooms)
    within_laid there = omega (arith, there, length-map blocks extent_of, ap length placed.laid)

    pub whole : d < length blocks → (block_at blocks d).start + (block_at blocks d).size ≤ length bytes
    whole there =
        subst (λ (e : Extent). e.start + e.size ≤ length bytes) (sym extent_is) (extents_within 0 0 (length bytes) rooms d placed.fit (within_laid there)).1

  apart : (d e : ℕ) → d < e → e < length blocks → (block_at blocks d).start + (block_at blocks d).size ≤ (block_at blocks e).start
  apart d e before there =
      subst (λ (x : Extent). x.start + x.size ≤ (block_at blocks e).start) (sym (extent_is d))
      (subst (λ (x : Extent). (extent_at (extents_from 0 rooms) d).start + (extent_at (extents_from 0 rooms) d).size ≤ x.start) (sym (extent_is e))
      (extents_apart 0 0 (length bytes) rooms d e placed.fit before (within_laid e there)))

  -- other bytes are written over those of a data block
  module _ (d : ℕ) (there : d < length blocks) (at : ℕ) (new : List ℕ) (room : at + length new ≤ (block_at blocks d).size) where
    abbrev b : DataBlock
    b = block_at blocks d

    abbrev after : List ℕ
    after = bytes_overwritten (b.start + at) new bytes

    wide : b.start + at + length new ≤ length bytes
    wide = omega (arith, whole d there, room)

    written_here : bytes_in after (extent_of b) ≡ bytes_overwritten at new (bytes_in bytes (extent_of b))
    written_here = part_over b.size b.start at new bytes room (whole d there)

    -- those of another data block stay
    written_there : (e : ℕ) → e < length blocks → e ≢ d → bytes_in after (extent_of (block_at blocks e)) ≡ bytes_in bytes (extent_of (block_at blocks e))
    written_there e e_there other =
        let x = block_at blocks e in
        elim (cases_lt e d) [
          | inl earlier ↦ part_before (b.start + at) new bytes wide x.size x.start (omega (arith, apart e d earlier there))
          | inr later ↦ part_behind (b.start + at) new bytes wide x.size x.start (omega (arith, room, apart d e (omega (arith, later, other)) e_there))
        ]

    pub seen_written : map (seen_in after) blocks ≡ set (map (seen_in bytes) blocks) d (record (seen_in bytes b) { bytes = bytes_overwritten at new (bytes_in bytes (extent_of b)) })
    seen_written =
        map-set_but (seen_in after) (seen_in bytes) blocks d no_block _ there (λ i. record (seen_in bytes b) { bytes = written_here i })
        (λ e e_there other i. record (seen_in bytes (block_at blocks e)) { bytes = written_there e e_there other i })

    pub IsPlaced-written : IsPlaced rooms after blocks
    IsPlaced-written = record { fit = subst (FitFrom 0 rooms) (sym (length-overwritten (b.start + at) new bytes wide)) placed.fit; laid = placed.laid }

  -- a class has the bytes of its data blocks
  pub class_bytes_are : (c : ℕ) → c < length rooms → flat_map (λ (x : store.DataBlock). if x.class == c then x.bytes else []) (map (seen_in bytes) blocks)
      ≡ take ((room_at rooms c).spec.size * (room_at rooms c).spec.count) (drop (room_at rooms c).start bytes)
  class_bytes_are c inside =
      flat_map-map (λ (x : store.DataBlock). if x.class == c then x.bytes else []) (seen_in bytes) blocks
      ∙ sym (flat_map-map (given bytes c) extent_of blocks) ∙ ap (flat_map (given bytes c)) placed.laid ∙ class_given bytes c 0 c rooms (sym (zero-add c)) inside

-- ---- from what a contract sees

module _ (a : Inside) (v : CountedStore) (view : store_of a ≡ v) (d : ℕ) where
  pub block_within : d < length v.store.blocks → d < length a.blocks.loads
  block_within there = omega (arith, there, ap (λ (s : CountedStore). length s.store.blocks) view, length-map a.blocks.loads (seen_in a.bytes.items))

  -- b is data block d
  module _ (b : DataBlock) (read : slice_get a.blocks.loads d ≡ Some b) where
    pub block_is : block_at a.blocks.loads d ≡ b
    block_is = get_or_from_slice_get a.blocks.loads d b no_block read

    pub seen_is : data_block_at v.store d ≡ seen_in a.bytes.items b
    seen_is = ap (λ (s : CountedStore). data_block_at s.store d) (sym view) ∙ sym (get_or-map_all (seen_in a.bytes.items) a.blocks.loads d no_block) ∙ ap (seen_in a.bytes.items) block_is

    pub count_is : b.references ≡ count_of v d
    count_is = ap (λ (x : DataBlock). x.references) (sym block_is) ∙ get_or-map_all (λ (x : DataBlock). x.references) a.blocks.loads d no_block ∙ ap (λ s. count_of s d) view

    pub capacity_is : IsSound a → d < length v.store.blocks → b.size ≡ capacity_of v.store d
    capacity_is sound there =
        let fits = whole (map room_of a.classes.items) a.bytes.items a.blocks.loads sound.placed d (block_within there) in
        sym (ap (λ (x : store.DataBlock). length x.bytes) seen_is ∙ length-part b.size b.start a.bytes.items (subst (λ (x : DataBlock). x.start + x.size ≤ length a.bytes.items) block_is fits))

-- ---- what `class_info` returns for a class

abbrev pub info_of : ClassSpec × List ℕ → ClassInfo
info_of p = record { size = p.0.size; free = length p.1; total = p.0.count }

infos-get : (classes : List Class) (lists : List (List ℕ)) (c : ℕ) → length lists ≡ length classes
    → slice_get (map info_of (zip (map (λ k. k.spec) classes) lists)) c ≡ option_map (λ k. info_of (k.spec, get_or lists c [])) (slice_get classes c)
infos-get [] [] c long = refl
infos-get [] (xs ∷ lists) c long = absurd (omega (arith, long))
infos-get (k ∷ classes) [] c long = absurd (omega (arith, long))
infos-get (k ∷ classes) (xs ∷ lists) zero long = refl
infos-get (k ∷ classes) (xs ∷ lists) (suc c) long = infos-get classes lists c (omega (arith, long))

module _ (a : Inside) (v : CountedStore) (view : store_of a ≡ v) (kept : IsKept (store_of a)) (c : ℕ) where
  info_is : slice_get (class_infos v.store) c ≡ option_map (λ k. info_of (k.spec, get_or a.blocks.rows.lists c [])) (slice_get a.classes.items c)
  info_is = cc (view, infos-get a.classes.items a.blocks.rows.lists c (kept.lists ∙ length-map a.classes.items (λ k. k.spec)))

  -- of a class that is there
  pub info_there : (k : Class) → c < length a.classes.items → k ≡ get_or a.classes.items c k → Some (info_of (k.spec, get_or a.blocks.rows.lists c [])) ≡ slice_get (class_infos v.store) c
  info_there k within read = cc (info_is, slice_get-get_or a.classes.items c k within, read)

  -- no more of it are free than there are
  pub free_there : (k : Class) → c < length a.classes.items → k ≡ get_or a.classes.items c k → length (get_or a.blocks.rows.lists c []) ≤ k.spec.count
  free_there k within read =
      let spec : class_spec_at (store_of a).store c ≡ k.spec = get_or-map (λ (x : Class). x.spec) a.classes.items c k no_class_spec within ∙ ap (λ (x : Class). x.spec) (sym read) in
      omega (arith, free_within (store_of a) kept c, ap (λ (x : ClassSpec). x.count) spec)

  -- and of one that isn't
  pub info_past : length a.classes.items ≤ c → None ≡ slice_get (class_infos v.store) c
  info_past past = sym (info_is ∙ ap (option_map (λ (x : Class). info_of (x.spec, get_or a.blocks.rows.lists c []))) (slice_get_past a.classes.items c past))
