-- Copies of blocks, and which data blocks they take.
use Rattle.std.proofs.Common.{◌≡◌, ℕ, zero, suc, ◌+◌, ◌<◌, ◌≤◌, true, List, [], drop, length, Some, None, Err, refl, sym, ap, ◌∙◌, inl, inr, arith, ◌-◌, false, ◌∷◌, ◌++◌, take, get_or, set, Option, Result, Ok, subst, get_or-set_same, get_or-set_other}
use Rattle.std.specs.Prelude.{ok_or, option_map, slice_get, ◌⊎◌, ◌&&◌, min, nat_le}
use Rattle.std.specs.List.{flat_map, zip}
use Rattle.std.proofs.lemmas.Bool.{cases_lt, cond-true, cases_eq, le-leb, leb-true}
use Rattle.std.proofs.lemmas.List.{drop_all, get_or_past, append_assoc, get_or_default, length-drop, length-map, length-take}
use Rattle.std.proofs.lemmas.Option.{same_Some, slice_get-get_or, slice_get-map, slice_get_within, none-some}
use Rattle.std.proofs.lemmas.Slice.Zip.{get_or-zip, length-zip}
use Rattle.std.specs.Result.{is_ok}
use Rattle.std.proofs.lemmas.List.Folds.{Any-from_list_any, list_any_at}
use Rattle.strm_data.specs.declared.class_spec.ClassSpec.{ClassSpec}
use Rattle.strm_data.specs.declared.class_info.ClassInfo.{ClassInfo}
use Rattle.strm_data.specs.declared.refusal.Refusal.TheVariants.{NoData, TooLarge}
use Rattle.strm_data.specs.Classes.{fits_a_class}
use Rattle.strm_data.specs.CountedStore.{CountedStore, IsKept, IsUnused, after_take}
use Rattle.strm_data.specs.DataStore.{DataStore, IsTakenFrom, class_infos, class_spec_at, fitting_blocks, free_of, no_class_spec, take_data, capacity_of, class_of, data_block_at, bytes_overwritten, with_data_taken, with_kind}
use Rattle.strm_data.proofs.store.Lawful.{IsTakenFrom-found, fitting_from, fitting_from_next, if_fits, if_fits-empty, if_fits-small, lawful_rise, lawful_some}
use Rattle.strm_data.proofs.store.Kept.{length-class_infos, IsKept-altered, IsKept-take, first_unused}
use Rattle.strm_data.specs.declared.refusal.Refusal.{Refusal}
use Rattle.strm_data.proofs.Lists.{length-overwritten}
use Rattle.strm_mblk.specs.Copying.{AreLeft, IsLeft, with_copy}
use Rattle.strm_mblk.specs.Block.{Block, bytes_of_block, kind_of}
use Rattle.strm_mblk.specs.BlockCalls.{blocks_copied, copied_from, fits_classes, store_with_copy}
use Rattle.strm_mblk.specs.declared.blocks.Fields.{Fields}
use Rattle.strm_mblk.specs.BlocksLayout.{block_at, message_of}
use Rattle.strm_mblk.specs.Given.{and_then, answer_map}
use Rattle.strm_links.specs.ChainLists.{IsLawful, ChainLists, nodes_at}
use Rattle.strm_mblk.proofs.Lists.{slice_get-take, drop_from}
use Rattle.strm_mblk.proofs.layout.Rooms.{HasRooms, rooms-both, rooms-kind, rooms-set, rooms-taken}
use Rattle.strm_mblk.proofs.Nodes.{block_room}
use Rattle.std.proofs.lemmas.Grind.{common_steps}

-- ==== which size class gives a data block, by the number that each class has left

-- ---- what `class_info` returns of a class

pub record IsTold (s : DataStore) (c : ℕ) (info : ClassInfo) : Type 0 where
  pub there : c < length s.classes
  pub size : info.size ≡ (class_spec_at s c).size
  pub free : info.free ≡ length (free_of s c)

module _ {s : CountedStore} (kept : IsKept s) (c : ℕ) where
  pub told : {info : ClassInfo} → slice_get (class_infos s.store) c ≡ Some info → IsTold s.store c info
  told {info} is =
      let there : c < length s.store.classes = omega (arith, slice_get_within (class_infos s.store) c info is, length-class_infos s kept) in
      let both = zip s.store.classes s.store.free in
      let in_lists : c < length s.store.free = omega (arith, there, kept.lists) in
      let tell : ClassSpec × List ℕ → ClassInfo = λ p. record { size = p.0.size; free = length p.1; total = p.0.count } in
      let same : info ≡ tell (class_spec_at s.store c, free_of s.store c) =
      same_Some info _ (sym is ∙ slice_get-map tell both c
      ∙ ap (option_map tell) (slice_get-get_or both c (no_class_spec, []) (omega (arith, there, in_lists, length-zip s.store.classes s.store.free)))
      ∙ ap (λ p. Some (tell p)) (get_or-zip s.store.classes s.store.free c (no_class_spec, []) there in_lists)) in
      record { there = there; size = ap (λ (x : ClassInfo). x.size) same; free = ap (λ (x : ClassInfo). x.free) same }

  -- it returns nothing past the last
  pub untold : slice_get (class_infos s.store) c ≡ None → length s.store.classes ≤ c
  untold is =
      elim (cases_lt c (length s.store.classes)) [
        | inl there ↦
            absurd (none-some _ (sym is ∙ slice_get-get_or (class_infos s.store) c (record { size = 0; free = 0; total = 0 }) (omega (arith, there, length-class_infos s kept))))
        | inr past ↦ past
      ]

-- the classes that there are not have none free
pub free_past : {s : CountedStore} → IsKept s → (c : ℕ) → length s.store.classes ≤ c → length (free_of s.store c) ≡ 0
free_past {s} kept c past = ap length (get_or_past s.store.free c [] (omega (arith, past, kept.lists)))

-- ---- the search

module _ (size : ℕ) (s : DataStore) (lists : length s.free ≡ length s.classes) (left : List ℕ) (are : AreLeft left s) where
  gives_none : (k : ℕ) → k < length s.classes → (IsLeft size s.classes left k → ⊥) → if_fits size (class_spec_at s k, free_of s k) ≡ []
  gives_none k there none = grind (arith, common_steps, if_fits-small, if_fits-empty)

  searched : (c : ℕ) → c ≤ length s.classes → ((k : ℕ) → k < c → IsLeft size s.classes left k → ⊥) → fitting_blocks size s ≡ fitting_from size s c
  searched zero within none = refl
  searched (suc c) within none =
      let next : c + 1 ≡ suc c = omega arith in
      fitting_from_next size s c no_class_spec (omega (arith, within)) (omega (arith, within, lists)) (gives_none c (omega (arith, within)) (none c (omega arith)))
      (searched c (omega (arith, within)) (λ k below. none k (omega (arith, below))))
      ∙ ap (fitting_from size s) next

  -- the first class that serves gives its first free data block
  pub takes_left : {c : ℕ} → IsLeft size s.classes left c → ((k : ℕ) → k < c → IsLeft size s.classes left k → ⊥) → IsTakenFrom size s c
  takes_left is first = grind (arith, common_steps, IsTakenFrom-found, searched)

  -- if no class serves, nothing is taken
  pub takes_none : fits_a_class size s.classes ≡ true → ((k : ℕ) → IsLeft size s.classes left k → ⊥) → take_data size s ≡ Err NoData
  takes_none wide none =
      let found : fitting_blocks size s ≡ [] =
      searched (length s.classes) (omega arith) (λ k _. none k)
      ∙ ap (λ (cs : List ClassSpec). flat_map (if_fits size) (zip cs (drop (length s.classes) s.free))) (drop_all (length s.classes) s.classes (omega arith)) in
      cond-true _ (ok_or (slice_get (fitting_blocks size s) 0) NoData) (Err TooLarge) wide ∙ ap (λ (xs : List ℕ). ok_or (slice_get xs 0) NoData) found

-- ==== copies of blocks, one after the other

-- ---- answers

is_ok-map : {A B : Type 0} (f : A → B) (r : Result A Refusal) → is_ok (answer_map f r) ≡ is_ok r
is_ok-map f (Ok given) = refl
is_ok-map f (Err why) = refl

-- a refusal stays one
is_ok-refused : {A B : Type 0} (f : A → Result B Refusal) (r : Result A Refusal) → is_ok r ≡ false → is_ok (and_then f r) ≡ false
is_ok-refused f (Ok given) none = absurd (cc none)
is_ok-refused f (Err why) none = refl

-- copies, and the store that they leave
abbrev pub Made : Type 0
Made = List Block × DataStore

-- these copies come first
abbrev pub in_front : List Block → Made → Made
in_front made g = (made ++ g.0, g.1)

pub in_front_none : (r : Result Made Refusal) → r ≡ answer_map (in_front []) r
in_front_none (Ok given) = refl
in_front_none (Err why) = refl

in_front_more : (made : List Block) (b : Block) (r : Result Made Refusal) → answer_map (in_front made) (answer_map (in_front (b ∷ [])) r) ≡ answer_map (in_front (made ++ b ∷ [])) r
in_front_more made b (Ok given) = λ i. Ok (sym (append_assoc made (b ∷ []) given.0) i, given.1)
in_front_more made b (Err why) = refl

-- ---- the blocks that are copied

-- the next of the blocks, and those after it
pub next_block : (fields : List Fields) (ns : List ℕ) (count i : ℕ) {n : ℕ} → i < count → slice_get ns i ≡ Some n
    → drop i (take count (message_of fields ns)) ≡ block_at fields n ∷ drop (i + 1) (take count (message_of fields ns))
next_block fields ns count i {n} below is =
    drop_from (take count (message_of fields ns)) i (block_at fields n)
    (slice_get-take count i (message_of fields ns) below ∙ slice_get-map (block_at fields) ns i ∙ ap (option_map (block_at fields)) is)

-- each of them is one that there is
pub block_there : (fields : List Fields) {v : ChainLists} → IsLawful v → length fields ≡ length v.held → (h count k : ℕ) {b : Block} → slice_get (take count (message_of fields (nodes_at v h))) k ≡ Some b
    → (n : ℕ) × (n < length fields) × (block_at fields n ≡ b)
block_there fields {v} parted listed h count k {b} at =
    let ns = nodes_at v h in
    let bs = take count (message_of fields ns) in
    let n = get_or ns k 0 in
    let few : k < min count (length ns) = omega (arith, slice_get_within bs k b at, length-take count (message_of fields ns), length-map ns (block_at fields)) in
    let at_n : slice_get ns k ≡ Some n = slice_get-get_or ns k 0 (omega (arith, few)) in (
      n,
      omega (arith, listed, node_room v parted h k n at_n),
      same_Some _ _ (ap (option_map (block_at fields)) (sym at_n) ∙ sym (slice_get-map (block_at fields) ns k) ∙ sym (slice_get-take count k (message_of fields ns) (omega (arith, few))) ∙ at),
    )
  where
    -- a block of a held message is one of those that there are
    node_room : (v : ChainLists) → IsLawful v → (h k n : ℕ) → slice_get (nodes_at v h) k ≡ Some n → n < length v.held
    node_room v parted h k n at = grind (arith, common_steps, none-some, block_room)

-- the copies so far are `made`, in store t, and b is to be copied next
module _ (o : Option DataStore) (bs : List Block) (i : ℕ) (s t : DataStore) (made : List Block) (answer : blocks_copied o bs s ≡ answer_map (in_front made) (blocks_copied o (drop i bs) t)) (b : Block)
    (next : drop i bs ≡ b ∷ drop (i + 1) bs) where
  -- the copies from its data block on
  abbrev goes_on : ℕ → Result Made Refusal
  goes_on d = answer_map (in_front (record b { data_number = d } ∷ [])) (blocks_copied o (drop (i + 1) bs) (store_with_copy o b t d))

  next_answer : blocks_copied o bs s ≡ answer_map (in_front made) (and_then goes_on (take_data (capacity_of (copied_from o t) b.data_number) t))
  next_answer = answer ∙ ap (λ xs. answer_map (in_front made) (blocks_copied o xs t)) next

  pub answer_refused : {why : Refusal} → take_data (capacity_of (copied_from o t) b.data_number) t ≡ Err why → blocks_copied o bs s ≡ Err why
  answer_refused none = next_answer ∙ ap (λ r. answer_map (in_front made) (and_then goes_on r)) none

  pub answer_more : {d : ℕ} → take_data (capacity_of (copied_from o t) b.data_number) t ≡ Ok d
      → blocks_copied o bs s ≡ answer_map (in_front (made ++ record b { data_number = d } ∷ [])) (blocks_copied o (drop (i + 1) bs) (store_with_copy o b t d))
  answer_more taken = grind (arith, common_steps, next_answer, in_front_more)

  -- a data block can be taken where all can
  pub can_take : is_ok (blocks_copied o bs s) ≡ true → is_ok (take_data (capacity_of (copied_from o t) b.data_number) t) ≡ true
  can_take all = grind (arith, common_steps, is_ok-refused, is_ok-map, next_answer)

-- ---- one copy

-- the places of a block lie in its data block
abbrev pub IsInside : DataStore → Block → Type 0
IsInside s b = (b.data_number < length s.blocks) × (b.offset + b.len ≤ capacity_of s b.data_number)

-- its bytes are no more than its length
bytes_few : (s : DataStore) (b : Block) → length (bytes_of_block s b) ≤ b.len
bytes_few s b = omega (arith, length-take b.len (drop b.offset (data_block_at s b.data_number).bytes))

-- data blocks that are copied keep their capacity while those of the copies are taken
pub copied_room : (o : Option DataStore) {s t : DataStore} → HasRooms s t → (d : ℕ) → capacity_of (copied_from o t) d ≡ capacity_of (copied_from o s) d
copied_room None rooms d = rooms.room d
copied_room (Some other) rooms d = refl

-- and stay as many
copied_many : (o : Option DataStore) {s t : DataStore} → HasRooms s t → length (copied_from o t).blocks ≡ length (copied_from o s).blocks
copied_many None rooms = rooms.many
copied_many (Some other) rooms = refl

module _ (o : Option DataStore) (b : Block) (s : DataStore) (d : ℕ) (room : b.offset + b.len ≤ capacity_of s d) where
  -- the bytes that are copied
  abbrev bytes : List ℕ
  bytes = bytes_of_block (copied_from o s) b

  abbrev typed : DataStore
  typed = with_kind d (kind_of (copied_from o s) b) (with_data_taken d s)

  rooms_typed : HasRooms s typed
  rooms_typed = rooms-both (rooms-taken s d) (rooms-kind (with_data_taken d s) d (kind_of (copied_from o s) b))

  as_long : length (bytes_overwritten b.offset bytes (data_block_at typed d).bytes) ≡ capacity_of typed d
  as_long = length-overwritten b.offset bytes (data_block_at typed d).bytes (omega (arith, bytes_few (copied_from o s) b, room, rooms_typed.room d))

  -- data blocks keep their capacity when a copy is made
  pub rooms-copied : HasRooms s (store_with_copy o b s d)
  rooms-copied = rooms-both rooms_typed (rooms-set typed d (record (data_block_at typed d) { bytes = bytes_overwritten b.offset bytes (data_block_at typed d).bytes }) as_long)

-- what a copy leaves of which the data block is the first free one of class c
pub record HasCopy (o : Option DataStore) (b : Block) (s : CountedStore) (d c : ℕ) : Type 0 where
  pub taken : take_data (capacity_of (copied_from o s.store) b.data_number) s.store ≡ Ok d
  pub class : class_of s.store d ≡ c
  pub unused : IsUnused s d
  pub rooms : HasRooms s.store (store_with_copy o b s.store d)
  pub kept : IsKept (with_copy o b s d)

pub has_copy : (o : Option DataStore) (b : Block) {s : CountedStore} {c : ℕ} → IsKept s → b.offset + b.len ≤ capacity_of (copied_from o s.store) b.data_number → IsTakenFrom (capacity_of (copied_from o s.store) b.data_number) s.store c
    → HasCopy o b s (get_or (free_of s.store c) 0 0) c
has_copy o b {s} {c} kept within from =
    let d = get_or (free_of s.store c) 0 0 in
    let size = capacity_of (copied_from o s.store) b.data_number in
    let first = first_unused s kept c from.some in
    let room : b.offset + b.len ≤ capacity_of s.store d =
    omega (arith, within, from.wide, kept.sized d first.1.there, ap (λ k. (class_spec_at s.store k).size) first.0) in
    let taken : CountedStore = after_take s (Ok d) in
    let kept_taken : IsKept taken = subst (λ r. IsKept (after_take s r)) from.front (IsKept-take size s c from kept) in
    let kept_typed = IsKept-altered taken d (record (data_block_at taken.store d) { kind = kind_of (copied_from o s.store) b }) refl refl kept_taken in
    let now = typed o b s.store d room in
    record {
      taken = from.front;
      class = first.0;
      unused = first.1;
      rooms = rooms-copied o b s.store d room;
      kept =
          IsKept-altered (record taken { store = now }) d (record (data_block_at now d) { bytes = bytes_overwritten b.offset (bytes o b s.store d room) (data_block_at now d).bytes })
          refl (as_long o b s.store d room) kept_typed;
    }

-- ---- whether the data blocks suffice

-- a data block's own class fits its capacity
fits_own : {s : CountedStore} → IsKept s → (d : ℕ) → d < length s.store.blocks → fits_a_class (capacity_of s.store d) s.store.classes ≡ true
fits_own kept d there = grind (arith, common_steps, list_any_at, le-leb)

-- so a class fits each block of a message in the same store
pub fits_each : {s : CountedStore} → IsKept s → (bs : List Block) → ((k : ℕ) (b : Block) → slice_get bs k ≡ Some b → b.data_number < length s.store.blocks) → fits_classes s.store bs s.store ≡ true
fits_each kept [] there = refl
fits_each kept (b ∷ bs) there = λ i. fits_own kept b.data_number (there 0 b refl) i && fits_each kept bs (λ k x at. there (suc k) x at) i

-- what would be left after copies of the blocks before i, which are `made`
pub record IsAhead (o : Option DataStore) (bs : List Block) (i : ℕ) (s t : CountedStore) (left : List ℕ) : Type 0 where
  pub kept : IsKept t
  pub rooms : HasRooms s.store t.store
  pub classes : t.store.classes ≡ s.store.classes
  pub are : AreLeft left t.store
  pub made : List Block
  pub answer : blocks_copied o bs s.store ≡ answer_map (in_front made) (blocks_copied o (drop i bs) t.store)

-- one of a class was taken
left_less : {o : Option DataStore} {b : Block} {s : CountedStore} {d c : ℕ} (left : List ℕ) → IsKept s → HasCopy o b s d c → AreLeft left s.store → 0 < get_or left c 0
    → AreLeft (set left c (get_or left c 0 - 1)) (store_with_copy o b s.store d)
left_less {o} {b} {s} {d} {c} left kept copy are some k =
    let counted : c < length left = elim (cases_lt c (length left)) [ inl inside ↦ inside | inr past ↦ absurd (omega (arith, some, get_or_past left c 0 past)) ] in
    let listed : c < length s.store.free = omega (arith, copy.unused.classed, copy.class, kept.lists) in
    let lists : (store_with_copy o b s.store d).free ≡ set s.store.free c (drop 1 (free_of s.store c)) = ap (λ j. set s.store.free j (drop 1 (free_of s.store j))) copy.class in
    elim (cases_eq k c) [
      | inl same ↦
          rw same (get_or-set_same left c (get_or left c 0 - 1) 0 counted ∙ ap (λ n. n - 1) (are c) ∙ sym (length-drop 1 (free_of s.store c))
          ∙ sym (ap (λ (fs : List (List ℕ)). length (get_or fs c [])) lists ∙ ap length (get_or-set_same s.store.free c (drop 1 (free_of s.store c)) [] listed)))
      | inr other ↦
          get_or-set_other left c k (get_or left c 0 - 1) 0 other ∙ are k
          ∙ sym (ap (λ (fs : List (List ℕ)). length (get_or fs k [])) lists ∙ ap length (get_or-set_other s.store.free c k (drop 1 (free_of s.store c)) [] other))
    ]

module _ {o : Option DataStore} {bs : List Block} {i : ℕ} {s t : CountedStore} {left : List ℕ} (ahead : IsAhead o bs i s t left) (b : Block) (next : drop i bs ≡ b ∷ drop (i + 1) bs)
    (inside : IsInside (copied_from o s.store) b) (wide : fits_a_class (capacity_of (copied_from o s.store) b.data_number) s.store.classes ≡ true) where
  -- the capacity to look up
  abbrev asked : ℕ
  asked = capacity_of (copied_from o s.store) b.data_number

  -- a class serves for the store as it would be where it does for the store as it is
  as_wide : ◌≡◌ {A = ℕ × List ClassSpec} (capacity_of (copied_from o t.store) b.data_number, t.store.classes) (asked, s.store.classes)
  as_wide = λ i. (copied_room o ahead.rooms b.data_number i, ahead.classes i)

  served : {k : ℕ} → IsLeft (capacity_of (copied_from o t.store) b.data_number) t.store.classes left k → IsLeft asked s.store.classes left k
  served {k} = subst (λ (p : ℕ × List ClassSpec). IsLeft p.0 p.1 left k) as_wide

  -- none is left for the next block
  pub none_ahead : ((k : ℕ) → IsLeft asked s.store.classes left k → ⊥) → blocks_copied o bs s.store ≡ Err NoData
  none_ahead none =
      answer_refused o bs i s.store t.store ahead.made ahead.answer b next
      (takes_none (capacity_of (copied_from o t.store) b.data_number) t.store ahead.kept.lists left ahead.are (subst (λ (p : ℕ × List ClassSpec). fits_a_class p.0 p.1 ≡ true) (sym as_wide) wide)
      (λ k is. none k (served is)))

  -- the first class that serves loses one
  pub next_ahead : (c : ℕ) → IsLeft asked s.store.classes left c → ((k : ℕ) → k < c → IsLeft asked s.store.classes left k → ⊥)
      → (u : CountedStore) × IsAhead o bs (i + 1) s u (set left c (get_or left c 0 - 1))
  next_ahead c is first =
      let from =
      takes_left (capacity_of (copied_from o t.store) b.data_number) t.store ahead.kept.lists left ahead.are (subst (λ (p : ℕ × List ClassSpec). IsLeft p.0 p.1 left c) (sym as_wide) is) (λ k below other. first k below (served other)) in
      let d = get_or (free_of t.store c) 0 0 in
      let copy = has_copy o b ahead.kept (omega (arith, inside.1, copied_room o ahead.rooms b.data_number)) from in (
        with_copy o b t d,
        record {
          kept = copy.kept;
          rooms = rooms-both ahead.rooms copy.rooms;
          classes = ahead.classes;
          are = left_less left ahead.kept copy ahead.are is.some;
          made = ahead.made ++ record b { data_number = d } ∷ [];
          answer = answer_more o bs i s.store t.store ahead.made ahead.answer b next copy.taken;
        },
      )

-- ---- where the largest class has enough

-- the first class that serves
pub record IsFirstLeft (size : ℕ) (classes : List ClassSpec) (left : List ℕ) (c : ℕ) : Type 0 where
  pub is : IsLeft size classes left c
  pub first : (k : ℕ) → k < c → IsLeft size classes left k → ⊥

module _ (size : ℕ) (classes : List ClassSpec) (left : List ℕ) where
  is_left : (c : ℕ) → IsLeft size classes left c ⊎ (IsLeft size classes left c → ⊥)
  is_left c = grind (arith, common_steps)

  first_from : (steps c : ℕ) {last : ℕ} → c + steps ≡ last → IsLeft size classes left last → ((k : ℕ) → k < c → IsLeft size classes left k → ⊥) → (f : ℕ) × IsFirstLeft size classes left f
  first_from zero c {last} at is none = (c, record { is = subst (IsLeft size classes left) (let e : last ≡ c = omega (arith, at) in e) is; first = none })
  first_from (suc steps) c at is none =
      elim (is_left c) [
        | inl here ↦ (c, record { is = here; first = none })
        | inr not ↦
            first_from steps (suc c) (omega (arith, at)) is
            (λ k below other. elim (cases_eq k c) [
              | inl same ↦ not (subst (IsLeft size classes left) same other)
              | inr before ↦ none k (omega (arith, below, before)) other
            ])
      ]

-- a class has one less at most once one was taken
still_left : (left : List ℕ) (last c n : ℕ) → suc n ≤ get_or left last 0 → n ≤ get_or (set left c (get_or left c 0 - 1)) last 0
still_left left last c n many = grind (arith, common_steps, get_or_past, get_or-set_same, get_or-set_other)

-- a size that fits a class fits the largest
fits_largest : (size : ℕ) {s : CountedStore} → IsKept s → fits_a_class size s.store.classes ≡ true → size ≤ (class_spec_at s.store (length s.store.classes - 1)).size
fits_largest size {s} kept fits =
    let classes = s.store.classes in
    let any = Any-from_list_any (λ (c : ClassSpec). nat_le size c.size) classes fits in
    omega (
      arith,
      leb-true size any.1.size any.4,
      ap (λ (c : ClassSpec). c.size) (sym any.3 ∙ get_or_default classes any.0 any.1 no_class_spec any.2),
      lawful_rise classes kept.lawful any.0 (length classes - 1) (omega (arith, any.2)) (omega (arith, lawful_some classes kept.lawful)),
    )

-- all can be made where the largest class has as many data blocks left
pub enough_left : (o : Option DataStore) (bs : List Block) {s : CountedStore} (left : List ℕ) → IsKept s → AreLeft left s.store
    → ((k : ℕ) (b : Block) → slice_get bs k ≡ Some b → IsInside (copied_from o s.store) b × (fits_a_class (capacity_of (copied_from o s.store) b.data_number) s.store.classes ≡ true))
    → length bs ≤ get_or left (length s.store.classes - 1) 0 → is_ok (blocks_copied o bs s.store) ≡ true
enough_left o [] left kept are inside many = refl
enough_left o (b ∷ bs) {s} left kept are inside many =
    let classes = s.store.classes in
    let last = length classes - 1 in
    let size = capacity_of (copied_from o s.store) b.data_number in
    let here = inside 0 b refl in
    let widest : IsLeft size classes left last = record {
      there = omega (arith, lawful_some classes kept.lawful);
      wide = fits_largest size kept here.1;
      some = omega (arith, many);
    } in
    let found = first_from size classes left last 0 (omega arith) widest (λ k below. absurd (omega (arith, below))) in
    let c = found.0 in
    let d = get_or (free_of s.store c) 0 0 in
    let copy = has_copy o b kept here.0.1 (takes_left size s.store kept.lists left are found.1.is found.1.first) in
    ap (λ r. is_ok (and_then (λ e. answer_map (in_front (record b { data_number = e } ∷ [])) (blocks_copied o bs (store_with_copy o b s.store e))) r)) copy.taken
    ∙ is_ok-map (in_front (record b { data_number = d } ∷ [])) (blocks_copied o bs (store_with_copy o b s.store d))
    ∙ enough_left o bs (set left c (get_or left c 0 - 1)) copy.kept (left_less left kept copy are found.1.is.some)
    (λ k x at.
    let was = inside (suc k) x at in
    let room = copied_room o copy.rooms x.data_number in (
      (omega (arith, was.0.0, copied_many o copy.rooms), omega (arith, was.0.1, room)),
      ap (λ n. fits_a_class n classes) room ∙ was.1,
    ))
    (still_left left last c (length bs) (omega (arith, many)))
