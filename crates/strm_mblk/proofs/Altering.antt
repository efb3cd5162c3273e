-- Calls that alter a block.
use Rattle.std.proofs.Common.{◌≡◌, ℕ, zero, ◌+◌, ◌^◌, ◌<◌, ◌≤◌, List, length, Option, None, Ok, Some, refl, ap, ◌∙◌, arith, set, sym, subst, get_or-set_same, ◌-◌, Bool, true, false, ◌&&◌, ◌||◌, [], ◌∷◌, ◌++◌, drop, take, get_or, inl, inr, get_or-set_other, suc, length-set, Result, Err, map}
use Rattle.std.specs.Prelude.{ok_or, slice_get, ◌⊎◌, count_by, min, nat_lt, not, option_map}
use Rattle.std.proofs.lemmas.Option.{same_Some, slice_get-get_or, slice_get-map}
use Rattle.std.proofs.lemmas.Bool.{cases_eq, cases_lt, false≢true, lt-ltb, cases_Bool, cond-true, cond-false, le-ltb}
use Rattle.std.proofs.Math.Bool.{or-false}
use Rattle.std.proofs.Math.Seq.{drop-nil, take-length, take-nil}
use Rattle.std.proofs.lemmas.List.{drop_all, length-drop, set-get_or, set_past, take-append-drop}
use Rattle.std.proofs.lemmas.List.Sums.{sum_by-append}
use Rattle.std.proofs.Math.Nat.{min-le_left, min-le_right}
use Rattle.strm_data.specs.declared.refusal.Refusal.TheVariants.{NoSuchBlock, NoRoom, Shared}
use Rattle.strm_data.specs.DataStore.{capacity_of, DataStore, data_block_at, no_data_block, with_bytes_written, DataBlock, with_kind, times}
use Rattle.strm_data.specs.CountedStore.{CountedStore, IsKept}
use Rattle.strm_mblk.specs.declared.blocks.Fields.{Fields}
use Rattle.strm_mblk.specs.Arena.{Arena, message_at, with_message, held_at, references_to, shelved_blocks, without_held, has}
use Rattle.strm_mblk.specs.Block.{Block, Message, uses_data, kind_of, size_of}
use Rattle.strm_mblk.specs.BlockCalls.{block_found, own_block, with_bytes, with_block}
use Rattle.strm_mblk.specs.BlocksLayout.{Suits, IsFilled, IsPlaced, arena_of, block_at, block_of, no_fields, fields_at, fields_shaped, message_of, with_shapes}
use Rattle.strm_links.specs.ChainLists.{ChainLists, nodes_at}
use Rattle.strm_mblk.specs.Calls.{Alters, itself}
use Rattle.strm_mblk.specs.InPlace.{bytes_within, overwrite, store_overwritten, touches_shared, blocks_shaped, shape_fits, shapes_fit, store_retyped}
use Rattle.strm_mblk.specs.Messages.{blocks_of, held_in}
use Rattle.strm_data.specs.declared.refusal.Refusal.{Refusal}
use Rattle.strm_data.specs.declared.msg_type.MsgType.{MsgType}
use denote.Enum.Bare.{sameb}
use Rattle.strm_data.specs.contracts.msg_type.MsgType.{the_type}
use Rattle.strm_data.specs.MsgType.{same_kind}
use Rattle.strm_links.proofs.lists.Counting.{times-cons, times_here}
use Rattle.strm_mblk.specs.declared.block_place.Shape.{Shape}
use Rattle.strm_mblk.specs.declared.token.TokenValue.{TokenValue}
use Rattle.strm_mblk.specs.Frame.{LeavesOthers}
use Rattle.strm_mblk.specs.Given.{and_then}
use Rattle.std.proofs.lemmas.Grind.{common_steps}
use Rattle.strm_mblk.proofs.Trimming.{same_kind-one}
use Rattle.strm_mblk.proofs.layout.StoredArena.{alike_off, message-alike, message_at-seen}
use Rattle.strm_mblk.proofs.arena.Frame.{own_is, Leaves, held_named, leaves_data, naming_at, other_head, shelved_named, others_one}
use Rattle.strm_mblk.proofs.layout.Rooms.{rooms-written, HasRooms, rooms-both, rooms-kind}
use Rattle.strm_mblk.proofs.layout.HeldBlocks.{IsAt, block_given, rewrite_filled, written_shows, AreRewritten, message_filled, message_shows, once_within, token_held, within_room}
use Rattle.strm_mblk.proofs.arena.Calls.{alters_to}
use Rattle.strm_mblk.proofs.arena.Counts.{out_of_held, IsHad, had_again, had_message, held_within}
use Rattle.strm_mblk.proofs.Lists.{count_adds, drop_from}

-- ==== a block that a call found gets other fields, also one that alone uses its data block

some_of_ok : (o : Option Block) {x : Block} → ok_or o NoSuchBlock ≡ Ok x → o ≡ Some x
some_of_ok None is = absurd cc
some_of_ok (Some b) {x} is = let same : b ≡ x = cc in ap (λ (c : Block). Some c) same

pub found_at : (a : Arena) (h k : ℕ) {x : Block} → block_found h k a ≡ Ok x → slice_get (message_at a h) k ≡ Some x
found_at a h k is = some_of_ok (slice_get (message_at a h) k) is

pub suits_found : (a : Arena) (h k : ℕ) {x : Block} → slice_get (message_at a h) k ≡ Some x → (f : Fields) → f.data_number ≡ x.data_number → f.offset + f.len ≤ capacity_of a.store f.data_number → f.band < 2 ^ 8
    → Suits a x.number f
suits_found a h k {x} found f same room banded = record { head = h; place = k; block = x; found = found; number = refl; same = same; room = room; banded = banded }

module _ (a : Arena) (h k : ℕ) {x : Block} (own : own_block h k a ≡ Ok x) where
  pub found_own : slice_get (message_at a h) k ≡ Some x
  found_own = (own_is a h k own).found

  -- also once bytes are in its data block
  module _ (at : ℕ) (bytes : List ℕ) {b : Arena} (is : b ≡ with_bytes x.data_number at bytes a) where
    pub found_written : slice_get (message_at b h) k ≡ Some x
    found_written = ap (λ c. slice_get (message_at c h) k) is ∙ found_own

    pub suits_written : at + length bytes ≤ capacity_of a.store x.data_number → (f : Fields) → f.data_number ≡ x.data_number → f.offset + f.len ≤ capacity_of a.store f.data_number → f.band < 2 ^ 8 → Suits b x.number f
    suits_written within f same room banded = record {
      head = h;
      place = k;
      block = x;
      found = found_written;
      number = refl;
      same = same;
      room = omega (arith, room, (rooms-written a.store x.data_number at bytes within).room f.data_number, ap (λ (c : Arena). capacity_of c.store f.data_number) is);
      banded = banded;
    }

-- ==== a block of a held message gets other fields

module _ {id : ℕ} {s : CountedStore} {fields : List Fields} {v : ChainLists} (filled : IsFilled s fields v (arena_of id s.store fields v)) {a : Arena} (is : arena_of id s.store fields v ≡ a)
    (n h k : ℕ) (b : Block) (found : slice_get (message_at a h) k ≡ Some b) (number : b.number ≡ n) where
  is_at : IsAt s fields v a h k n (nodes_at v h)
  is_at = subst (λ m. IsAt s fields v a h k m (nodes_at v h)) number (block_given filled is h k found)

  pub number_there : n < length fields
  number_there = is_at.there

  -- the fields are those of the block
  block_is : block_at fields n ≡ b
  block_is = same_Some (block_at fields n) b (sym is_at.block ∙ found)

  module _ (x : Fields) where
    pub fields_show : arena_of id s.store (set fields n x) v ≡ with_block h k (block_of n x) a
    fields_show =
        written_shows filled h k is_at.held is_at.at s.store x
        ∙ (λ i. with_message h (set (sym is_at.message i) k (block_of n (get_or-set_same fields n x no_fields is_at.there i))) (is i))

    pub fields_filled : x.data_number ≡ b.data_number → IsPlaced s.store x → IsFilled s (set fields n x) v (arena_of id s.store (set fields n x) v)
    fields_filled same placed =
        rewrite_filled filled h k is_at.held is_at.at filled.kept refl (record { many = refl; room = λ d. refl }) placed
        (same ∙ ap (λ (c : Block). c.data_number) (sym block_is))

    -- its data block is there
    pub data_there : x.data_number ≡ b.data_number → x.data_number < length s.store.blocks
    data_there same = subst (λ d. d < length s.store.blocks) (ap (λ (c : Block). c.data_number) block_is ∙ sym same) is_at.placed.there

-- ==== bytes of a message from a place on

-- what a walk from a place on finds it finds from the block on that has the place, if it finds nothing in the blocks before
pub from_block : {X : Type 0} (f : ℕ → Message → X) (IsFit : Block → Type 0) → ((at : ℕ) (b : Block) (m : Message) → IsFit b → b.len ≤ at → f at (b ∷ m) ≡ f (at - b.len) m)
    → (m : Message) → ((k : ℕ) (b : Block) → slice_get m k ≡ Some b → IsFit b) → (k skip at : ℕ) → size_of (take k m) + skip ≡ at → f at m ≡ f skip (drop k m)
from_block f IsFit next m fit zero skip at is = ap (λ n. f n m) (omega (arith, is))
from_block f IsFit next [] fit (suc k) skip at is = ap (λ n. f n []) (omega (arith, is))
from_block f IsFit next (b ∷ m) fit (suc k) skip at is =
    let size = sum_by-append (λ (c : Block). c.len) (b ∷ []) (take k m) in
    next at b m (fit 0 b refl) (omega (arith, is, size)) ∙ from_block f IsFit next m (λ j. fit (suc j)) k skip (at - b.len) (omega (arith, is, size))

-- a message is its first blocks and the others
pub size_parts : (m : Message) (k : ℕ) → size_of m ≡ size_of (take k m) + size_of (drop k m)
size_parts m k = sym (ap size_of (take-append-drop k m)) ∙ sum_by-append (λ (c : Block). c.len) (take k m) (drop k m)

-- and those from a block on are it and those after it
pub size_next : (m : Message) (k : ℕ) {b : Block} → slice_get m k ≡ Some b → size_of (drop k m) ≡ b.len + size_of (drop (k + 1) m)
size_next m k {b} is = omega (arith, ap size_of (drop_from m k b is), sum_by-append (λ (c : Block). c.len) (b ∷ []) (drop (k + 1) m))

-- ==== bytes are written over those of a message, block by block

-- what is written is within the places of its block
pub written_within : (offset len capacity skip n : ℕ) → offset + len ≤ capacity → offset + min skip len + min n (len - skip) ≤ capacity
written_within offset len capacity skip n within = omega (arith, within, min-le_left skip len, min-le_right skip len, min-le_right n (len - skip))

pub and_false : (b : Bool) → (b && false) ≡ false
and_false true = refl
and_false false = refl

module _ (m : Message) (k : ℕ) {b : Block} (is : slice_get m k ≡ Some b) where
  -- the bytes from block k on are those in it, and those behind it
  pub touches_next : (a : Arena) (skip left : ℕ) → touches_shared a skip left (drop k m)
      ≡ ((nat_lt 0 (bytes_within skip left b) && nat_lt 1 (references_to a b.data_number)) || touches_shared a (skip - b.len) (left - bytes_within skip left b) (drop (k + 1) m))
  touches_next a skip left = ap (touches_shared a skip left) (drop_from m k b is)

  pub overwritten_next : (s : DataStore) (skip : ℕ) (rest : List ℕ) → store_overwritten skip rest (drop k m) s
      ≡ store_overwritten (skip - b.len) (drop (bytes_within skip (length rest) b) rest) (drop (k + 1) m)
      (with_bytes_written b.data_number (b.offset + min skip b.len) (take (bytes_within skip (length rest) b) rest) s)
  overwritten_next s skip rest = ap (λ bs. store_overwritten skip rest bs s) (drop_from m k b is)

-- ---- data blocks that stay

-- where nothing is written nothing changes
unwritten : (s : DataStore) (d p : ℕ) → with_bytes_written d p [] s ≡ s
unwritten s d p =
    let b = data_block_at s d in
    let start : p + 0 ≡ p = omega arith in
    let same : take p b.bytes ++ drop (p + 0) b.bytes ≡ b.bytes = ap (λ n. take p b.bytes ++ drop n b.bytes) start ∙ take-append-drop p b.bytes in
    ap (λ bytes. record s { blocks = set s.blocks d (record b { bytes = bytes }) }) same ∙ ap (λ xs. record s { blocks = xs }) (set-get_or s.blocks d no_data_block)

pub overwritten_nothing : (at : ℕ) (m : Message) (s : DataStore) → store_overwritten at [] m s ≡ s
overwritten_nothing at [] s = refl
overwritten_nothing at (b ∷ bs) s =
    let n = bytes_within at 0 b in
    (λ i. store_overwritten (at - b.len) (drop-nil n i) bs (with_bytes_written b.data_number (b.offset + min at b.len) (take-nil n i) s))
    ∙ ap (store_overwritten (at - b.len) [] bs) (unwritten s b.data_number (b.offset + min at b.len))
    ∙ overwritten_nothing (at - b.len) bs s

-- and no data block is touched
pub touches_nothing : (a : Arena) (at : ℕ) (m : Message) → touches_shared a at 0 m ≡ false
touches_nothing a at [] = refl
touches_nothing a at (b ∷ bs) =
    let none : bytes_within at 0 b ≡ 0 = omega (arith, min-le_left 0 (b.len - at)) in
    ap (λ n. (nat_lt 0 n && nat_lt 1 (references_to a b.data_number)) || touches_shared a (at - b.len) (0 - n) bs) none ∙ touches_nothing a (at - b.len) bs

-- ---- all n bytes are in one block

-- a block with no byte from a place on is passed
touches_past : (a : Arena) (n at : ℕ) (b : Block) (m : Message) → b.len ≤ at → touches_shared a at n (b ∷ m) ≡ touches_shared a (at - b.len) n m
touches_past a n at b m past =
    let none : bytes_within at n b ≡ 0 = omega (arith, past) in
    let left : n - 0 ≡ n = omega arith in
    ap (λ k. (nat_lt 0 k && nat_lt 1 (references_to a b.data_number)) || touches_shared a (at - b.len) (n - k) m) none ∙ ap (λ k. touches_shared a (at - b.len) k m) left

overwritten_past : (bytes : List ℕ) (s : DataStore) (at : ℕ) (b : Block) (m : Message) → b.len ≤ at → store_overwritten at bytes (b ∷ m) s ≡ store_overwritten (at - b.len) bytes m s
overwritten_past bytes s at b m past =
    let none : bytes_within at (length bytes) b ≡ 0 = omega (arith, past) in
    (λ i. store_overwritten (at - b.len) (drop (none i) bytes) m (with_bytes_written b.data_number (b.offset + min at b.len) (take (none i) bytes) s))
    ∙ ap (store_overwritten (at - b.len) bytes m) (unwritten s b.data_number (b.offset + min at b.len))

module _ (m : Message) (k : ℕ) {b : Block} (is : slice_get m k ≡ Some b) (skip : ℕ) {at : ℕ} (before : size_of (take k m) + skip ≡ at) (bytes : List ℕ) (inside : skip + length bytes ≤ b.len) where
  -- the message has them
  pub one_long : at + length bytes ≤ size_of m
  one_long = omega (arith, inside, before, size_parts m k, size_next m k is)

  all : bytes_within skip (length bytes) b ≡ length bytes
  all = omega (arith, inside)

  -- they are shared if there are any and its data block is
  pub one_touched : (a : Arena) → touches_shared a at (length bytes) m ≡ (nat_lt 0 (length bytes) && nat_lt 1 (references_to a b.data_number))
  one_touched a =
      let many = nat_lt 1 (references_to a b.data_number) in
      let behind = drop (k + 1) m in
      let none : length bytes - length bytes ≡ 0 = omega arith in
      from_block (λ p bs. touches_shared a p (length bytes) bs) (λ c. Unit {0}) (λ p c bs fit past. touches_past a (length bytes) p c bs past) m (λ j c found. tt) k skip at before
      ∙ touches_next m k is a skip (length bytes)
      ∙ ap (λ n. (nat_lt 0 n && many) || touches_shared a (skip - b.len) (length bytes - n) behind) all
      ∙ ap (λ n. (nat_lt 0 (length bytes) && many) || touches_shared a (skip - b.len) n behind) none
      ∙ ap (λ t. (nat_lt 0 (length bytes) && many) || t) (touches_nothing a (skip - b.len) behind)
      ∙ or-false (nat_lt 0 (length bytes) && many)

  -- they alone are written
  pub one_overwritten : (s : DataStore) → store_overwritten at bytes m s ≡ with_bytes_written b.data_number (b.offset + skip) bytes s
  one_overwritten s =
      let behind = drop (k + 1) m in
      let short : min skip b.len ≡ skip = omega (arith, inside) in
      from_block (λ p bs. store_overwritten p bytes bs s) (λ c. Unit {0}) (λ p c bs fit past. overwritten_past bytes s p c bs past) m (λ j c found. tt) k skip at before
      ∙ overwritten_next m k is s skip bytes
      ∙ (λ i. store_overwritten (skip - b.len) (drop (all i) bytes) behind (with_bytes_written b.data_number (b.offset + short i) (take (all i) bytes) s))
      ∙ (λ i. store_overwritten (skip - b.len) (drop_all (length bytes) bytes (omega arith) i) behind (with_bytes_written b.data_number (b.offset + skip) (take-length bytes i) s))
      ∙ overwritten_nothing (skip - b.len) behind (with_bytes_written b.data_number (b.offset + skip) bytes s)

either : (b c : Bool) → (b || c) ≡ false → (b ≡ false) × (c ≡ false)
either true c is = absurd cc
either false c is = (refl, is)

-- none of n bytes is written if none is in an unshared data block
none_here : (n r : ℕ) → (nat_lt 0 n && nat_lt 1 r) ≡ false → 1 < r → n ≡ 0
none_here n r none many =
    elim (cases_lt 0 n) [
      | inl some ↦ absurd (false≢true (sym none ∙ ap (λ p. p && nat_lt 1 r) (lt-ltb 0 n some) ∙ lt-ltb 1 r many))
      | inr few ↦ omega (arith, few)
    ]

-- what is true of all blocks of a message is so of those after the first
used_behind : (d : ℕ) (b : Block) (bs : List Block) (r : ℕ) → (count_by (uses_data d) (b ∷ bs) ≡ 0) ⊎ (1 < r) → (count_by (uses_data d) bs ≡ 0) ⊎ (1 < r)
used_behind d b bs r (inl unused) = inl (omega (arith, unused, (count_adds (uses_data d)).both (b ∷ []) bs))
used_behind d b bs r (inr many) = inr many

-- and of the first
used_here : {d : ℕ} (b : Block) (bs : List Block) (r : ℕ) → b.data_number ≡ d → (count_by (uses_data d) (b ∷ bs) ≡ 0) ⊎ (1 < r) → 1 < r
used_here b bs r same (inl unused) = absurd (omega (arith, unused, naming_at (b ∷ bs) 0 b refl, ap (λ e. count_by (uses_data e) (b ∷ bs)) same))
used_here b bs r same (inr many) = many

-- a data block stays that no block of the message uses, or that has other references
other_stays : (a : Arena) (d at : ℕ) (bytes : List ℕ) (m : Message) (s : DataStore) → touches_shared a at (length bytes) m ≡ false → (count_by (uses_data d) m ≡ 0) ⊎ (1 < references_to a d)
    → data_block_at (store_overwritten at bytes m s) d ≡ data_block_at s d
other_stays a d at bytes [] s none why = refl
other_stays a d at bytes (b ∷ bs) s none why =
    let n = bytes_within at (length bytes) b in
    let parts = either (nat_lt 0 n && nat_lt 1 (references_to a b.data_number)) (touches_shared a (at - b.len) (length bytes - n) bs) none in
    other_stays a d (at - b.len) (drop n bytes) bs (with_bytes_written b.data_number (b.offset + min at b.len) (take n bytes) s)
    (ap (λ l. touches_shared a (at - b.len) l bs) (length-drop n bytes) ∙ parts.1) (used_behind d b bs _ why)
    ∙ here n parts.0 (cases_eq b.data_number d)
  where
    here : (n : ℕ) → (nat_lt 0 n && nat_lt 1 (references_to a b.data_number)) ≡ false → (b.data_number ≡ d) ⊎ (b.data_number ≡ d → ⊥)
        → data_block_at (with_bytes_written b.data_number (b.offset + min at b.len) (take n bytes) s) d ≡ data_block_at s d
    here n few (inr other) = get_or-set_other s.blocks b.data_number d _ no_data_block (λ same. other (sym same))
    here n few (inl same) =
        let nothing = none_here n (references_to a b.data_number) few (subst (λ e. 1 < references_to a e) (sym same) (used_here b bs _ same why)) in
        subst (λ e. data_block_at (with_bytes_written e (b.offset + min at b.len) (take n bytes) s) d ≡ data_block_at s d) (sym same)
        (ap (λ k. data_block_at (with_bytes_written d (b.offset + min at b.len) (take k bytes) s) d) nothing ∙ ap (λ x. data_block_at x d) (unwritten s d (b.offset + min at b.len)))

-- what a call leaves that changes only the message held at h, if a data block stays that no block of this message uses, or that another
-- message uses too
module _ (a : Arena) (h : ℕ) {m : Message} (is : held_at a h ≡ Some m) (new : Arena) (others : LeavesOthers (h ∷ []) a new) (shelves : new.shelves ≡ a.shelves)
    (stays : (d : ℕ) → (count_by (uses_data d) m ≡ 0) ⊎ (1 < references_to a d) → data_block_at new.store d ≡ data_block_at a.store d) where
  stays_beside : (d n : ℕ) → 0 < n → n + count_by (uses_data d) m ≤ references_to a d → data_block_at new.store d ≡ data_block_at a.store d
  stays_beside d n some within =
      stays d (elim (cases_lt 0 (count_by (uses_data d) m)) [ inl used ↦ inr (omega (arith, some, within, used)) | inr unused ↦ inl (omega (arith, unused)) ])

  leaves_beside : Leaves (h ∷ []) a new
  leaves_beside =
      leaves_data others shelves
      (λ d some. stays_beside d (count_by (uses_data d) (shelved_blocks a)) some (omega (arith, out_of_held a h (uses_data d) is, shelved_named (without_held h a) d)))
      (λ g d other some.
      stays_beside d (count_by (uses_data d) (message_at a g)) some
      (omega (
        arith,
        out_of_held a h (uses_data d) is,
        held_named (without_held h a) g d,
        ap (λ o. count_by (uses_data d) (blocks_of o)) (get_or-set_other a.held h g None None (other_head g h [] other)),
      )))

-- what a call leaves that writes over bytes of the message held at h
pub leaves_overwritten : (a : Arena) (h : ℕ) {m : Message} → held_at a h ≡ Some m → (at : ℕ) (bytes : List ℕ) → touches_shared a at (length bytes) m ≡ false → Leaves (h ∷ []) a (record a { store = store_overwritten at bytes m a.store })
leaves_overwritten a h {m} is at bytes none =
    leaves_beside a h is (record a { store = store_overwritten at bytes m a.store }) (record { id = refl; size = refl; held = λ g other. refl }) refl (λ d. other_stays a d at bytes m a.store none)

-- the message of a token is overwritten, which has these bytes, none of them in a data block that another block uses
pub alters_overwritten : (a : Arena) {b : Arena} (t : TokenValue) → has a t ≡ true → (at : ℕ) (bytes : List ℕ) → nat_lt (size_of (message_at a t.head)) (at + length bytes) ≡ false
    → touches_shared a at (length bytes) (message_at a t.head) ≡ false → b ≡ record a { store = store_overwritten at bytes (message_at a t.head) a.store }
    → Alters itself t t (overwrite t.head at bytes a) a b (Ok tt)
alters_overwritten a {b} t had at bytes few none now =
    let message = had_message a t had in
    let held : held_at a t.head ≡ Some (message_at a t.head) = message.1.held ∙ ap Some (sym (ap blocks_of message.1.held)) in
    alters_to a b t (overwrite t.head at bytes a) tt
    (cond-false _ _ _ few ∙ cond-false _ _ _ none ∙ ap (λ (x : Arena). Ok (tt, x)) (sym now))
    (subst (λ x. has x t ≡ true) (sym now) had)
    (subst (Leaves (t.head ∷ []) a) (sym now) (leaves_overwritten a t.head held at bytes none))

-- ==== the first blocks of a message get shapes, one after the other

-- an item of a list is this shape
pub shape_at : {X : Type 0} (f : X → Shape) (xs : List X) (k : ℕ) {x : X} {s : Shape} → k < length xs → x ≡ get_or xs k x → s ≡ f x → slice_get (map f xs) k ≡ Some s
shape_at f xs k {x} within is of = slice_get-map f xs k ∙ ap (option_map f) (slice_get-get_or xs k x within ∙ ap Some (sym is)) ∙ ap Some (sym of)

-- the fields once block n got this shape
abbrev with_shape : Shape → ℕ → List Fields → List Fields
with_shape x n fields = set fields n (fields_shaped x (fields_at fields n))

-- one step of a walk
module _ (xs : List Shape) (k : ℕ) {x : Shape} (is : slice_get xs k ≡ Some x) where
  pub fits_next : (a : Arena) (m : Message) {b : Block} → slice_get m k ≡ Some b
      → shapes_fit a (drop k xs) (drop k m) ≡ and_then (λ u. shapes_fit a (drop (k + 1) xs) (drop (k + 1) m)) (shape_fits a x b)
  fits_next a m {b} at = λ i. shapes_fit a (drop_from xs k x is i) (drop_from m k b at i)

  pub shaped_next : (ns : List ℕ) {n : ℕ} (fields : List Fields) → slice_get ns k ≡ Some n
      → with_shapes (drop k xs) (drop k ns) fields ≡ with_shapes (drop (k + 1) xs) (drop (k + 1) ns) (with_shape x n fields)
  shaped_next ns {n} fields at = λ i. with_shapes (drop_from xs k x is i) (drop_from ns k n at i) fields

  pub retyped_next : (m : Message) {b : Block} (s : DataStore) → slice_get m k ≡ Some b
      → store_retyped (drop k xs) (drop k m) s ≡ store_retyped (drop (k + 1) xs) (drop (k + 1) m) (with_kind b.data_number x.kind s)
  retyped_next m {b} s at = λ i. store_retyped (drop_from xs k x is i) (drop_from m k b at i) s

-- ---- one block

-- the test for another type, as the code makes it
pub kind_changes : (k j : MsgType) {is : Bool} → is ≡ not (sameb the_type k j) → is ≡ not (same_kind k j)
unfolding same_kind
kind_changes k j same = same

-- a shape that fits is within the data block
fit_room : (a : Arena) (x : Shape) (b : Block) → shape_fits a x b ≡ Ok tt → x.at + x.len ≤ capacity_of a.store b.data_number
fit_room a x b fits =
    elim (cases_lt (capacity_of a.store b.data_number) (x.at + x.len)) [
      | inl past ↦ let none : shape_fits a x b ≡ Err NoRoom = cond-true _ _ _ (lt-ltb _ _ past) in absurd cc
      | inr within ↦ within
    ]

-- and the type stays where another block uses the data block
fit_type : (a : Arena) (x : Shape) (b : Block) → shape_fits a x b ≡ Ok tt → 1 < references_to a b.data_number → same_kind (kind_of a.store b) x.kind ≡ true
fit_type a x b fits many =
    elim (cases_Bool (same_kind (kind_of a.store b) x.kind)) [
      | inl same ↦ same
      | inr other ↦
          let changes : (not (same_kind (kind_of a.store b) x.kind) && nat_lt 1 (references_to a b.data_number)) ≡ true =
          ap (λ p. not p && nat_lt 1 (references_to a b.data_number)) other ∙ lt-ltb 1 _ many in
          let none : shape_fits a x b ≡ Err Shared = cond-false _ _ _ (le-ltb _ _ (fit_room a x b fits)) ∙ cond-true _ _ _ changes in
          absurd cc
    ]

-- ---- all of them

fit_parts : (r s : Result (Unit {0}) Refusal) → and_then (λ u. s) r ≡ Ok tt → (r ≡ Ok tt) × (s ≡ Ok tt)
fit_parts (Ok u) s is = (refl, is)
fit_parts (Err why) s is = absurd cc

length-shaped : (xs : List Shape) (ns : List ℕ) (fields : List Fields) → length (with_shapes xs ns fields) ≡ length fields
length-shaped [] ns fields = refl
length-shaped (x ∷ xs) [] fields = refl
length-shaped (x ∷ xs) (n ∷ ns) fields = length-shaped xs ns (with_shape x n fields) ∙ length-set fields n _

-- each block uses the data block that it used
pub named_one : (x : Shape) (n : ℕ) (fields : List Fields) (j : ℕ) → (fields_at (with_shape x n fields) j).data_number ≡ (fields_at fields j).data_number
named_one x n fields j = grind (arith, common_steps, get_or-set_same, set_past, get_or-set_other)

-- and has a band
pub banded_one : (x : Shape) (n : ℕ) (fields : List Fields) → x.band < 2 ^ 8 → ((j : ℕ) → j < length fields → (fields_at fields j).band < 2 ^ 8)
    → (j : ℕ) → j < length (with_shape x n fields) → (fields_at (with_shape x n fields) j).band < 2 ^ 8
banded_one x n fields small old j within = grind (arith, common_steps, get_or-set_same, get_or-set_other, length-set, small, old)

shaped_named : (xs : List Shape) (ns : List ℕ) (fields : List Fields) (j : ℕ) → (fields_at (with_shapes xs ns fields) j).data_number ≡ (fields_at fields j).data_number
shaped_named [] ns fields j = refl
shaped_named (x ∷ xs) [] fields j = refl
shaped_named (x ∷ xs) (n ∷ ns) fields j = shaped_named xs ns (with_shape x n fields) j ∙ named_one x n fields j

-- blocks of other messages say what they said
shaped_apart : (xs : List Shape) (ns : List ℕ) (fields : List Fields) (j : ℕ) → times j ns ≡ 0 → fields_at (with_shapes xs ns fields) j ≡ fields_at fields j
shaped_apart [] ns fields j none = refl
shaped_apart (x ∷ xs) [] fields j none = refl
shaped_apart (x ∷ xs) (n ∷ ns) fields j none =
    elim (cases_eq j n) [
      | inl same ↦ absurd (omega (arith, none, times_here j n ns (sym same)))
      | inr other ↦ shaped_apart xs ns (with_shape x n fields) j (omega (arith, none, times-cons j n ns)) ∙ get_or-set_other fields n j _ no_fields other
    ]

-- the blocks of a message after its first got another shape
rest_alike : (x : Shape) (n : ℕ) (ns : List ℕ) (fields : List Fields) → times n (n ∷ ns) ≤ 1 → message_of (with_shape x n fields) ns ≡ message_of fields ns
rest_alike x n ns fields once = message-alike fields _ ns (alike_off fields n _ ns (omega (arith, once, times_here n n ns refl)))

nodes_shaped : (xs : List Shape) (ns : List ℕ) (fields : List Fields) → ((j : ℕ) → times j ns ≤ 1) → ((j : ℕ) → 0 < times j ns → j < length fields)
    → message_of (with_shapes xs ns fields) ns ≡ blocks_shaped xs (message_of fields ns)
nodes_shaped [] ns fields once there = refl
nodes_shaped (x ∷ xs) [] fields once there = refl
nodes_shaped (x ∷ xs) (n ∷ ns) fields once there =
    let now = with_shape x n fields in
    let here : fields_at (with_shapes xs ns now) n ≡ fields_shaped x (fields_at fields n) =
    shaped_apart xs ns now n (omega (arith, once n, times_here n n ns refl)) ∙ get_or-set_same fields n _ no_fields (there n (omega (arith, times_here n n ns refl))) in
    let rest : message_of (with_shapes xs ns now) ns ≡ blocks_shaped xs (message_of fields ns) =
    nodes_shaped xs ns now (λ j. omega (arith, once j, times-cons j n ns)) (λ j some. omega (arith, length-set fields n (fields_shaped x (fields_at fields n)), there j (omega (arith, some, times-cons j n ns))))
    ∙ ap (blocks_shaped xs) (rest_alike x n ns fields (once n)) in
    λ i. block_of n (here i) ∷ rest i

length-blocks_shaped : (xs : List Shape) (m : Message) → length (blocks_shaped xs m) ≡ length m
length-blocks_shaped [] m = refl
length-blocks_shaped (x ∷ xs) [] = refl
length-blocks_shaped (x ∷ xs) (b ∷ bs) = ap suc (length-blocks_shaped xs bs)

pub rooms-retyped : (xs : List Shape) (m : Message) (s : DataStore) → HasRooms s (store_retyped xs m s)
rooms-retyped [] m s = record { many = refl; room = λ k. refl }
rooms-retyped (x ∷ xs) [] s = record { many = refl; room = λ k. refl }
rooms-retyped (x ∷ xs) (b ∷ bs) s = rooms-both (rooms-kind s b.data_number x.kind) (rooms-retyped xs bs (with_kind b.data_number x.kind s))

-- the places of all blocks are within their data blocks, if the shapes fit those of the message
shaped_within : (a : Arena) (xs : List Shape) (ns : List ℕ) (fields : List Fields) → ((j : ℕ) → times j ns ≤ 1) → shapes_fit a xs (message_of fields ns) ≡ Ok tt
    → ((j : ℕ) → j < length fields → (fields_at fields j).offset + (fields_at fields j).len ≤ capacity_of a.store (fields_at fields j).data_number)
    → (j : ℕ) → j < length fields → (fields_at (with_shapes xs ns fields) j).offset + (fields_at (with_shapes xs ns fields) j).len ≤ capacity_of a.store (fields_at fields j).data_number
shaped_within a [] ns fields once fits old j within = old j within
shaped_within a (x ∷ xs) [] fields once fits old j within = old j within
shaped_within a (x ∷ xs) (n ∷ ns) fields once fits old j within =
    let now = with_shape x n fields in
    let parts = fit_parts (shape_fits a x (block_at fields n)) (shapes_fit a xs (message_of fields ns)) fits in
    subst (λ d. (fields_at (with_shapes xs ns now) j).offset + (fields_at (with_shapes xs ns now) j).len ≤ capacity_of a.store d) (named_one x n fields j)
    (shaped_within a xs ns now (λ i. omega (arith, once i, times-cons i n ns)) (ap (shapes_fit a xs) (rest_alike x n ns fields (once n)) ∙ parts.1)
    (λ i inside. one (fit_room a x (block_at fields n) parts.0) i (omega (arith, inside, length-set fields n (fields_shaped x (fields_at fields n))))) j
    (omega (arith, within, length-set fields n (fields_shaped x (fields_at fields n)))))
  where
    one : x.at + x.len ≤ capacity_of a.store (fields_at fields n).data_number → (i : ℕ) → i < length fields
        → (fields_at (with_shape x n fields) i).offset + (fields_at (with_shape x n fields) i).len
        ≤ capacity_of a.store (fields_at (with_shape x n fields) i).data_number
    one room i inside = grind (arith, common_steps, get_or-set_same, get_or-set_other, room, old)

-- a type that is given again
retyped_same : (s : DataStore) (d : ℕ) {kind : MsgType} → (data_block_at s d).kind ≡ kind → data_block_at (with_kind d kind s) d ≡ data_block_at s d
retyped_same s d {kind} is =
    elim (cases_lt d (length s.blocks)) [
      | inl there ↦ get_or-set_same s.blocks d _ no_data_block there ∙ (λ i. record (data_block_at s d) { kind = sym is i })
      | inr past ↦ ap (λ xs. get_or xs d no_data_block) (set_past s.blocks d _ past)
    ]

-- a data block stays that no block of the message uses, or that has other references
retyped_stays : (a : Arena) (d : ℕ) (xs : List Shape) (m : Message) (s : DataStore) → shapes_fit a xs m ≡ Ok tt → (count_by (uses_data d) m ≡ 0) ⊎ (1 < references_to a d)
    → data_block_at s d ≡ data_block_at a.store d → data_block_at (store_retyped xs m s) d ≡ data_block_at a.store d
retyped_stays a d [] m s fits why same = same
retyped_stays a d (x ∷ xs) [] s fits why same = same
retyped_stays a d (x ∷ xs) (b ∷ bs) s fits why same =
    let parts = fit_parts (shape_fits a x b) (shapes_fit a xs bs) fits in
    retyped_stays a d xs bs (with_kind b.data_number x.kind s) parts.1 (used_behind d b bs _ why) (here parts.0 (cases_eq b.data_number d))
  where
    here : shape_fits a x b ≡ Ok tt → (b.data_number ≡ d) ⊎ (b.data_number ≡ d → ⊥) → data_block_at (with_kind b.data_number x.kind s) d ≡ data_block_at a.store d
    here fit (inr other) = get_or-set_other s.blocks b.data_number d _ no_data_block (λ one. other (sym one)) ∙ same
    here fit (inl one) =
        let many : 1 < references_to a b.data_number = subst (λ e. 1 < references_to a e) (sym one) (used_here b bs _ one why) in
        let kind : kind_of a.store b ≡ x.kind = same_kind-one _ _ (fit_type a x b fit many) in
        subst (λ e. data_block_at (with_kind e x.kind s) d ≡ data_block_at a.store d) (sym one)
        (retyped_same s d (ap (λ (c : DataBlock). c.kind) same ∙ ap (λ e. (data_block_at a.store e).kind) (sym one) ∙ kind) ∙ same)

-- the arena after the first blocks of the message held at h got these shapes
abbrev pub with_shaped : ℕ → List Shape → Arena → Arena
with_shaped h xs a = record (with_message h (blocks_shaped xs (message_at a h)) a) { store = store_retyped xs (message_at a h) a.store }

-- the call on the model
module _ (a : Arena) (t : TokenValue) (had : has a t ≡ true) (xs : List Shape) (fits : shapes_fit a xs (message_at a t.head) ≡ Ok tt) where
  its : (m : Message) × IsHad a t m
  its = had_message a t had

  its_held : held_at a t.head ≡ Some (message_at a t.head)
  its_held = its.1.held ∙ ap Some (sym (ap blocks_of its.1.held))

  pub shaped_leaves : Leaves (t.head ∷ []) a (with_shaped t.head xs a)
  shaped_leaves =
      leaves_beside a t.head its_held (with_shaped t.head xs a) (others_one a (with_shaped t.head xs a) t.head (Some (blocks_shaped xs (message_at a t.head))) refl refl) refl
      (λ d why. retyped_stays a d xs (message_at a t.head) a.store fits why refl)

  pub shaped_had : has (with_shaped t.head xs a) t ≡ true
  shaped_had =
      had_again a (with_shaped t.head xs a) t its.0 (blocks_shaped xs (message_at a t.head)) its.1 (get_or-set_same a.held t.head _ None (held_within a t.head its.0 its.1.held))
      (length-blocks_shaped xs (message_at a t.head) ∙ ap (λ o. length (blocks_of o)) its.1.held) refl

-- and as the code stores it
module _ (id : ℕ) (s : CountedStore) (fields : List Fields) (v : ChainLists) (filled : IsFilled s fields v (arena_of id s.store fields v)) (a : Arena) (a_is : arena_of id s.store fields v ≡ a)
    (t : TokenValue) (had : has a t ≡ true) (xs : List Shape) where
  abbrev nodes : List ℕ
  nodes = nodes_at v t.head

  abbrev shaped : List Fields
  shaped = with_shapes xs nodes fields

  nodes_held : held_in v.held t.head ≡ Some nodes
  nodes_held = token_held s fields v a_is t t refl had

  message_is : message_at a t.head ≡ message_of fields nodes
  message_is = ap (λ x. message_at x t.head) (sym a_is) ∙ message_at-seen id s.store fields v t.head

  pub change : AreRewritten fields shaped nodes
  change = record { many = length-shaped xs nodes fields; named = shaped_named xs nodes fields; apart = shaped_apart xs nodes fields }

  module _ (u : CountedStore) (u_is : u ≡ record s { store = store_retyped xs (message_of fields nodes) s.store }) where
    pub shaped_shows : arena_of id u.store shaped v ≡ with_shaped t.head xs a
    shaped_shows =
        message_shows filled t.head nodes_held u.store shaped change.apart
        ∙ (λ i. record (arena_of id s.store fields v) {
          store = (u_is i).store;
          held = set (arena_of id s.store fields v).held t.head (Some (nodes_shaped xs nodes fields (once_within filled t.head nodes_held) (within_room filled t.head nodes_held) i));
        })
        ∙ (λ i. record (arena_of id s.store fields v) {
          store = store_retyped xs (sym (message_at-seen id s.store fields v t.head) i) s.store;
          held = set (arena_of id s.store fields v).held t.head (Some (blocks_shaped xs (sym (message_at-seen id s.store fields v t.head) i)));
        })
        ∙ ap (with_shaped t.head xs) a_is

    module _ (fits : shapes_fit a xs (message_at a t.head) ≡ Ok tt) (kept : IsKept u) (banded : (n : ℕ) → n < length shaped → (fields_at shaped n).band < 2 ^ 8) where
      rooms : HasRooms s.store u.store
      rooms = subst (λ (w : CountedStore). HasRooms s.store w.store) (sym u_is) (rooms-retyped xs (message_of fields nodes) s.store)

      placed : (n : ℕ) → n < length shaped → IsPlaced u.store (fields_at shaped n)
      placed n within =
          let inside : n < length fields = omega (arith, within, change.many) in
          let room =
          shaped_within a xs nodes fields (once_within filled t.head nodes_held) (ap (shapes_fit a xs) (sym message_is) ∙ fits)
          (λ j there. subst (λ (x : Arena). (fields_at fields j).offset + (fields_at fields j).len ≤ capacity_of x.store (fields_at fields j).data_number) a_is (filled.placed j there).within) n inside in
          record {
            there = omega (arith, (filled.placed n inside).there, change.named n, rooms.many);
            within =
                omega (
                  arith,
                  room,
                  ap (λ (x : Arena). capacity_of x.store (fields_at fields n).data_number) a_is,
                  rooms.room (fields_at fields n).data_number,
                  ap (capacity_of u.store) (change.named n),
                );
            banded = banded n within;
          }

      pub shaped_filled : IsFilled u shaped v (arena_of id u.store shaped v)
      shaped_filled = message_filled filled t.head nodes_held u change kept (ap (λ (w : CountedStore). w.counts) u_is) placed
