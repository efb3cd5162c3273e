-- Calls on the bytes of held messages in place: a caller looks at them, changes them, or moves the places of a block. A call gets the head
-- of a message instead of its token.
use Rattle.std.specs.Prelude.{ℕ, ◌+◌, ◌-◌, Bool, false, ◌&&◌, ◌||◌, not, min, nat_lt, List, [], ◌∷◌, length, map, take, drop, Result, Ok, Err, if◌then◌else◌}
use Rattle.strm_data.specs.declared.refusal.Refusal.{Refusal}
use Rattle.strm_data.specs.declared.refusal.Refusal.TheVariants.{NoRoom, NoSuchBlock, Shared, Short}
use Rattle.strm_data.specs.DataStore.{DataStore, capacity_of, data_block_at, with_bytes_written, with_kind}
use Rattle.strm_data.specs.MsgType.{same_kind}
use Rattle.strm_mblk.specs.declared.block_info.BlockInfo.{BlockInfo}
use Rattle.strm_mblk.specs.declared.block_place.BlockPlace.{BlockPlace}
use Rattle.strm_mblk.specs.declared.block_place.Shape.{Shape}
use Rattle.strm_mblk.specs.Arena.{Arena, message_at, references_to, with_message}
use Rattle.strm_mblk.specs.Block.{Block, Message, bytes_of_block, kind_of, size_of}
use Rattle.strm_mblk.specs.BlockCalls.{block_found, info_of, own_block, with_block, with_bytes}
use Rattle.strm_mblk.specs.Given.{Given, and_then, answer_map}

-- ---- looks

-- the bytes of block k of the message held at h
abbrev pub bytes : ℕ → ℕ → Arena → Result (List ℕ) Refusal
bytes h k a = answer_map (bytes_of_block a.store) (block_found h k a)

-- data block, read place, length and capacity of a block
abbrev pub place_of : DataStore → Block → BlockPlace
place_of s b = record { «data» = b.data_number; at = b.offset; len = b.len; capacity = capacity_of s b.data_number }

-- where block k of the message held at h has its bytes
abbrev pub place : ℕ → ℕ → Arena → Result BlockPlace Refusal
place h k a = answer_map (place_of a.store) (block_found h k a)

-- what `block` returns of the blocks of the message held at h, from block k on
abbrev pub infos_from : ℕ → ℕ → Arena → List BlockInfo
infos_from h k a = map (info_of a) (drop k (message_at a h))

-- ---- bytes that are lent to a closure

-- the bytes that `edit` lends: those of the block
abbrev pub bytes_to_edit : ℕ → ℕ → Arena → Result (List ℕ) Refusal
bytes_to_edit h k a = answer_map (bytes_of_block a.store) (own_block h k a)

-- the bytes of block k of the message held at h become these, which are as many; returns r
abbrev pub edit : {R : Type 0} → ℕ → ℕ → R → List ℕ → Arena → Given Arena R
edit h k r left a = answer_map (λ b. (r, with_bytes b.data_number b.offset left a)) (own_block h k a)

-- the bytes of the block's data block after its write place
abbrev pub bytes_behind : DataStore → Block → List ℕ
bytes_behind s b = drop (b.offset + b.len) (data_block_at s b.data_number).bytes

-- the bytes that `fill` lends: those after the write place
abbrev pub bytes_to_fill : ℕ → ℕ → Arena → Result (List ℕ) Refusal
bytes_to_fill h k a = answer_map (bytes_behind a.store) (own_block h k a)

-- the bytes after the write place of b, block k of the message held at h, become these, which are as many, and the write place moves over
-- `count` of them
abbrev pub block_filled : ℕ → ℕ → List ℕ → ℕ → Arena → Block → ℕ × Arena
block_filled h k left count a b =
    (count, with_block h k (record b { len = b.len + count }) (with_bytes b.data_number (b.offset + b.len) left a))

-- The bytes after the write place of block k of the message held at h become these, which are as many. The write place moves over `count`
-- of them, or over all if there are fewer. Returns over how many.
abbrev pub fill : ℕ → ℕ → ℕ → List ℕ → Arena → Given Arena ℕ
fill h k count left a = answer_map (block_filled h k left (min count (length left)) a) (own_block h k a)

-- the bytes that `window` lends: all bytes of the block's data block
abbrev pub bytes_of_window : ℕ → ℕ → Arena → Result (List ℕ) Refusal
bytes_of_window h k a = answer_map (λ b. (data_block_at a.store b.data_number).bytes) (own_block h k a)

-- the bytes of the data block of block k of the message held at h become these, which are as many; returns r
abbrev pub window : {R : Type 0} → ℕ → ℕ → R → List ℕ → Arena → Given Arena R
window h k r left a = answer_map (λ b. (r, with_bytes b.data_number 0 left a)) (own_block h k a)

-- ---- places of a block

-- moves the write place of this block, block k of the message held at h, over bytes that its data block has
abbrev pub advance_block : ℕ → ℕ → ℕ → Arena → Block → Given Arena (Unit {0})
advance_block h k count a b =
    if nat_lt (capacity_of a.store b.data_number) (b.offset + b.len + count) then Err NoRoom
    else Ok (tt, with_block h k (record b { len = b.len + count }) a)

-- moves the write place of block k of the message held at h over bytes that its data block has
abbrev pub advance : ℕ → ℕ → ℕ → Arena → Given Arena (Unit {0})
advance h k count a = and_then (advance_block h k count a) (own_block h k a)

-- both places of this block, block k of the message held at h, which has no bytes, become `count`
abbrev pub reserve_block : ℕ → ℕ → ℕ → Arena → Block → Given Arena (Unit {0})
reserve_block h k count a b =
    if nat_lt 0 b.len || nat_lt (capacity_of a.store b.data_number) count then Err NoRoom
    else Ok (tt, with_block h k (record b { offset = count }) a)

-- both places of block k of the message held at h, which has no bytes, become `count`: this leaves room before them
abbrev pub reserve : ℕ → ℕ → ℕ → Arena → Given Arena (Unit {0})
reserve h k count a = and_then (reserve_block h k count a) (own_block h k a)

-- the read place of this block, block k of the message held at h, becomes `at`, and its length `len`
abbrev pub shape_block : ℕ → ℕ → ℕ → ℕ → Arena → Block → Given Arena (Unit {0})
shape_block h k at len a b =
    if nat_lt (capacity_of a.store b.data_number) (at + len) then Err NoRoom
    else Ok (tt, with_block h k (record b { offset = at; len = len }) a)

-- the read place of block k of the message held at h becomes `at`, and its length `len`, also where other blocks use its data block
abbrev pub shape : ℕ → ℕ → ℕ → ℕ → Arena → Given Arena (Unit {0})
shape h k at len a = and_then (shape_block h k at len a) (block_found h k a)

-- ---- several blocks at once: read place, length, type and band of each

-- refused if the shape does not fit the block: it has more bytes than the data block, or its type is new to one that another block uses
abbrev pub shape_fits : Arena → Shape → Block → Result (Unit {0}) Refusal
shape_fits a x b =
    if nat_lt (capacity_of a.store b.data_number) (x.at + x.len) then Err NoRoom
    else (if not (same_kind (kind_of a.store b) x.kind) && nat_lt 1 (references_to a b.data_number) then Err Shared
    else Ok tt)

-- refused as the first of these shapes that does not fit its block
abbrev pub shapes_fit : Arena → List Shape → Message → Result (Unit {0}) Refusal
shapes_fit a [] bs = Ok tt
shapes_fit a (x ∷ xs) [] = Err NoSuchBlock
shapes_fit a (x ∷ xs) (b ∷ bs) = and_then (λ u. shapes_fit a xs bs) (shape_fits a x b)

-- the blocks after the first of them got the places and bands of these shapes
abbrev pub blocks_shaped : List Shape → Message → Message
blocks_shaped [] bs = bs
blocks_shaped (x ∷ xs) [] = []
blocks_shaped (x ∷ xs) (b ∷ bs) = record b { offset = x.at; len = x.len; band = x.band } ∷ blocks_shaped xs bs

-- the store after the data blocks of the first of these blocks got the types of these shapes
abbrev pub store_retyped : List Shape → Message → DataStore → DataStore
store_retyped [] bs s = s
store_retyped (x ∷ xs) [] s = s
store_retyped (x ∷ xs) (b ∷ bs) s = store_retyped xs bs (with_kind b.data_number x.kind s)

-- gives the first blocks of the message held at h these shapes
abbrev pub shape_all : ℕ → List Shape → Arena → Given Arena (Unit {0})
shape_all h shapes a =
    let m = message_at a h in
    if nat_lt (length m) (length shapes) then Err NoSuchBlock
    else answer_map (λ u. (tt, record (with_message h (blocks_shaped shapes m) a) { store = store_retyped shapes m a.store })) (shapes_fit a shapes m)

-- ---- bytes before those of a message

-- puts bytes before the read place of this block, the first of the message held at h
abbrev pub prepend_block : ℕ → List ℕ → Arena → Block → Given Arena (Unit {0})
prepend_block h bytes a b =
    if nat_lt b.offset (length bytes) then Err NoRoom
    else Ok (
      tt,
      with_block h 0 (record b { offset = b.offset - length bytes; len = b.len + length bytes }) (with_bytes b.data_number (b.offset - length bytes) bytes a),
    )

-- puts bytes before the read place of the first block of the message held at h
abbrev pub prepend : ℕ → List ℕ → Arena → Given Arena (Unit {0})
prepend h bytes a = and_then (prepend_block h bytes a) (own_block h 0 a)

-- ---- bytes across blocks

-- of n bytes from place `at` on, the number that are in this block, where `at` counts from its read place
abbrev pub bytes_within : ℕ → ℕ → Block → ℕ
bytes_within at n b = min n (b.len - at)

-- of n bytes of these blocks from place `at` on, whether one is in a data block that another block uses; places count over all blocks
abbrev pub touches_shared : Arena → ℕ → ℕ → Message → Bool
touches_shared a at n [] = false
touches_shared a at n (b ∷ bs) =
    (nat_lt 0 (bytes_within at n b) && nat_lt 1 (references_to a b.data_number)) || touches_shared a (at - b.len) (n - bytes_within at n b) bs

-- the store after these bytes were written over those of the blocks, from place `at` on
abbrev pub store_overwritten : ℕ → List ℕ → Message → DataStore → DataStore
store_overwritten at bytes [] s = s
store_overwritten at bytes (b ∷ bs) s =
    let n = bytes_within at (length bytes) b in
    store_overwritten (at - b.len) (drop n bytes) bs (with_bytes_written b.data_number (b.offset + min at b.len) (take n bytes) s)

-- writes bytes over those of the message held at h, from place `at` on
abbrev pub overwrite : ℕ → ℕ → List ℕ → Arena → Given Arena (Unit {0})
overwrite h at bytes a =
    if nat_lt (size_of (message_at a h)) (at + length bytes) then Err Short
    else (if touches_shared a at (length bytes) (message_at a h) then Err Shared
    else Ok (tt, record a { store = store_overwritten at bytes (message_at a h) a.store }))
