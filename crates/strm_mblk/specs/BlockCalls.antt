-- What each call on blocks of messages does to the arena. A call gets the head of a message instead of its token.
use Rattle.std.specs.Prelude.{ℕ, ◌+◌, ◌-◌, ◌≤◌, min, Bool, ◌==◌, nat_lt, List, [], ◌∷◌, length, map, take, drop, Option, None, Some, Result, Ok, Err, ok_or, slice_get, slice_set, count_by, if◌then◌else◌}
use Rattle.std.specs.List.{list_all, list_any, zip}
use Rattle.std.specs.Result.{is_ok}
use Rattle.strm_data.specs.declared.msg_type.MsgType.{MsgType}
use Rattle.strm_data.specs.declared.refusal.Refusal.{Refusal}
use Rattle.strm_data.specs.declared.refusal.Refusal.TheVariants.{TooLarge, NoMblk, RefMax, NoSuchBlock, Shared, NoRoom}
use Rattle.strm_data.specs.Classes.{fits_a_class}
use Rattle.strm_data.specs.DataStore.{DataStore, IsClassFor, capacity_of, free_of, take_data, with_data_taken, with_kind, with_bytes_written}
use Rattle.strm_data.specs.Limits.{most_references}
use Rattle.strm_mblk.specs.declared.block_info.BlockInfo.{BlockInfo}
use Rattle.strm_mblk.specs.declared.blocks.Supply.{Supply}
use Rattle.strm_mblk.specs.Arena.{Arena, message_at, references_to, with_free_left, with_held, with_message, without_held}
use Rattle.strm_mblk.specs.Block.{Block, Message, bytes_of_block, head_of, uses_data, kind_of, new_block}
use Rattle.strm_mblk.specs.Freeing.{with_block_freed}
use Rattle.strm_mblk.specs.Given.{Given, and_then, answer_map}
use Rattle.strm_mblk.specs.Messages.{chain_divided, chains_joined, without_place}

-- ---- new messages

-- a held message of one block over the data block just taken, if any; n is the first free number, and ns are the others
abbrev pub held_new : ℕ → List ℕ → Arena → Result ℕ Refusal → Given Arena ℕ
held_new n ns a (Err why) = Err why
held_new n ns a (Ok d) = Ok (n, with_held (new_block n d ∷ []) (record (with_free_left ns a) { store = with_data_taken d a.store }))

abbrev pub allocb_from : List ℕ → ℕ → Arena → Given Arena ℕ
allocb_from [] size a = Err NoMblk
allocb_from (n ∷ ns) size a = held_new n ns a (take_data size a.store)

-- makes a message of one new block over the data block that is taken for the size, and returns its head
abbrev pub allocb : ℕ → Arena → Given Arena ℕ
allocb size a = if fits_a_class size a.store.classes then allocb_from a.free size a else Err TooLarge

-- whether `allocb` would succeed for this size now
abbrev pub testb : ℕ → Arena → Bool
testb size a = is_ok (allocb size a)

-- as many calls of `allocb` for this size as the supply says take free message blocks, and data blocks of its class
pub record IsSupplied (size : ℕ) (a : Arena) (supply : Supply) : Type 0 where
  pub class : IsClassFor size a.store supply.class
  pub data_blocks : supply.count ≤ length (free_of a.store supply.class)
  pub message_blocks : supply.count ≤ length a.free

-- the number of calls of `allocb` for which class c has data blocks and message blocks are free: the lesser of both numbers
abbrev pub calls_supplied : ℕ → Arena → ℕ
calls_supplied c a = min (length a.free) (length (free_of a.store c))

-- these blocks with other numbers
abbrev pub blocks_renumbered : List ℕ → List Block → List Block
blocks_renumbered ns bs = map (λ p. record p.1 { number = p.0 }) (zip ns bs)

-- whether some data block would have more than most_references references after each of these blocks got a duplicate
abbrev pub exceeds_references : List Block → Arena → Bool
exceeds_references bs a = list_any (λ b. nat_lt most_references (references_to a b.data_number + count_by (uses_data b.data_number) bs)) bs

-- the head of a held message of these blocks with the first free numbers, and the arena with that message and this store
abbrev pub held_under : List Block → DataStore → Arena → ℕ × Arena
held_under bs s a =
    let m = blocks_renumbered (take (length bs) a.free) bs in
    (head_of m, with_held m (record (with_free_left (drop (length bs) a.free) a) { store = s }))

-- makes a message of new blocks, one for each of these, with its data block, places and band
abbrev pub message_duplicated : List Block → Arena → Given Arena ℕ
message_duplicated bs a =
    if nat_lt (length a.free) (length bs) then Err NoMblk
    else (if exceeds_references bs a then Err RefMax
    else Ok (held_under bs a.store a))

-- duplicates the first block of the message held at h
abbrev pub dupb : ℕ → Arena → Given Arena ℕ
dupb h a = message_duplicated (take 1 (message_at a h)) a

-- duplicates all blocks of the message held at h
abbrev pub dupmsg : ℕ → Arena → Given Arena ℕ
dupmsg h a = message_duplicated (message_at a h) a

-- the store with the data blocks that are copied into store s: another pool's, if any, or s itself
abbrev pub copied_from : Option DataStore → DataStore → DataStore
copied_from None s = s
copied_from (Some other) s = other

-- the store after d was taken for a copy of b: it has b's type, and b's bytes at the same places
abbrev pub store_with_copy : Option DataStore → Block → DataStore → ℕ → DataStore
store_with_copy other b s d = with_bytes_written d b.offset (bytes_of_block (copied_from other s) b) (with_kind d (kind_of (copied_from other s) b) (with_data_taken d s))

-- these blocks over copies of their data blocks, each of which is taken for the old one's capacity, in order
abbrev pub blocks_copied : Option DataStore → List Block → DataStore → Given DataStore (List Block)
blocks_copied other [] s = Ok ([], s)
blocks_copied other (b ∷ bs) s =
    and_then (λ d. answer_map (λ g. (record b { data_number = d } ∷ g.0, g.1)) (blocks_copied other bs (store_with_copy other b s d))) (take_data (capacity_of (copied_from other s) b.data_number) s)

-- makes a message of new blocks, one for each of these, over a copy of its data block, with its places and band
abbrev pub message_copied : Option DataStore → List Block → Arena → Given Arena ℕ
message_copied other bs a =
    if nat_lt (length a.free) (length bs) then Err NoMblk
    else answer_map (λ g. held_under g.0 g.1 a) (blocks_copied other bs a.store)

-- copies the first block of the message held at h
abbrev pub copyb : ℕ → Arena → Given Arena ℕ
copyb h a = message_copied None (take 1 (message_at a h)) a

-- copies all blocks of the message held at h
abbrev pub copymsg : ℕ → Arena → Given Arena ℕ
copymsg h a = message_copied None (message_at a h) a

-- whether a class fits each of these blocks of another pool's store
abbrev pub fits_classes : DataStore → List Block → DataStore → Bool
fits_classes other bs s = list_all (λ b. fits_a_class (capacity_of other b.data_number) s.classes) bs

-- copies all blocks of the message held at h in another pool's arena, `from`; there the call frees that message
abbrev pub transfer : Arena → ℕ → Arena → Given Arena ℕ
transfer from h a =
    if fits_classes from.store (message_at from h) a.store then message_copied (Some from.store) (message_at from h) a
    else Err TooLarge

-- ---- one block

-- block k of the message held at h
abbrev pub block_found : ℕ → ℕ → Arena → Result Block Refusal
block_found h k a = ok_or (slice_get (message_at a h) k) NoSuchBlock

-- this block, if no other block uses its data block
abbrev pub if_unshared : Arena → Block → Result Block Refusal
if_unshared a b = if nat_lt 1 (references_to a b.data_number) then Err Shared else Ok b

-- block k of the message held at h, if no other block uses its data block
abbrev pub own_block : ℕ → ℕ → Arena → Result Block Refusal
own_block h k a = and_then (if_unshared a) (block_found h k a)

-- the arena after block k of the message held at h became b
abbrev pub with_block : ℕ → ℕ → Block → Arena → Arena
with_block h k b a = with_message h (slice_set (message_at a h) k b) a

-- the arena after these bytes were written into data block d from place `at` on
abbrev pub with_bytes : ℕ → ℕ → List ℕ → Arena → Arena
with_bytes d at bytes a = record a { store = with_bytes_written d at bytes a.store }

-- writes bytes after the write place of b, block k of the message held at h
abbrev pub write_block : ℕ → ℕ → List ℕ → Arena → Block → Given Arena (Unit {0})
write_block h k bytes a b =
    if nat_lt (capacity_of a.store b.data_number) (b.offset + b.len + length bytes) then Err NoRoom
    else Ok (tt, with_block h k (record b { len = b.len + length bytes }) (with_bytes b.data_number (b.offset + b.len) bytes a))

-- writes bytes after the write place of block k of the message held at h, and moves the write place after them
abbrev pub write : ℕ → ℕ → List ℕ → Arena → Given Arena (Unit {0})
write h k bytes a = and_then (write_block h k bytes a) (own_block h k a)

-- gives the data block of block k of the message held at h a type
abbrev pub settype : ℕ → ℕ → MsgType → Arena → Given Arena (Unit {0})
settype h k kind a = answer_map (λ b. (tt, record a { store = with_kind b.data_number kind a.store })) (own_block h k a)

-- the message after its first block got this band
abbrev pub with_band : ℕ → Message → Message
with_band band [] = []
with_band band (b ∷ bs) = record b { band = band } ∷ bs

-- gives the first block of the message held at h a band
abbrev pub setband : ℕ → ℕ → Arena → Arena
setband h band a = with_message h (with_band band (message_at a h)) a

-- type, length, band, room and references of a block
abbrev pub info_of : Arena → Block → BlockInfo
info_of a b = record {
  kind = kind_of a.store b;
  len = b.len;
  band = b.band;
  room = capacity_of a.store b.data_number - (b.offset + b.len);
  names = references_to a b.data_number;
}

-- returns type, length, band, room and references of block k of the message held at h
abbrev pub block : ℕ → ℕ → Arena → Given Arena BlockInfo
block h k a = answer_map (λ b. (info_of a b, a)) (block_found h k a)

-- ---- joining and dividing

-- the number of the first block, if any
abbrev pub head_in : Message → Option ℕ
head_in [] = None
head_in (b ∷ bs) = Some b.number

-- the arena after these blocks, if any, became a held message
abbrev pub with_rest : Message → Arena → Arena
with_rest [] a = a
with_rest (b ∷ bs) a = with_held (b ∷ bs) a

-- appends the message at g to the one at h; if both are one message, nothing changes
abbrev pub linkb : ℕ → ℕ → Arena → Arena
linkb h g a = if h == g then a else record a { held = chains_joined h g a.held }

-- makes the blocks after the first, if any, a message of their own, and returns its head
abbrev pub unlinkb : ℕ → Arena → Option ℕ × Arena
unlinkb h a = (head_in (drop 1 (message_at a h)), record a { held = chain_divided (λ b. b.number) h (message_at a h) a.held })

-- makes this block of the message held at h a message, and also the rest, if any; returns their heads
abbrev pub rmvb_of : ℕ → Arena → Message → Option Block → Given Arena (ℕ × Option ℕ)
rmvb_of h a rest None = Err NoSuchBlock
rmvb_of h a rest (Some b) = Ok ((b.number, head_in rest), with_held (b ∷ []) (with_rest rest (without_held h a)))

-- makes block k of the message held at h a message, and also the other blocks, if any; returns their heads
abbrev pub rmvb : ℕ → ℕ → Arena → Given Arena (ℕ × Option ℕ)
rmvb h k a = rmvb_of h a (without_place k (message_at a h)) (slice_get (message_at a h) k)

-- frees the first of these blocks of the message held at h; the rest, if any, becomes a message, whose head is returned
abbrev pub freeb_from : ℕ → Arena → Message → Option ℕ × Arena
freeb_from h a [] = (None, a)
freeb_from h a (b ∷ rest) = (head_in rest, with_block_freed b [] (with_rest rest (without_held h a)))

-- frees the first block of the message held at h; the others, if any, become a message, whose head is returned
abbrev pub freeb : ℕ → Arena → Option ℕ × Arena
freeb h a = freeb_from h a (message_at a h)
