-- Bytes that C reads where they are, and arrays with an item for each block of a message.
use Rattle.std.specs.Prelude.{◌≡◌, ℕ, ◌-◌, min, List, [], drop, length, map, take, None, Some, Result, Ok, Err, IfOk, is_some, if◌then◌else◌}
use Rattle.std.specs.List.{All}
use denote.RawPtr.{InBlock, Ptr}
use Rattle.strm_data.specs.declared.refusal.Refusal.{Refusal}
use Rattle.strm_data.specs.DataStore.{DataStore}
use Rattle.strm_mblk.specs.Arena.{message_at}
use Rattle.strm_mblk.specs.Block.{Message, bytes_of_block}
use Rattle.strm_mblk.specs.InPlace.{infos_from}
use Rattle.strm_mblk.specs.Shelves.{shelf_of, shelved_message}
use Rattle.strm_named.specs.declared.fault.Fault.{Fault}
use Rattle.strm_named.specs.declared.name.Name.{Name}
use Rattle.strm_named.specs.NamedValue.{NamedValue, is_valid}
use Rattle.strm_c.specs.declared.arrays.Lent.{Lent}
use Rattle.strm_c.specs.declared.arrays.Lent.TheVariants as lents
use Rattle.strm_c.specs.declared.layout.StrmBlockInfo.{StrmBlockInfo}
use Rattle.strm_c.specs.declared.layout.StrmIov.{StrmIov}
use Rattle.strm_c.specs.Codes.{Answer, answer_of_refusable, answer_of_result}
use Rattle.strm_c.specs.Exports.{Held, array_with}
use Rattle.strm_c.specs.InC.{block_in_c}

-- ---- an address

-- A pointer that is not null. No contract says what is there: that is known only while the bytes are lent.
abbrev pub IsAddress : Ptr → Type 0
IsAddress p = InBlock p

-- the number of bytes that are lent, or why none are
abbrev pub number_lent : Result (List ℕ) Fault → Answer ℕ
number_lent lent = answer_of_result (λ bytes. Ok (length bytes)) lent

-- the same of a queued message
abbrev pub number_queued : Result (List ℕ) Refusal → Answer ℕ
number_queued lent = answer_of_refusable (λ bytes. Ok (length bytes)) lent

-- a pointer before and after an answer: the answer comes with an address, or the pointer stays
abbrev pub StoresAddress : {Z : Type 0} → Answer Z → Ptr → Ptr → Type 0
StoresAddress (Ok z) was is = IsAddress is
StoresAddress (Err code) was is = is ≡ was

-- the same for an answer that needs an open handle
abbrev pub AsksAddress : {Z : Type 0} → (NamedValue → Answer Z) → Held → Ptr → Ptr → Type 0
AsksAddress answer None was is = is ≡ was
AsksAddress answer (Some v) was is = StoresAddress (answer v) was is

-- A call that finds where these bytes of a message are, for C to write there, or why it may not: an address and their number. The pool
-- stays as it was.
pub record Finds (lent : Result (List ℕ) Fault) (old new : NamedValue) (result : Result (Ptr × ℕ) Fault) : Type 0 where
  pub number : answer_of_result (λ found. Ok found.1) result ≡ number_lent lent
  pub address : IfOk result (λ found. IsAddress found.0)
  pub same : new ≡ old

-- ---- arrays of blocks

-- the most blocks that are looked at together
abbrev pub most_together : ℕ
most_together = 32

-- of the blocks of message m from block `from` on, how many fit in an array of this length
abbrev pub count_from : ℕ → ℕ → Message → ℕ
count_from room from m = min room (length m - from)

-- an array after what the blocks of a message are like was stored in it, from block `from` on
abbrev pub infos_stored : NamedValue → Name → ℕ → List StrmBlockInfo → List StrmBlockInfo
infos_stored v msg from into = array_with (count_from (length into) from (message_at v.pool.arena msg.head)) (map block_in_c (infos_from msg.head from v.pool.arena)) into

-- the same, if the handle is open and the name valid
abbrev pub infos_asked : Held → Name → ℕ → List StrmBlockInfo → List StrmBlockInfo
infos_asked None msg from into = into
infos_asked (Some v) msg from into = if is_valid v msg then infos_stored v msg from into else into

-- the number of bytes of each block of message m, from block `from` on
abbrev pub lengths_in : DataStore → Message → ℕ → List ℕ
lengths_in s m from = map (λ b. length (bytes_of_block s b)) (drop from m)

-- the same of a held message
abbrev pub lengths_from : NamedValue → Name → ℕ → List ℕ
lengths_from v msg from = lengths_in v.pool.arena.store (message_at v.pool.arena msg.head) from

-- the blocks of a message whose bytes are asked for, none if there is no such message
abbrev pub blocks_lent : NamedValue → Lent → Message
blocks_lent v (lents.Held msg) = if is_valid v msg then message_at v.pool.arena msg.head else []
blocks_lent v (lents.Queued head) = if is_some (shelf_of v.pool.arena head) then shelved_message v.pool.arena head else []

-- the number of bytes of each, from block `from` on
abbrev pub lengths_lent : NamedValue → Lent → ℕ → List ℕ
lengths_lent v lent from = lengths_in v.pool.arena.store (blocks_lent v lent) from

-- the lengths of items
abbrev pub lengths_of : List StrmIov → List ℕ
lengths_of items = map (λ i. i.length) items

-- An array before and after blocks of these lengths were lent in it: the length and an address of each block that fits, and the rest as
-- before.
pub record AreLent (sizes : List ℕ) (old new : List StrmIov) : Type 0 where
  pub lengths : lengths_of new ≡ array_with (min (length old) (length sizes)) sizes (lengths_of old)
  pub addresses : All (λ i. IsAddress i.base) (take (min (length old) (length sizes)) new)
  pub rest : drop (min (length old) (length sizes)) new ≡ drop (min (length old) (length sizes)) old

-- the lengths of the blocks that are lent: none if the handle is not open or the name not valid
abbrev pub lengths_asked : Held → Name → ℕ → List ℕ
lengths_asked None msg from = []
lengths_asked (Some v) msg from = if is_valid v msg then lengths_from v msg from else []

-- the same of a queued message: none if the handle is not open or no message on a queue has this head
abbrev pub lengths_queued : Held → ℕ → ℕ → List ℕ
lengths_queued None head from = []
lengths_queued (Some v) head from = if is_some (shelf_of v.pool.arena head) then lengths_in v.pool.arena.store (shelved_message v.pool.arena head) from else []
