-- What the three modules do with a message: exactly one outcome for each.
use Rattle.std.specs.Prelude.{◌≡◌, ℕ, ◌+◌, ◌-◌, ◌/◌, ◌%◌, ◌^◌, Bool, true, false, not, ◌&&◌, ◌==◌, List, [], ◌∷◌, ◌++◌, length, slice_index_or, Result, Ok, Err, if◌then◌else◌}
use Rattle.std.specs.Result.{is_ok}
use Rattle.strm_data.specs.declared.msg_type.MsgType.{MsgType}
use Rattle.strm_data.specs.declared.msg_type.MsgType.TheVariants.{MData, MFlush, MIocack, MIoctl}
use Rattle.strm_data.specs.declared.refusal.Refusal.{Refusal}
use Rattle.strm_data.specs.MsgType.{same_kind}
use Rattle.strm_mblk.specs.declared.block_info.BlockInfo.{BlockInfo}
use Rattle.strm_mblk.specs.declared.token.TokenValue.{TokenValue}
use Rattle.strm_mblk.specs.Arena.{Arena, token_of}
use Rattle.strm_mblk.specs.BlockCalls.{allocb, block, linkb, setband, settype, write}
use Rattle.strm_mblk.specs.Given.{Given, answer_of, value_after}
use Rattle.strm_mblk.specs.InPlace.{bytes, prepend}
use Rattle.strm_pool.specs.PoolValue.{PoolValue, has_queue, on_arena, with_arena}
use Rattle.strm_queue.specs.declared.flush.Flush.TheVariants.{All}
use Rattle.strm_scheduler.specs.declared.need.Need.{Need}
use Rattle.strm_scheduler.specs.Steps.{Changed, Flushed, Put, Step, with_message_put, with_queue_flushed}

-- ---- messages and queues

-- whether a block that was found is of this type
abbrev pub is_of_kind : MsgType → Result BlockInfo Refusal → Bool
is_of_kind kind (Ok info) = same_kind info.kind kind
is_of_kind kind (Err why) = false

-- whether the message of token t is of this type: its first block is
abbrev pub is_message_of : MsgType → TokenValue → Arena → Bool
is_message_of kind t a = is_of_kind kind (answer_of (block t.head 0 a))

-- the queue of the other side of the module that has queue q (`OTHERQ`), in a stream whose last queue is this one: its read side comes after
-- its write side, in the other direction
abbrev pub other_of : ℕ → ℕ → ℕ
other_of last q = last - q

-- ---- a header with a sequence number

-- what is needed for a message of this type: a block for a header, if it is data
abbrev pub need_of_header : MsgType → Need
need_of_header kind = if same_kind kind MData then record { sizes = 2 ∷ []; mblks = 0; later = false } else record { sizes = []; mblks = 0; later = false }

-- the header with this number, high byte first
abbrev pub header_of : ℕ → List ℕ
header_of number = number / 256 ∷ number % 256 ∷ []

-- The message of token t has these bytes ahead of its own, in a new block with its band, and token u.
pub record IsLinkedBehind (header : List ℕ) (t u : TokenValue) (v w : PoolValue) : Type 0 where
  pub first : ℕ
  pub allocated : Arena
  pub taken : allocb (length header) v.arena ≡ Ok (first, allocated)
  pub written : Arena
  pub filled : write first 0 header allocated ≡ Ok (tt, written)
  pub front : BlockInfo
  pub found : answer_of (block t.head 0 v.arena) ≡ Ok front
  pub after : w ≡ with_arena v (linkb first t.head (setband first front.band written))
  pub token : u ≡ token_of w.arena first

-- The message of token t got these bytes ahead of its own, and has token u: in room that its first block has, or else in a new block.
abbrev pub IsHeaded : List ℕ → TokenValue → Given Arena (Unit {0}) → PoolValue → TokenValue → PoolValue → Type 0
IsHeaded header t (Ok given) v u w = (u ≡ t) × (w ≡ with_arena v given.1)
IsHeaded header t (Err why) v u w = IsLinkedBehind header t u v w

-- The message of token t goes on to queue n with this number ahead of it. Nothing else is changed.
pub record IsNumbered (number n : ℕ) (t : TokenValue) (steps : List Step) (v w : PoolValue) : Type 0 where
  pub token : TokenValue
  pub pool : PoolValue
  pub headed : IsHeaded (header_of number) t (prepend t.head (header_of number) v.arena) v token pool
  pub steps_are : steps ≡ Changed ∷ Put n token ∷ []
  pub after : w ≡ with_message_put n token pool

-- data gets this number, and leaves the next one; any other message passes as it is
abbrev pub NumbersIf : Bool → ℕ → ℕ → TokenValue → List Step → PoolValue → ℕ → PoolValue → Type 0
NumbersIf true number n t steps v left w = (left ≡ (number + 1) % 2 ^ 16) × IsNumbered number n t steps v w
NumbersIf false number n t steps v left w = (left ≡ number) × (steps ≡ Put n t ∷ [])

abbrev pub Numbers : ℕ → ℕ → TokenValue → List Step → PoolValue → ℕ → PoolValue → Type 0
Numbers number n t steps v left w = NumbersIf (is_message_of MData t v.arena) number n t steps v left w

-- ---- an acknowledgement on the other side

-- whether the message of token t, which has left queue q, is an M_IOCTL, and there is another queue p
abbrev pub is_request : ℕ → ℕ → TokenValue → PoolValue → Bool
is_request p q t v = is_message_of MIoctl t v.arena && (not (p == q) && has_queue v p)

-- whether it is acknowledged on queue p: its type may change
abbrev pub is_acknowledged : ℕ → ℕ → TokenValue → PoolValue → Bool
is_acknowledged p q t v = is_request p q t v && is_ok (settype t.head 0 MIocack v.arena)

-- the message of token t is an M_IOCACK now
abbrev pub acknowledged : TokenValue → PoolValue → PoolValue
acknowledged t v = value_after v (on_arena v (settype t.head 0 MIocack v.arena))

-- the message goes to queue p of the other side, as an M_IOCACK, if it is acknowledged; any other passes as it is
abbrev pub AcknowledgesIf : Bool → ℕ → ℕ → TokenValue → List Step → PoolValue → PoolValue → Type 0
AcknowledgesIf true p n t steps v w = (steps ≡ Changed ∷ Put p t ∷ []) × (w ≡ with_message_put p t (acknowledged t v))
AcknowledgesIf false p n t steps v w = steps ≡ Put n t ∷ []

abbrev pub Acknowledges : ℕ → ℕ → ℕ → TokenValue → List Step → PoolValue → PoolValue → Type 0
Acknowledges p q n t steps v w = AcknowledgesIf (is_acknowledged p q t v) p n t steps v w

-- ---- a flush of both sides

-- the first of the bytes that were found, or 0
abbrev pub first_byte : Result (List ℕ) Refusal → ℕ
first_byte (Ok bs) = slice_index_or bs 0 0
first_byte (Err why) = 0

-- what the message of token t says is to be flushed: the first byte of an M_FLUSH; no other message has anything flushed
abbrev pub flags_of_flush : TokenValue → Arena → ℕ
flags_of_flush t a = if is_message_of MFlush t a then first_byte (bytes t.head 0 a) else 0

-- a flush of queue p, if there is such a queue and it is to be flushed
abbrev pub flush_if : Bool → ℕ → PoolValue → List Step
flush_if so p v = if so && has_queue v p then Flushed p All ∷ [] else []

-- The module's read queue is flushed if bit 0 says so (FLUSHR), and its write queue if bit 1 does (FLUSHW). Then the message passes as it is.
abbrev pub flush_steps : ℕ → ℕ → ℕ → ℕ → TokenValue → PoolValue → List Step
flush_steps flags read write n t v = flush_if (flags % 2 == 1) read v ++ (flush_if (flags / 2 % 2 == 1) write v ++ (Put n t ∷ []))

-- queue p was flushed, if there is such a queue and it is to be flushed (no public clause cites it)
abbrev pub flushed_if : Bool → ℕ → PoolValue → PoolValue
flushed_if so p v = if so && has_queue v p then with_queue_flushed p All v else v
