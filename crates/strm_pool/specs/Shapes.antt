-- When a call on registers may run, and how its answer changes registers and reply. No public clause cites this module.
use Rattle.std.specs.Prelude.{◌≡◌, ◌<◌, ℕ, false, IsTrue, List, length, Option, None, Some, Result, Ok, Err, slice_set, if◌then◌else◌}
use Rattle.std.specs.Option.{ForSome}
use Rattle.strm_data.specs.declared.refusal.Refusal.{Refusal}
use Rattle.strm_data.specs.declared.refusal.Refusal.TheVariants.{NoSuchQueue}
use Rattle.strm_mblk.specs.declared.rejected.Rejected.{Rejected}
use Rattle.strm_mblk.specs.declared.token.TokenValue.{TokenValue}
use Rattle.strm_pool.specs.declared.call.Call.{Call}
use Rattle.strm_pool.specs.declared.names.Names.{Names}
use Rattle.strm_pool.specs.declared.reply.Reply.{Reply}
use Rattle.strm_pool.specs.declared.reply.Reply.TheVariants.{Done, Empty, Nothing, Refused, Taken}
use Rattle.strm_pool.specs.PoolValue.{PoolValue, owns}
use Rattle.strm_pool.specs.Registers.{RegisterTable, table_of}
use Rattle.strm_pool.specs.Step.{Applies, is_taken, misses_queue, misses_token, names_of}

-- A call may run: its queue exists, its sources have tokens that the pool has, and its destination is an empty register.
pub record IsReady (v : PoolValue) (rs : List (Option TokenValue)) (call : Call) : Type 0 where
  pub owned : IsTrue (owns v rs)
  pub queue : misses_queue v (names_of call) ≡ false
  pub sources : misses_token (table_of rs) (names_of call) ≡ false
  pub free : is_taken (table_of rs) (names_of call) ≡ false
  pub there : ForSome (names_of call).destination (λ x. x < length rs)

-- a call that names no register does this, whatever the registers hold
abbrev pub AppliesAlone : PoolValue → Call → PoolValue → Reply → Type 0
AppliesAlone v call w reply = (rs : List (Option TokenValue)) → IsReady v rs call → Applies v rs call w rs reply

-- the reply to a call that is refused by what it names, if it is
abbrev pub refusal_of : PoolValue → RegisterTable → Names → Option Reply
refusal_of v t names =
    if misses_queue v names then Some (Refused NoSuchQueue)
    else (if misses_token t names then Some Empty
    else (if is_taken t names then Some Taken
    else None))

-- the registers and the reply after a call
abbrev pub RegistersAndReply : Type 0
RegistersAndReply = List (Option TokenValue) × Reply

-- the destination y gets the token that the call gave
abbrev pub given_to : ℕ → Result TokenValue Refusal → List (Option TokenValue) → RegistersAndReply
given_to y (Ok token) rs = (slice_set rs y (Some token), Done)
given_to y (Err why) rs = (rs, Refused why)

-- the destination y gets the token that the call gave, if any
abbrev pub any_given_to : ℕ → Result (Option TokenValue) Refusal → List (Option TokenValue) → RegistersAndReply
any_given_to y (Ok (Some token)) rs = (slice_set rs y (Some token), Done)
any_given_to y (Ok None) rs = (rs, Nothing)
any_given_to y (Err why) rs = (rs, Refused why)

-- the source x gets its token back if the call was rejected
abbrev pub rejected_to : ℕ → Result (Unit {0}) Rejected → List (Option TokenValue) → RegistersAndReply
rejected_to x (Ok done) rs = (rs, Done)
rejected_to x (Err rejected) rs = (slice_set rs x (Some rejected.token), Refused rejected.why)

-- Register y gets the first token and x the second, if any. If the call was rejected, x gets its token back.
abbrev pub parted_to : ℕ → ℕ → Result (TokenValue × Option TokenValue) Rejected → List (Option TokenValue) → RegistersAndReply
parted_to x y (Ok tokens) rs = (slice_set (slice_set rs x tokens.1) y (Some tokens.0), Done)
parted_to x y (Err rejected) rs = (slice_set rs x (Some rejected.token), Refused rejected.why)

-- the reply with the call's answer, or its refusal
abbrev pub reply_made : {X : Type 0} → (X → Reply) → Result X Refusal → Reply
reply_made made (Ok answer) = made answer
reply_made made (Err why) = Refused why

-- the reply to a call that returns nothing: done, or its refusal
abbrev pub reply_done : Result (Unit {0}) Refusal → Reply
reply_done answer = reply_made (λ done. Done) answer
