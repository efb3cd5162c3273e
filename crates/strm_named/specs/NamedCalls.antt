-- Calls of a pool as calls on names. Each is defined by the pool's own call; names and stamps are added.
use Rattle.std.specs.Prelude.{◌≡◌, ℕ, suc, ◌+◌, ◌≤◌, ◌&&◌, min, not, ◌==◌, List, [], ◌∷◌, ◌++◌, drop, length, map, option_map, Option, None, Some, Result, Ok, Err, IfOk, MatchResult, slice_set, if◌then◌else◌}
use Rattle.std.specs.List.{FoldsTo}
use Rattle.strm_data.specs.declared.refusal.Refusal.{Refusal}
use Rattle.strm_data.specs.Lending.{Edits}
use Rattle.strm_mblk.specs.declared.token.TokenValue.{TokenValue}
use Rattle.strm_mblk.specs.Arena.{held_at}
use Rattle.strm_mblk.specs.Given.{Given, answer_of, value_after}
use Rattle.strm_queue.specs.declared.flush.Flush.{Flush}
use Rattle.strm_queue.specs.Taking as taking
use Rattle.strm_pool.specs.PoolValue.{PoolValue, on_queues, queued_blocks_of}
use Rattle.strm_scheduler.specs.declared.starting.Service.{Service}
use Rattle.strm_scheduler.specs.Laws.{AreKeptAwake}
use Rattle.strm_scheduler.specs.Running.{Serves}
use Rattle.strm_named.specs.declared.fault.Fault.{Fault}
use Rattle.strm_named.specs.declared.fault.Fault.TheVariants.{Invalid, Refused}
use Rattle.strm_named.specs.declared.name.Name.{Name}
use Rattle.strm_named.specs.NamedValue.{KeepsNames, NamedValue, Renames, is_valid, name_of, stamps_given, with_pool}

-- ---- what comes of a call

-- what a call gives: its answer and the pool after it, or why it was refused
abbrev pub Outcome : Type 0 → Type 0
Outcome X = Result (X × PoolValue) Fault

-- what a call of the pool gives
abbrev pub outcome_of : {X : Type 0} → Given PoolValue X → Outcome X
outcome_of (Ok given) = Ok given
outcome_of (Err why) = Err (Refused why)

-- what a call on a named message gives, if the name is valid
abbrev pub on_name : {X : Type 0} → NamedValue → Name → Given PoolValue X → Outcome X
on_name v n given = if is_valid v n then outcome_of given else Err Invalid

-- what a call on two named messages gives, if both names are valid and of different messages
abbrev pub on_names : {X : Type 0} → NamedValue → Name → Name → Given PoolValue X → Outcome X
on_names v n m given = if is_valid v n && (is_valid v m && not (n.head == m.head)) then outcome_of given else Err Invalid

-- what a question about a named message answers, if the name is valid
abbrev pub if_valid : {X : Type 0} → NamedValue → Name → X → Result X Fault
if_valid v n answer = if is_valid v n then Ok answer else Err Invalid

-- a result of the pool, with its refusal as a fault
abbrev pub as_named_result : {X : Type 0} → Result X Refusal → Result X Fault
as_named_result (Ok answer) = Ok answer
as_named_result (Err why) = Err (Refused why)

-- a function of what a call returned, or the call's fault
abbrev pub result_map : {A B : Type 0} → (A → B) → Result A Fault → Result B Fault
result_map f (Ok given) = Ok (f given)
result_map f (Err fault) = Err fault

-- what a question about a named message answers that the pool can refuse, if the name is valid
abbrev pub asked : {X : Type 0} → NamedValue → Name → Result X Refusal → Result X Fault
asked v n answer = if is_valid v n then as_named_result answer else Err Invalid

-- ---- what a flush would free

-- the most messages that are taken into a slice of this length
abbrev pub most_taken : ℕ → ℕ
most_taken n = min n 4294967295

-- the messages of a queue that `flushq` would free are taken, as many as fit into a slice of length n
abbrev pub take_flushed : ℕ → Flush → ℕ → NamedValue → Outcome (List ℕ)
take_flushed q flush n v = outcome_of (on_queues v.pool (taking.take_flushed q flush (most_taken n) (queued_blocks_of v.pool)))

-- the messages of one band of a queue that `flushband` would free are taken, as many as fit into a slice of length n
abbrev pub take_flushed_band : ℕ → ℕ → Flush → ℕ → NamedValue → Outcome (List ℕ)
take_flushed_band q band flush n v = outcome_of (on_queues v.pool (taking.take_flushed_band q band flush (most_taken n) (queued_blocks_of v.pool)))

-- ---- what a call gives

-- How a call's answer is turned into names: the heads of the messages that it gives, and the answer with names for heads.
pub record Shape (X Y : Type 0) : Type 0 where
  pub heads : X → List ℕ
  pub told : NamedValue → X → Y

-- the call gives no message
abbrev pub no_message : {X : Type 0} → Shape X X
no_message = record { heads = λ x. []; told = λ v x. x }

-- the call gives one message
abbrev pub one_message : Shape ℕ Name
one_message = record { heads = λ h. h ∷ []; told = λ v h. name_of v h }

-- the call gives one message or none
abbrev pub heads_in : Option ℕ → List ℕ
heads_in None = []
heads_in (Some h) = h ∷ []

abbrev pub any_message : Shape (Option ℕ) (Option Name)
any_message = record { heads = heads_in; told = λ v o. option_map (name_of v) o }

-- the call gives one message, and perhaps a second
abbrev pub two_messages : Shape (ℕ × Option ℕ) (Name × Option Name)
two_messages = record { heads = λ hs. hs.0 ∷ heads_in hs.1; told = λ v hs. (name_of v hs.0, option_map (name_of v) hs.1) }

-- the call gives messages, and returns their number
abbrev pub some_messages : Shape (List ℕ) ℕ
some_messages = record { heads = λ hs. hs; told = λ v hs. length hs }

-- The named pool after a call: each message that was given has a new stamp. A refused call changes nothing.
abbrev pub named_after : {X Y : Type 0} → Shape X Y → NamedValue → Outcome X → NamedValue
named_after s v (Ok given) = record { pool = given.1; stamps = stamps_given (s.heads given.0) v.stamps }
named_after s v (Err fault) = v

-- the call's answer with names, from the named pool after it
abbrev pub answer_told : {X Y : Type 0} → Shape X Y → NamedValue → Outcome X → Result Y Fault
answer_told s v (Ok given) = Ok (s.told v given.0)
answer_told s v (Err fault) = Err fault

-- the names of the messages that a call gives, from the named pool after it
abbrev pub names_of : {X Y : Type 0} → Shape X Y → NamedValue → Outcome X → List Name
names_of s v (Ok given) = map (λ h. name_of v h) (s.heads given.0)
names_of s v (Err fault) = []

-- a slice with these names at its beginning
abbrev pub with_names : List Name → List Name → List Name
with_names names slice = names ++ drop (length names) slice

-- a slice with these names from place k on
abbrev pub with_names_from : ℕ → List Name → List Name → List Name
with_names_from k [] slice = slice
with_names_from k (n ∷ names) slice = with_names_from (suc k) names (slice_set slice k n)

-- A call that spends the names of the messages with these heads: the named pool after it, its answer, and which names are valid
-- then.
pub record Does {X Y : Type 0} (s : Shape X Y) (outcome : Outcome X) (spent : List ℕ) (old new : NamedValue) (answer : Result Y Fault) : Type 0 where
  pub after : new ≡ named_after s old outcome
  pub told : answer ≡ answer_told s new outcome
  pub names : IfOk outcome (λ given. Renames spent (s.heads given.0) old new)

-- A call that changes no name: the pool after it is that of the pool's own call, and so is its answer.
pub record LeavesNames {X : Type 0} (call : Given PoolValue X) (old new : NamedValue) (result : Result X Refusal) : Type 0 where
  pub pool : new ≡ with_pool old (value_after old.pool call)
  pub answer : result ≡ answer_of call
  pub names : KeepsNames old new

-- A call that lends bytes of a named message to a closure, or is refused. `lent` are the bytes. `outcome` is what the call gives if the
-- closure returns r and leaves these bytes, as many as before.
abbrev pub LendsNamed : {X R : Type 0} → (List ℕ → R → List ℕ → Type 0) → Result (List ℕ) Fault → (R → List ℕ → Outcome X) → NamedValue → NamedValue → Result X Fault
    → Type 0
LendsNamed {X} {R} closure lent outcome old new answer = MatchResult lent
    (λ bytes. (r : R) × Edits closure bytes r (λ left. Does no_message (outcome r left) [] old new answer))
    (λ fault. let refused : Outcome X = Err fault in Does no_message refused [] old new answer)

-- A call that makes the message of name n anew in another named pool, and spends n here. `outcome` is what the pool's own call gives there,
-- and `freed` what freeing the message gives here. A refused call changes nothing.
pub record TransfersNamed (n : Name) (outcome : Outcome ℕ) (freed : Outcome (Unit {0})) (old new other_old other_new : NamedValue) (answer : Result Name Fault) : Type 0 where
  pub there : Does one_message outcome [] other_old other_new answer
  pub here : MatchResult answer (λ made. Does no_message freed (n.head ∷ []) old new (Ok tt)) (λ fault. new ≡ old)

-- Queues were served but for these held ones, as `serve` of strm_scheduler says, and perhaps one gave a message. If queues form sides, and each one
-- with a next queue was awake, so it is afterwards.
pub record ServesNamed (held : ℕ) (old new : NamedValue) (answer : Option (Service × Name)) : Type 0 where
  pub given : Option (Service × TokenValue)
  pub serves : Serves held old.pool given new.pool
  pub service : option_map (λ g. g.0) answer ≡ option_map (λ g. g.0) given
  pub does : Does any_message (Ok (option_map (λ g. g.1.head) given, new.pool)) [] old new (Ok (option_map (λ g. g.1) answer))
  pub awake : AreKeptAwake old.pool → AreKeptAwake new.pool

-- A call that takes messages, each as `call` takes one, and stores their names in a slice, from a place on. It returns the place after the
-- last one.
pub record TakesEachNamed (call : NamedValue → Outcome (Option ℕ)) (from : ℕ) (old new : NamedValue) (slice filled : List Name) (result : ℕ) : Type 0 where
  pub names : List Name
  pub each : FoldsTo (λ v n w. Does any_message (call v) [] v w (Ok (Some n)) × (held_at v.pool.arena n.head ≡ None)) old names new
  pub stored : filled ≡ with_names_from from names slice
  pub count : result ≡ from + length names
  pub within : result ≤ length slice
