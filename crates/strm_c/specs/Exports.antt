-- What a call of C does with the pool of a handle, and what it returns and stores. No call is defined anew: an export cites the
-- definition that the call of the named pool, or of its `Pool`, cites, and one of the forms below.
use Rattle.std.specs.Prelude.{◌≡◌, ℕ, ◌-◌, min, ℤ, List, [], ◌∷◌, ◌++◌, drop, length, take, Option, None, Some, Result, Ok, Err, IfOk, if◌then◌else◌}
use Rattle.strm_data.specs.declared.refusal.Refusal.{Refusal}
use Rattle.strm_data.specs.DataStore.{DataStore}
use Rattle.strm_mblk.specs.Arena.{message_at}
use Rattle.strm_mblk.specs.Block.{Message, bytes_of, size_of}
use Rattle.strm_mblk.specs.Given.{Given, answer_of, value_after}
use Rattle.strm_queue.specs.QueueLooks.{queued_message}
use Rattle.strm_pool.specs.PoolValue.{PoolValue, queued_blocks_of}
use Rattle.strm_scheduler.specs.declared.starting.Service.{Service}
use Rattle.strm_scheduler.specs.Laws.{AreKeptAwake}
use Rattle.strm_named.specs.declared.name.Name.{Name}
use Rattle.strm_named.specs.NamedCalls.{Outcome, ServesNamed, Shape, answer_told, named_after, names_of, one_message, with_names}
use Rattle.strm_named.specs.NamedValue.{KeepsNames, NamedValue, Renames, is_valid, with_pool}
use Rattle.strm_c.specs.declared.code.Code.TheVariants.{BadArgument, NotOpen}
use Rattle.strm_c.specs.declared.layout.StrmService.{StrmService}
use Rattle.strm_c.specs.Codes.{Answer, number_of, number_returned, answer_of_result, answer_of_refusable, value_written}
use Rattle.strm_c.specs.InC.{service_told}

-- the pool of a handle, if the handle is open
abbrev pub Held : Type 0
Held = Option NamedValue

-- ---- what a call leaves and stores

-- A statement on a call: the pools of the handle before and after it, the number that it returns, and the values behind its
-- pointer before and after it.
abbrev pub Seen : Type 0 → Type 1
Seen Z = Held → Held → ℤ → Z → Z → Type 0

-- A call that changes the pool and answers. If the handle is not open, it returns `NotOpen`, and nothing changes.
abbrev pub Leaves : {Z : Type 0} → (NamedValue → NamedValue) → (NamedValue → Answer Z) → Seen Z
Leaves after answer None new number was is = (new ≡ None) × ((number ≡ number_of NotOpen) × (is ≡ was))
Leaves after answer (Some v) new number was is = (new ≡ Some (after v)) × ((number ≡ number_returned (answer v)) × (is ≡ value_written was (answer v)))

-- A call that answers and changes nothing.
abbrev pub Asks : {Z : Type 0} → (NamedValue → Answer Z) → Seen Z
Asks = Leaves (λ v. v)

-- ---- which names are valid then

-- what is said of the pools before and after, if the handle is open
abbrev pub WhileOpen : (NamedValue → NamedValue → Type 0) → Held → Held → Type 0
WhileOpen says (Some v) (Some w) = says v w
WhileOpen says old new = Unit {0}

-- ---- the calls of the named pool

-- A call on names: the named pool after it, its answer, and which names are valid then.
abbrev pub CallsNamed : {X Y Z : Type 0} → Shape X Y → (Y → Answer Z) → (NamedValue → Outcome X) → List ℕ → Seen Z
CallsNamed shape tells outcome spent old new number was is =
    Leaves (λ v. named_after shape v (outcome v)) (λ v. answer_of_result tells (answer_told shape (named_after shape v (outcome v)) (outcome v))) old new number was is
    × WhileOpen (λ v w. IfOk (outcome v) (λ given. Renames spent (shape.heads given.0) v w)) old new

-- A call that changes no name.
abbrev pub DoesOnPool : {X Z : Type 0} → (X → Answer Z) → (PoolValue → Given PoolValue X) → Seen Z
DoesOnPool tells given old new number was is =
    Leaves (λ v. with_pool v (value_after v.pool (given v.pool))) (λ v. answer_of_refusable tells (answer_of (given v.pool))) old new number was is
    × WhileOpen KeepsNames old new

-- A call that takes something off a list of the pool, if there is anything.
abbrev pub Takes : {X Z : Type 0} → (X → Answer Z) → (PoolValue → X × PoolValue) → Seen Z
Takes tells taken old new number was is =
    Leaves (λ v. with_pool v (taken v.pool).1) (λ v. tells (taken v.pool).0) old new number was is
    × WhileOpen KeepsNames old new

-- ---- the scheduler

-- If the handle is open, the queues form sides, and each one with a next queue was awake, then each one is awake afterwards.
abbrev pub KeepsAwake : Held → Held → Type 0
KeepsAwake = WhileOpen (λ v w. AreKeptAwake v.pool → AreKeptAwake w.pool)

-- A call that serves queues, but for these held ones.
abbrev pub ServesHeld : ℕ → Seen (StrmService × Name)
ServesHeld held None new number was is = (new ≡ None) × ((number ≡ number_of NotOpen) × (is ≡ was))
ServesHeld held (Some v) new number was is =
    (w : NamedValue) × (answer : Option (Service × Name)) × ServesNamed held v w answer
    × ((new ≡ Some w) × ((number ≡ number_returned (service_told answer)) × (is ≡ value_written was (service_told answer))))

-- ---- a call on two pools

-- the pool of a handle from which a message was to be transferred: `left` if it was made in the other pool
abbrev pub after_transfer : NamedValue → Outcome ℕ → PoolValue → NamedValue
after_transfer v (Ok made) left = with_pool v left
after_transfer v (Err fault) left = v

-- A call that makes the message of name n anew in the pool of another handle, as `made` says, and frees it in its own, as `left` says. If
-- one of the handles is not open, it returns `NotOpen`, and nothing changes.
abbrev pub TransfersHeld : Name → (NamedValue → NamedValue → Outcome ℕ) → (NamedValue → PoolValue) → Held → Held → Held → Held → ℤ → Name → Name → Type 0
TransfersHeld n made left (Some v) new (Some w) other_new number was is =
    (new ≡ Some (after_transfer v (made v w) (left v)))
    × (WhileOpen (λ v' x. IfOk (made v w) (λ given. Renames (n.head ∷ []) [] v' x)) (Some v) new
    × CallsNamed one_message Ok (made v) [] (Some w) other_new number was is)
TransfersHeld n made left old new other_old other_new number was is = (new ≡ old) × ((other_new ≡ other_old) × ((number ≡ number_of NotOpen) × (is ≡ was)))

-- ---- numbers that mean a value of a type

-- A call with a number. If the number means nothing, the call returns `BadArgument`, and nothing changes.
abbrev pub Ranged : {A Z : Type 0} → Option A → (A → Seen Z) → Seen Z
Ranged None says = Asks (λ v. Err BadArgument)
Ranged (Some a) says = says a

-- ---- arrays and buffers

-- an array after this number of these items were stored in it, from its beginning on
abbrev pub array_with : {X : Type 0} → ℕ → List X → List X → List X
array_with count items array = take count items ++ drop count array

-- An array after a call with a number that gives messages: their names are at its beginning, if the handle is open and the number means
-- something.
abbrev pub array_with_names : {A X Y : Type 0} → Shape X Y → Option A → (A → NamedValue → Outcome X) → Held → Held → List Name → List Name
array_with_names shape (Some a) outcome (Some v) (Some w) array = with_names (names_of shape w (outcome a v)) array
array_with_names shape given outcome old new array = array

-- A buffer after bytes of a message were copied into it, from place `at` on: as many as there are and as fit.
abbrev pub buffer_with_bytes : List ℕ → ℕ → ℕ → List ℕ → List ℕ
buffer_with_bytes bytes count at into = array_with count (drop at bytes) into

abbrev pub bytes_read : Held → Name → ℕ → List ℕ → List ℕ
bytes_read None msg at into = into
bytes_read (Some v) msg at into =
    if is_valid v msg then buffer_with_bytes (bytes_of v.pool.arena.store (message_at v.pool.arena msg.head)) (min (length into) (size_of (message_at v.pool.arena msg.head) - at)) at into else into

-- the same for a message that was found; without one the buffer stays as it was
abbrev pub buffer_with_message : DataStore → Result Message Refusal → ℕ → List ℕ → List ℕ
buffer_with_message s (Ok m) at into = buffer_with_bytes (bytes_of s m) (min (length into) (size_of m - at)) at into
buffer_with_message s (Err why) at into = into

abbrev pub queued_bytes_read : Held → ℕ → ℕ → ℕ → List ℕ → List ℕ
queued_bytes_read None queue place at into = into
queued_bytes_read (Some v) queue place at into = buffer_with_message v.pool.arena.store (queued_message queue place (queued_blocks_of v.pool)) at into
