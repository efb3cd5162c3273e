-- What the service procedures of a module did, by what the module can do with a message.
use Rattle.std.specs.Prelude.{◌≡◌, ◌<◌, ◌≤◌, ◌⊎◌, ℕ, zero, suc, Bool, true, false, filter, IfSome, List, [], ◌∷◌, ◌++◌, length, Option, Some, Ok}
use Rattle.std.specs.List.{All}
use Rattle.strm_mblk.specs.declared.token.TokenValue.{TokenValue}
use Rattle.strm_scheduler.specs.declared.ended.Ended.{Ended}
use Rattle.strm_scheduler.specs.declared.ended.Ended.TheVariants.{HeldBack, Idle, NeverMet, Spent}
use Rattle.strm_scheduler.specs.declared.need.Need.{Need}
use Rattle.strm_scheduler.specs.Forwarding.{handed_on}
use Rattle.strm_links.specs.Rows as rows
use Rattle.strm_mblk.specs.Arena.{message_at}
use Rattle.strm_pool.specs.PoolValue.{PoolValue, queued_blocks_of, with_queued}
use Rattle.strm_queue.specs.declared.queued_info.QueuedInfo.{QueuedInfo}
use Rattle.strm_queue.specs.QueueCalls.{next_service}
use Rattle.strm_queue.specs.QueueLooks.{info_of_message, queued_at}
use Rattle.strm_scheduler.specs.Needs.{are_free, can_be_free}
use Rattle.strm_scheduler.specs.Steps.{AreMoved, AreSteps, Move, PassOne, Put, Step, ranked, steps_moves, take_off, with_queue_enabled, with_run}
use Rattle.strm_scheduler.specs.Sides.{KeepsOrder, next_of}
use Rattle.strm_scheduler.specs.Running.{IsServed}
use Rattle.strm_scheduler.specs.Serving.{IsTaken}

-- `treats m v q n t steps k w`: the module m, with pool v, can treat the message of token t, which has left queue q and may go on to
-- queue n, by these steps, and then be k, with pool w
abbrev pub Treats : Type 0 → Type 1
Treats M = M → PoolValue → ℕ → ℕ → TokenValue → List Step → M → PoolValue → Type 0

-- for each message, the module puts one message at most on the next queue, and leaves the queues unchanged otherwise
abbrev pub PassesOne : {M : Type 0} → Treats M → Type 0
PassesOne {M} treats = (m k : M) (v w : PoolValue) (q n : ℕ) (t : TokenValue) (steps : List Step) → treats m v q n t steps k w → PassOne n steps

-- for each message, the module puts it on the next queue as it is, and makes no other step
abbrev pub PassesEach : {M : Type 0} → Treats M → Type 0
PassesEach {M} treats = (m k : M) (v w : PoolValue) (q n : ℕ) (t : TokenValue) (steps : List Step) → treats m v q n t steps k w → steps ≡ Put n t ∷ []

-- `needs m v q first need`: for the first message of queue q, which is like this, the module m can say, with pool v, that it needs
-- this
abbrev pub Needs : Type 0 → Type 1
Needs M = M → PoolValue → ℕ → QueuedInfo → Need → Type 0

-- for no message the module needs anything
abbrev pub NeedsNothing : {M : Type 0} → Needs M → Type 0
NeedsNothing {M} needs = (m : M) (v : PoolValue) (q : ℕ) (first : QueuedInfo) (need : Need) → needs m v q first need → need ≡ record { sizes = []; mblks = 0; later = false }

-- ---- messages that are held back

-- The first message of queue q, if there is one, is not held back: what the module needs for it is free.
abbrev pub IsMet : {M : Type 0} → Needs M → M → ℕ → PoolValue → Type 0
IsMet needs m q v = (first : QueuedInfo) → queued_at q 0 (queued_blocks_of v) ≡ Ok first
    → (need : Need) × needs m v q first need × (are_free need v.arena ≡ true)

-- The first message of queue q is held back: what the module needs for it is not free. When the module was asked, the messages were
-- the same. `ever` says whether the pool has as much.
pub record IsHeldBack {M : Type 0} (needs : Needs M) (m : M) (q : ℕ) (v : PoolValue) (ever : Bool) : Type 0 where
  pub first : QueuedInfo
  pub found : queued_at q 0 (queued_blocks_of v) ≡ Ok first
  pub asked : PoolValue
  pub same : v.arena ≡ asked.arena
  pub need : Need
  pub needed : needs m asked q first need
  pub none : are_free need v.arena ≡ false
  pub can_be : can_be_free need v.arena ≡ ever

-- each queue on the run list is held back, and what it needs can become free
abbrev pub AreHeldBack : {M : Type 0} → Needs M → M → PoolValue → Type 0
AreHeldBack needs m v = All (λ q. IsHeldBack needs m q v true) v.queues.run

-- The message of token t was the first one of queue q, may go on to queue n, and is held. When the module was asked, with pool `asked`,
-- it needed what is free now.
pub record IsReady {M : Type 0} (needs : Needs M) (m : M) (q n : ℕ) (t : TokenValue) (v : PoolValue) : Type 0 where
  pub asked : PoolValue
  pub taken : IsTaken q n t asked v
  pub first : QueuedInfo
  pub like : info_of_message v.arena.store (message_at v.arena t.head) ≡ Ok first
  pub need : Need
  pub needed : needs m asked q first need
  pub free : are_free need v.arena ≡ true

-- ---- services

-- the first message of queue q was not held back and could go on to queue n: it was taken, and treated by these steps
pub record IsTreated {M : Type 0} (needs : Needs M) (treats : Treats M) (q n : ℕ) (m : M) (v : PoolValue) (k : M) (w : PoolValue) : Type 0 where
  pub token : TokenValue
  pub held : PoolValue
  pub taken : IsTaken q n token v held
  pub ready : IsReady needs m q n token held
  pub steps : List Step
  pub treated : treats m held q n token steps k w
  pub stepped : AreSteps q steps held w

-- a number of messages of queue q were treated, one after another
abbrev pub AreTreated : {M : Type 0} → Needs M → Treats M → ℕ → ℕ → ℕ → M → PoolValue → M → PoolValue → Type 0
AreTreated needs treats q n zero m v k w = (k ≡ m) × (w ≡ v)
AreTreated {M} needs treats q n (suc count) m v k w = (l : M) × (x : PoolValue) × AreTreated needs treats q n count m v l x × IsTreated needs treats q n l x k w

-- The service of queue q ended: no message was left, or the first one could not go on to queue n. Or it was held back, and the
-- queue was enabled again.
abbrev pub Ends : {M : Type 0} → Needs M → ℕ → ℕ → M → PoolValue → PoolValue → Type 0
Ends needs q n m v w = (IsMet needs m q v × (handed_on q n (queued_blocks_of v) ≡ (false, queued_blocks_of w)))
    ⊎ ((ever : Bool) × IsHeldBack needs m q v ever × (w ≡ with_queue_enabled q v))

-- queue q was served: messages were treated, until the service ended
pub record IsQueueTreated {M : Type 0} (needs : Needs M) (treats : Treats M) (q n : ℕ) (m : M) (v : PoolValue) (k : M) (w : PoolValue) : Type 0 where
  pub count : ℕ
  pub last : PoolValue
  pub treated : AreTreated needs treats q n count m v k last
  pub ends : Ends needs q n k last w
  pub wishes : w.wishes ≡ last.wishes

-- the first queue of the run list was taken off it, and served
pub record IsFirstTreated {M : Type 0} (needs : Needs M) (treats : Treats M) (m : M) (v : PoolValue) (k : M) (w : PoolValue) : Type 0 where
  pub queue : ℕ
  pub next : ℕ
  pub first : rows.first v.queues.run ≡ Some queue
  pub goes_on : next_of v.queues.specs queue ≡ Some next
  pub met : IsMet needs m queue (with_queued v (next_service (queued_blocks_of v)).1)
  pub treated : IsQueueTreated needs treats queue next m (with_queued v (next_service (queued_blocks_of v)).1) k w

-- the first queue of the run list was held back, and is the last one now
pub record IsTurned {M : Type 0} (needs : Needs M) (queue : ℕ) (ever : Bool) (m : M) (v : PoolValue) (k : M) (w : PoolValue) : Type 0 where
  pub rest : List ℕ
  pub run : v.queues.run ≡ queue ∷ rest
  pub after : w ≡ with_run (rest ++ queue ∷ []) v
  pub held : IsHeldBack needs k queue w ever
  pub same : k ≡ m

-- the first queue of the run list was served if `so` is true; otherwise it was held back, and what it needs can become free
abbrev pub IsTurn : {M : Type 0} → Needs M → Treats M → Bool → M → PoolValue → M → PoolValue → Type 0
IsTurn needs treats true m v k w = IsFirstTreated needs treats m v k w
IsTurn needs treats false m v k w = (queue : ℕ) × IsTurned needs queue true m v k w

-- The queues of the run list had their turns, one after another: for each turn, last turn first, whether a queue was served.
abbrev pub AreTurns : {M : Type 0} → Needs M → Treats M → List Bool → M → PoolValue → M → PoolValue → Type 0
AreTurns needs treats [] m v k w = (k ≡ m) × (w ≡ v)
AreTurns {M} needs treats (so ∷ turns) m v k w = (l : M) × (x : PoolValue) × AreTurns needs treats turns m v l x × IsTurn needs treats so l x k w

-- the number of services among these turns
abbrev pub services_of : List Bool → ℕ
services_of turns = length (filter (λ so. so) turns)

-- the number of turns since the last service among them
abbrev pub turns_since : List Bool → ℕ
turns_since [] = 0
turns_since (true ∷ turns) = 0
turns_since (false ∷ turns) = suc (turns_since turns)

-- ---- what moves

-- the moves of a message that was treated: it was taken, and the steps moved others
abbrev pub treated_moves : {M : Type 0} (needs : Needs M) (treats : Treats M) (q n : ℕ) (m : M) (v : PoolValue) (k : M) (w : PoolValue) → IsTreated needs treats q n m v k w → List Move
treated_moves needs treats q n m v k w done = take_off q (ranked v.arena.store (done.taken.message ∷ [])) ∷ steps_moves q done.steps done.held w done.stepped

-- the moves of a number of messages that were treated
abbrev pub service_moves : {M : Type 0} (needs : Needs M) (treats : Treats M) (q n count : ℕ) (m : M) (v : PoolValue) (k : M) (w : PoolValue)
    → AreTreated needs treats q n count m v k w → List Move
service_moves needs treats q n zero m v k w done = []
service_moves needs treats q n (suc count) m v k w done =
    service_moves needs treats q n count m v done.0 done.1 done.2 ++ treated_moves needs treats q n done.0 done.1 k w done.3

-- the moves of a turn
abbrev pub turn_moves : {M : Type 0} (needs : Needs M) (treats : Treats M) (so : Bool) (m : M) (v : PoolValue) (k : M) (w : PoolValue) → IsTurn needs treats so m v k w → List Move
turn_moves needs treats true m v k w done =
    service_moves needs treats done.queue done.next done.treated.count m (with_queued v (next_service (queued_blocks_of v)).1) k done.treated.last done.treated.treated
turn_moves needs treats false m v k w done = []

-- the moves of these turns, first to last
abbrev pub turns_moves : {M : Type 0} (needs : Needs M) (treats : Treats M) (turns : List Bool) (m : M) (v : PoolValue) (k : M) (w : PoolValue)
    → AreTurns needs treats turns m v k w → List Move
turns_moves needs treats [] m v k w done = []
turns_moves needs treats (so ∷ turns) m v k w done =
    turns_moves needs treats turns m v done.0 done.1 done.2 ++ turn_moves needs treats so done.0 done.1 k w done.3

-- ---- a run

-- How a run ended after turns that left the module m and the pool v, by what it returns. If each queue on the run list is held back, each
-- had one turn since the last service. If a need is never met, the first queue had one more turn, was held back, and is the last one now.
abbrev pub IsEnded : {M : Type 0} → Needs M → List Bool → M → PoolValue → Ended → M → PoolValue → Type 0
IsEnded needs turns m v Idle k w = (k ≡ m) × (w ≡ v) × (w.queues.run ≡ [])
IsEnded needs turns m v HeldBack k w = (k ≡ m) × (w ≡ v) × (0 < length w.queues.run) × AreHeldBack needs k w × (turns_since turns ≡ length w.queues.run)
IsEnded needs turns m v Spent k w = (k ≡ m) × (w ≡ v) × (0 < length w.queues.run) × (turns_since turns ≡ 0)
IsEnded needs turns m v (NeverMet q) k w = IsTurned needs q false m v k w

-- What a run did: queues had their turns. With a budget, there were no more services, and as many if it is spent. No queue lost a message
-- (`moved`). If the module passes each message on as it is, each side has the same messages, and within each rank in the same order. If it
-- needs nothing besides, queues and messages are those after some services of `run`.
pub record IsRunWith {M : Type 0} (needs : Needs M) (treats : Treats M) (budget : Option ℕ) (m : M) (v : PoolValue) (ended : Ended) (k : M) (w : PoolValue) : Type 0 where
  pub turns : List Bool
  pub module_left : M
  pub pool_left : PoolValue
  pub taken : AreTurns needs treats turns m v module_left pool_left
  pub within : IfSome budget (λ most. services_of turns ≤ most)
  pub spent : ended ≡ Spent → budget ≡ Some (services_of turns)
  -- once there were as many services as the budget, no queue has another turn
  pub stops : budget ≡ Some (services_of turns) → (ended ≡ Spent) ⊎ (ended ≡ Idle)
  pub ends : IsEnded needs turns module_left pool_left ended k w
  pub moved : AreMoved (turns_moves needs treats turns m v module_left pool_left taken) v.arena w.arena
  pub order : PassesEach treats → KeepsOrder v w
  pub served : NeedsNothing needs → PassesEach treats → IsServed (queued_blocks_of v) (queued_blocks_of w)
