-- Writers that were refused room, and wait for it. They are in the order in which they were refused, each of them once.
use Rattle.std.specs.Prelude.{◌≡◌, ℕ, Bool, true, false, not, ◌&&◌, ◌==◌, nat_lt, filter, find, List, [], ◌∷◌, ◌++◌, Option, None, Some, Result, Ok, Err, ◌<◌, ◌⊎◌, if◌then◌else◌, IsTrue}
use Rattle.std.specs.List.{All, list_any}
use Rattle.strm_data.specs.declared.refusal.Refusal.{Refusal}
use Rattle.strm_queue.specs.Flow.{QueueState, flags_at, has_band, target}
use Rattle.strm_queue.specs.Limits.{bands, most_queues}
use Rattle.strm_queue.specs.QueuedBlocks.{QueuedBlocks}
use Rattle.strm_scheduler.specs.Laws.{IsAwaited}

-- a writer: the queue on which it puts messages, and their band
abbrev pub Writer : Type 0
Writer = ℕ × ℕ

-- whether two writers are the same
abbrev pub is_same : Writer → Writer → Bool
is_same a b = a.0 == b.0 && a.1 == b.1

-- whether a writer waits
abbrev pub waits : Writer → List Writer → Bool
waits w ws = list_any (is_same w) ws

-- these writers, without one of them
abbrev pub without : Writer → List Writer → List Writer
without w ws = filter (λ x. not (is_same w x)) ws

-- A writer was refused. It comes last, unless it waits already: then it keeps its place.
abbrev pub with_refused : Writer → List Writer → List Writer
with_refused w ws = if waits w ws then ws else ws ++ w ∷ []

-- A writer was answered whether there is room. If there is, it no longer waits. If not, it waits, unless no pool has such a queue.
abbrev pub with_answer : ℕ → ℕ → Bool → List Writer → List Writer
with_answer q band room ws = if room then without (q, band) ws else (if nat_lt q most_queues then with_refused (q, band) ws else ws)

-- `bcanput` returned this to a writer
abbrev pub with_asked : ℕ → ℕ → Result Bool Refusal → List Writer → List Writer
with_asked q band (Ok room) ws = with_answer q band room ws
with_asked q band (Err why) ws = ws

-- ---- writers that may ask again

-- whether a writer's band is wanted at the target of its queue, which `bcanput` asks
abbrev pub is_wanted : QueueState → Writer → Bool
is_wanted s w = has_band (flags_at s (target s.specs w.0)).wanted w.1

-- the first of the writers whose band is not wanted there
abbrev pub first_ready : QueueState → List Writer → Option Writer
first_ready s ws = find (λ w. not (is_wanted s w)) ws

-- the writer that is given, if any, no longer waits
abbrev pub without_given : Option Writer → List Writer → List Writer
without_given None ws = ws
without_given (Some w) ws = without w ws

-- ---- writers that wait

-- The writer of queue q and this band waits. The band is wanted at the queue's target, and has more bytes there than its low water mark.
pub record IsRefused (q band : ℕ) (ws : List Writer) (v : QueuedBlocks) : Type 0 where
  pub recorded : IsTrue (waits (q, band) ws)
  pub awaited : IsAwaited v (target v.queues.specs q) band

-- each writer that waits is refused still
abbrev pub AreWritersWaiting : List Writer → QueuedBlocks → Type 0
AreWritersWaiting ws v = (q band : ℕ) → IsTrue (waits (q, band) ws) → IsAwaited v (target v.queues.specs q) band

-- the writer that an answer lets go, if any
abbrev pub let_go : ℕ → ℕ → Result Bool Refusal → Option Writer
let_go q band (Ok true) = Some (q, band)
let_go q band (Ok false) = None
let_go q band (Err why) = None

-- each writer that waits still does, but for one that was let go
abbrev pub StayWaiting : Option Writer → List Writer → List Writer → Type 0
StayWaiting gone old new = (w : Writer) → IsTrue (waits w old) → (gone ≡ Some w) ⊎ IsTrue (waits w new)

-- no writer waits twice
abbrev pub AreOnce : List Writer → Type 0
AreOnce [] = Unit {0}
AreOnce (w ∷ ws) = (waits w ws ≡ false) × AreOnce ws

-- each writer has a queue that a pool can have, and a band
abbrev pub AreWithin : List Writer → Type 0
AreWithin ws = All (λ w. (w.0 < most_queues) × (w.1 < bands)) ws
