-- A service procedure at work on one queue, and the work that is left, which falls with each service. Of this module, public clauses cite
-- only `IsTaken`.
use Rattle.std.specs.Prelude.{ℕ, zero, suc, ◌+◌, List, [], ◌∷◌, length, ◌≡◌, ◌≢◌, ◌⊎◌, ◌<◌, false, true, IsTrue, Option, None, Some}
use Rattle.strm_mblk.specs.Block.{Message, head_of}
use Rattle.strm_queue.specs.QueuedBlocks.{QueuedBlocks}
use Rattle.strm_mblk.specs.declared.token.TokenValue.{TokenValue}
use Rattle.strm_scheduler.specs.Forwarding.{handed_on, has_leave, may_go, with_first_off, with_one_placed, with_put_either}
use Rattle.strm_links.specs.Rows as rows
use Rattle.strm_mblk.specs.Arena.{has, message_at, shelf_at, with_held, with_shelf}
use Rattle.strm_pool.specs.Lawful.{IsLawful}
use Rattle.strm_pool.specs.PoolValue.{PoolValue, has_queue, queued_blocks_of, with_queued}
use Rattle.strm_queue.specs.QueueCalls.{flags_of, next_service}
use Rattle.strm_scheduler.specs.Laws.{AreKeptAwake, is_awake}
use Rattle.strm_scheduler.specs.Sides.{AreSides, next_of}

-- this number for each message
abbrev pub each : ℕ → List Message → ℕ
each k [] = 0
each k (m ∷ ms) = k + each k ms

-- the number of queues from queue q on
abbrev pub from_here : List (List Message) → ℕ → ℕ
from_here [] q = 0
from_here (ms ∷ rest) zero = suc (length rest)
from_here (ms ∷ rest) (suc q) = from_here rest q

-- for each message, the number of queues from its queue on
abbrev pub weigh : List (List Message) → ℕ
weigh [] = 0
weigh (ms ∷ rest) = each (suc (length rest)) ms + weigh rest

-- a number, added a number of times
abbrev pub times_of : ℕ → ℕ → ℕ
times_of zero k = 0
times_of (suc count) k = k + times_of count k

-- two, raised to a number
abbrev pub power : ℕ → ℕ
power zero = 1
power (suc q) = power q + power q

-- the powers of the queues on the run list
abbrev pub powers : List ℕ → ℕ
powers [] = 0
powers (q ∷ qs) = power q + powers qs

-- more than the powers of any run list of this number of queues
abbrev pub most_powers : ℕ → ℕ
most_powers queues = suc (times_of queues (power queues))

-- The work: above all the queues that messages have ahead of them, then the queues that are enabled.
unfoldable pub work : QueuedBlocks → ℕ
work v = times_of (weigh v.arena.shelves) (most_powers (length v.queues.specs)) + powers v.queues.run

-- ---- a service

-- queue q is being served, its next is queue n, and all other queues are awake
pub record IsServing (q n : ℕ) (v : PoolValue) : Type 0 where
  pub sides : AreSides v.queues.specs
  pub next : next_of v.queues.specs q ≡ Some n
  pub off : (flags_of (queued_blocks_of v) q).noenable ≡ false
  pub others : (p t : ℕ) → p ≢ q → next_of v.queues.specs p ≡ Some t → IsTrue (is_awake (queued_blocks_of v) p t)

-- queue q, whose next is queue n, was the first on the run list, left it, and is being served now; all others are awake if all were
pub record IsBegun (q n : ℕ) (v x : PoolValue) : Type 0 where
  pub first : rows.first v.queues.run ≡ Some q
  pub next : next_of v.queues.specs q ≡ Some n
  pub after : x ≡ with_queued v (next_service (queued_blocks_of v)).1
  pub run : v.queues.run ≡ q ∷ x.queues.run
  pub once : rows.has q x.queues.run ≡ false
  pub serving : AreKeptAwake v → IsServing q n x
  pub behind : IsTrue (has_queue x q)
  pub ahead : IsTrue (has_queue x n)
  pub apart : q ≢ n
  pub lawful : IsLawful x

-- A service leaves less work: messages have fewer queues ahead of them, or as many, and less is enabled than with queue q.
abbrev pub FallsBy : ℕ → PoolValue → PoolValue → Type 0
FallsBy q v w = (weigh w.arena.shelves < weigh v.arena.shelves)
    ⊎ ((weigh w.arena.shelves ≡ weigh v.arena.shelves) × (powers w.queues.run < power q + powers v.queues.run))

-- the first message of queue q, which may go on to queue n, is held, by this token
pub record IsTaken (q n : ℕ) (t : TokenValue) (old new : PoolValue) : Type 0 where
  pub message : Message
  pub behind : List Message
  pub first : shelf_at old.arena q ≡ message ∷ behind
  pub leave : IsTrue (may_go q n old.queues old.arena)
  pub head : t.head ≡ head_of message
  pub queues : new.queues ≡ (with_first_off q behind (queued_blocks_of old)).queues
  pub arena : new.arena ≡ with_held message (with_shelf q behind old.arena)
  pub had : IsTrue (has new.arena t)
  pub wishes : new.wishes ≡ old.wishes

-- the first message of queue q is taken if it may go on to queue n; otherwise the queue is as after handing on
abbrev pub TakesTo : ℕ → ℕ → PoolValue → Option TokenValue → PoolValue → Type 0
TakesTo q n old None new = handed_on q n (queued_blocks_of old) ≡ (false, queued_blocks_of new)
TakesTo q n old (Some t) new = IsTaken q n t old new

-- the message of token t has no leave to go on to queue n, and is back on queue q
pub record IsPutBack (q n : ℕ) (t : TokenValue) (old new : PoolValue) : Type 0 where
  pub leave : false ≡ has_leave n old.queues old.arena (message_at old.arena t.head)
  pub messages : new.arena ≡ with_put_either q n t.head false old.arena
  pub state : new.queues ≡ (with_one_placed q n (message_at old.arena t.head) false (queued_blocks_of old)).queues

-- the message of token t is held still, if it may go on to queue n; otherwise it is put back
abbrev pub KeepsAllowed : ℕ → ℕ → TokenValue → PoolValue → Option TokenValue → PoolValue → Type 0
KeepsAllowed q n t old None new = IsPutBack q n t old new
KeepsAllowed q n t old (Some u) new =
    (true ≡ has_leave n old.queues old.arena (message_at old.arena t.head)) × (u ≡ t) × (new.queues ≡ old.queues) × (new.arena ≡ old.arena)
