-- Serving the queues on the run list, one after another.
use Rattle.std.specs.Prelude.{◌≡◌, ◌<◌, ◌≤◌, ◌⊎◌, ◌-◌, ◌++◌, ℕ, zero, suc, false, nat_eq, IsTrue, List, drop, take, length, Option, None, Some, if◌then◌else◌}
use Rattle.std.specs.Option.{option_map_or}
use Rattle.strm_links.specs.Rows as rows
use Rattle.strm_mblk.specs.declared.token.TokenValue.{TokenValue}
use Rattle.strm_mblk.specs.Arena.{has}
use Rattle.strm_pool.specs.PoolValue.{PoolValue, queued_blocks_of, with_queued}
use Rattle.strm_queue.specs.QueueCalls.{next_service}
use Rattle.strm_queue.specs.QueuedBlocks.{QueuedBlocks}
use Rattle.strm_scheduler.specs.declared.starting.Service.{Service}
use Rattle.strm_scheduler.specs.Forwarding.{all_forwarded, handed_on}
use Rattle.strm_scheduler.specs.Serving.{IsTaken}
use Rattle.strm_scheduler.specs.Sides.{next_of}
use Rattle.strm_scheduler.specs.Steps.{with_queue_enabled, with_run}

-- queue q was served: its messages were forwarded to its next queue, as far as they may go
abbrev pub with_queue_served : ℕ → QueuedBlocks → QueuedBlocks
with_queue_served q v = option_map_or (λ n. (all_forwarded q n v).1) (next_of v.queues.specs q) v

-- this queue, if any, was served
abbrev pub with_any_served : Option ℕ → QueuedBlocks → QueuedBlocks
with_any_served None v = v
with_any_served (Some q) v = with_queue_served q v

-- the first queue on the run list, if any, was taken off it and served
unfoldable pub with_first_served : QueuedBlocks → QueuedBlocks
with_first_served v = with_any_served (next_service v).0 (next_service v).1

-- a number of queues were served, one after another
unfoldable pub with_served : ℕ → QueuedBlocks → QueuedBlocks
with_served zero v = v
with_served (suc count) v = with_first_served (with_served count v)

-- some number of queues were served
abbrev pub IsServed : QueuedBlocks → QueuedBlocks → Type 0
IsServed old new = (count : ℕ) × (new ≡ with_served count old)

-- ---- message by message

-- the last of these queues comes first
abbrev pub last_first : List ℕ → List ℕ
last_first run = drop (length run - 1) run ++ take (length run - 1) run

-- The queue that woke, if one did, is the first of the run list. This number of queues was enabled before.
abbrev pub with_woken_first : ℕ → PoolValue → PoolValue
with_woken_first enabled v = if nat_eq (length v.queues.run) enabled then with_run (last_first v.queues.run) v else v

-- The first queue of the run list was taken off it, and rests: its first message, if any, could not go on. A queue that woke as this was
-- taken off, and put back, is the first.
pub record IsRested (v w : PoolValue) : Type 0 where
  pub queue : ℕ
  pub next : ℕ
  pub first : rows.first v.queues.run ≡ Some queue
  pub goes_on : next_of v.queues.specs queue ≡ Some next
  pub left : PoolValue
  pub stays : handed_on queue next (next_service (queued_blocks_of v)).1 ≡ (false, queued_blocks_of left)
  pub wishes : left.wishes ≡ v.wishes
  pub after : w ≡ with_woken_first (length v.queues.run) left

-- The first queue of the run list was taken off it. Its first message, which could go on, is held. A queue that this woke is the first
-- then, and the queue is the last one again, behind those that are held back.
pub record IsGiven (held : ℕ) (s : Service) (t : TokenValue) (v w : PoolValue) : Type 0 where
  pub first : rows.first v.queues.run ≡ Some s.queue
  pub goes_on : next_of v.queues.specs s.queue ≡ Some s.next
  pub left : PoolValue
  pub taken : IsTaken s.queue s.next t (with_queued v (next_service (queued_blocks_of v)).1) left
  pub after : w ≡ with_queue_enabled s.queue (with_woken_first (length v.queues.run) left)
  pub had : IsTrue (has w.arena t)
  pub held_is : s.held ≡ held

-- This number of queues, one after another, were the first of the run list, and rest. They are not held back.
abbrev pub AreRested : ℕ → ℕ → PoolValue → PoolValue → Type 0
AreRested held zero v w = w ≡ v
AreRested held (suc count) v w = (x : PoolValue) × AreRested held count v x × (held < length x.queues.run) × IsRested x w

-- Some queues rest. Then only queues that are held back are left on the run list, or another one gave a message.
abbrev pub Starts : ℕ → PoolValue → Option (Service × TokenValue) → PoolValue → Type 0
Starts held v None w = (count : ℕ) × AreRested held count v w × (length w.queues.run ≤ held)
Starts held v (Some given) w = (count : ℕ) × (x : PoolValue) × AreRested held count v x × (held < length x.queues.run) × IsGiven held given.0 given.1 x w

-- the first queue of the run list has no next one, to which its messages could go on
abbrev pub IsBlocked : PoolValue → Type 0
IsBlocked v = (q : ℕ) × (rows.first v.queues.run ≡ Some q) × (next_of v.queues.specs q ≡ None)

-- As `Starts`, of any pool. If no message is given, some queues may rest, and the next one be blocked.
abbrev pub Serves : ℕ → PoolValue → Option (Service × TokenValue) → PoolValue → Type 0
Serves held v None w = Starts held v None w ⊎ ((count : ℕ) × AreRested held count v w × IsBlocked w)
Serves held v (Some given) w = Starts held v (Some given) w
