-- What a service procedure does that forwards the messages of one queue to another, and what that leaves of queues and message blocks.
use Rattle.std.specs.Prelude.{◌≡◌, ℕ, zero, suc, ◌<◌, ◌≤◌, Bool, true, false, not, ◌||◌, ◌==◌, IsTrue, [], drop, length, slice_index_or, ◌+◌, List, ◌∷◌, if◌then◌else◌}
use Rattle.strm_mblk.specs.Arena.{Arena, census_of, message_at, shelf_at, with_shelf, without_held}
use Rattle.strm_mblk.specs.Block.{Message}
use Rattle.strm_pool.specs.PoolValue.{PoolValue}
use Rattle.strm_queue.specs.Flow.{QueueState, band_count, enabled_where, enables_put, enables_put_back, fills, flags_at, hiwat_of, target, with_read, with_wanted}
use Rattle.strm_queue.specs.Limits.{high_rank}
use Rattle.strm_queue.specs.Rank.{as_queued, put_ahead, put_behind, rank_of}
use Rattle.strm_queue.specs.QueueCalls.{flags_of, messages_on, with_queue_settled, with_state}
use Rattle.strm_queue.specs.QueuedBlocks.{QueuedBlocks}

-- the first message of a queue; and the message blocks without it
abbrev pub first_on : ℕ → Arena → Message
first_on q a = slice_index_or (shelf_at a q) 0 []

abbrev pub without_first : ℕ → Arena → Arena
without_first q a = with_shelf q (drop 1 (shelf_at a q)) a

-- the message blocks with this message on queue q, after its equals; and with it put back there, before its equals
abbrev pub with_put : ℕ → Message → Arena → Arena
with_put q m a = with_shelf q (put_behind (rank_of a.store) (as_queued a.store m) (shelf_at a q)) a

abbrev pub with_put_back : ℕ → Message → Arena → Arena
with_put_back q m a = with_shelf q (put_ahead (rank_of a.store) (as_queued a.store m) (shelf_at a q)) a

-- the first message of queue `from` was put on queue `to`
abbrev pub with_first_forwarded : ℕ → ℕ → Arena → Arena
with_first_forwarded from to a = with_put to (first_on from a) (without_first from a)

-- this number of messages were forwarded, one after another
abbrev pub with_forwarded : ℕ → ℕ → ℕ → Arena → Arena
with_forwarded from to zero a = a
with_forwarded from to (suc n) a = with_first_forwarded from to (with_forwarded from to n a)

-- A message may be put on a queue if it is high priority, or if its band is not full at the queue's target.
abbrev pub has_leave : ℕ → QueueState → Arena → Message → Bool
has_leave to s a m =
    rank_of a.store m == high_rank
    || not (fills (hiwat_of s (target s.specs to) (rank_of a.store m)) (band_count a.store (rank_of a.store m) (shelf_at a (target s.specs to))))

-- whether the first message of queue `from`, once taken off, may be put on queue `to`
abbrev pub may_go : ℕ → ℕ → QueueState → Arena → Bool
may_go from to s a = has_leave to s (without_first from a) (first_on from a)

-- besides message blocks, only flags and the run list have changed
pub record KeepsRest (old new : PoolValue) : Type 0 where
  pub specs : new.queues.specs ≡ old.queues.specs
  pub marks : new.queues.marks ≡ old.queues.marks
  pub wishes : new.wishes ≡ old.wishes

-- `count` messages were forwarded.
pub record Forwards (from to count : ℕ) (old new : PoolValue) : Type 0 where
  -- They are the first ones, in order; all other message blocks, free or in messages, are unchanged.
  pub messages : new.arena ≡ with_forwarded from to count old.arena
  pub within : count ≤ length (shelf_at old.arena from)
  pub left : shelf_at new.arena from ≡ drop count (shelf_at old.arena from)
  pub census : census_of new.arena ≡ census_of old.arena
  -- Each was allowed to go when its turn came; the first message that stays, if any, is not.
  pub leave : (k : ℕ) → k < count → IsTrue (may_go from to old.queues (with_forwarded from to k old.arena))
  pub stops : count < length (shelf_at old.arena from) → may_go from to old.queues new.arena ≡ false
  -- If none stays, the want-to-read mark is set, so that the next message enables the queue.
  pub reads : count ≡ length (shelf_at old.arena from) → IsTrue (flags_at new.queues from).read
  pub rest : KeepsRest old new

-- ---- one message at a time

-- the first message went
pub record Goes (from to : ℕ) (old new : PoolValue) : Type 0 where
  pub some : 0 < length (shelf_at old.arena from)
  pub leave : may_go from to old.queues old.arena ≡ true
  pub messages : new.arena ≡ with_first_forwarded from to old.arena
  pub left : shelf_at new.arena from ≡ drop 1 (shelf_at old.arena from)
  pub rest : KeepsRest old new

-- the first message, if any, stayed
pub record Stays (from to : ℕ) (old new : PoolValue) : Type 0 where
  pub leave : 0 < length (shelf_at old.arena from) → may_go from to old.queues old.arena ≡ false
  pub reads : length (shelf_at old.arena from) ≡ 0 → (flags_at new.queues from).read ≡ true
  pub messages : new.arena ≡ old.arena
  pub rest : KeepsRest old new

abbrev pub HandsOn : ℕ → ℕ → PoolValue → Bool → PoolValue → Type 0
HandsOn from to old true new = Goes from to old new
HandsOn from to old false new = Stays from to old new

-- the message held at h is put on queue `to`, or back on queue `from`
abbrev pub with_put_either : ℕ → ℕ → ℕ → Bool → Arena → Arena
with_put_either from to h true a = with_put to (message_at a h) (without_held h a)
with_put_either from to h false a = with_put_back from (message_at a h) (without_held h a)

-- ---- what forwarding leaves: messages, flags, wanted marks and the run list

-- ---- one message on its way from one queue to another

-- `getq` takes the first message off queue q, which is settled, and ms are left.
abbrev pub with_first_off : ℕ → List Message → QueuedBlocks → QueuedBlocks
with_first_off q ms v = with_state (with_read q false) (with_queue_settled q (record v { arena = with_shelf q ms v.arena }))

-- `putq` puts the message on queue q, which it may enable.
abbrev pub with_one_put : ℕ → Message → QueuedBlocks → QueuedBlocks
with_one_put q m v =
    with_state (enabled_where (enables_put (flags_of v q) (rank_of v.arena.store m)) q) (record v { arena = with_put q m v.arena })

-- `putbq` puts the message back on queue q, which it may enable.
abbrev pub with_one_put_back : ℕ → Message → QueuedBlocks → QueuedBlocks
with_one_put_back q m v =
    with_state (enabled_where (enables_put_back (flags_of v q) (rank_of v.arena.store m)) q) (record v { arena = with_put_back q m v.arena })

-- `bcanput` found the message's band full at the target of queue `to`: the band is wanted there.
abbrev pub with_band_wanted : ℕ → Message → QueuedBlocks → QueuedBlocks
with_band_wanted to m v = with_state (with_wanted (target v.queues.specs to) (rank_of v.arena.store m)) v

-- The message has asked `bcanput` for leave, unless it is high priority. Without leave, its band is wanted.
abbrev pub with_leave_asked : ℕ → Message → Bool → QueuedBlocks → QueuedBlocks
with_leave_asked to m true v = v
with_leave_asked to m false v = with_band_wanted to m v

-- The message goes to queue `to` if it may. Otherwise its band is wanted, and it goes back to `from`.
abbrev pub with_one_placed : ℕ → ℕ → Message → Bool → QueuedBlocks → QueuedBlocks
with_one_placed from to m true v = with_one_put to m v
with_one_placed from to m false v = with_one_put_back from m (with_band_wanted to m v)

-- whether the first of these messages of queue `from` goes to `to`, and what that leaves; if there is none, the want-to-read
-- mark of `from` is set
abbrev pub hand_first : ℕ → ℕ → List Message → QueuedBlocks → Bool × QueuedBlocks
hand_first from to [] v = (false, with_state (with_read from true) v)
hand_first from to (m ∷ ms) v =
    let off : QueuedBlocks = with_first_off from ms v in
    let goes : Bool = has_leave to off.queues off.arena m in
    (goes, with_one_placed from to m goes off)

-- whether the first message of queue `from` goes to `to`, and what that leaves
unfoldable pub handed_on : ℕ → ℕ → QueuedBlocks → Bool × QueuedBlocks
handed_on from to v = hand_first from to (messages_on v from) v

-- ---- all that may go

-- what further messages give, if one went; otherwise none went
abbrev pub go_on : (QueuedBlocks → ℕ × QueuedBlocks) → Bool × QueuedBlocks → ℕ × QueuedBlocks
go_on further handed = if handed.0 then ((further handed.1).0 + 1, (further handed.1).1) else (0, handed.1)

-- Messages are handed on, one after another, until one does not go: how many went, and what that leaves. There are at most this
-- many attempts.
unfoldable pub forwarded : ℕ → ℕ → ℕ → QueuedBlocks → ℕ × QueuedBlocks
forwarded zero from to v = (0, v)
forwarded (suc attempts) from to v = go_on (forwarded attempts from to) (handed_on from to v)

-- The messages of queue `from` are forwarded to queue `to`: one attempt more than there are messages finds none.
abbrev pub all_forwarded : ℕ → ℕ → QueuedBlocks → ℕ × QueuedBlocks
all_forwarded from to v = forwarded (suc (length (messages_on v from))) from to v
