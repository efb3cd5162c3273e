-- No lost wake-up: each queue with a service procedure is enabled, or will be as soon as there is something for it to do. Then the laws
-- of sides of streams, and the calls of `Sides` that are no calls of a pool.
use Rattle.std.specs.Prelude.{◌≡◌, ℕ, ◌<◌, Bool, not, ◌&&◌, ◌||◌, ◌==◌, IsTrue, List, [], ◌∷◌, false, length, slice_index_or, Option, None, Some, ◌≢◌, ◌≤◌, ◌⊎◌, ◌++◌, Err, is_some, if◌then◌else◌}
use Rattle.strm_data.specs.DataStore.{DataStore}
use Rattle.strm_links.specs.Rows as rows
use Rattle.strm_mblk.specs.Block.{Message}
use Rattle.strm_queue.specs.Flow.{band_count, flags_at, has_band, lowat_of}
use Rattle.strm_queue.specs.Limits.{high_rank}
use Rattle.strm_queue.specs.QueueCalls.{count_on, flags_of, messages_on}
use Rattle.strm_queue.specs.QueuedBlocks.{QueuedBlocks}
use Rattle.strm_queue.specs.Rank.{rank_of}
use Rattle.strm_scheduler.specs.declared.need.Need.{Need}
use Rattle.strm_scheduler.specs.Sides.{AreSides, SidesValue, need_at, next_of}
use Rattle.std.specs.List.{All}
use Rattle.strm_data.specs.declared.refusal.Refusal.TheVariants.{NoSuchQueue}
use Rattle.strm_mblk.specs.Arena.{shelved_blocks}
use Rattle.strm_mblk.specs.Frame.{IsSameData}
use Rattle.strm_mblk.specs.Given.{Given, and_then, value_after}
use Rattle.strm_pool.specs.PoolValue.{PoolValue, queued_blocks_of}
use Rattle.strm_queue.specs.QueueCalls as queues
use Rattle.strm_scheduler.specs.Needs.{are_free}

-- Whether a queue with these messages may rest, by its want-to-read mark and the wanted bands of its next queue. Without
-- messages, it may if the mark is set: the next message enables the queue. With messages, it may if the first one is not of
-- high priority and its band is wanted: once that has drained, the queue is enabled.
abbrev pub may_rest : DataStore → Bool → List Bool → List Message → Bool
may_rest s read wanted [] = read
may_rest s read wanted (m ∷ ms) = not (rank_of s m == high_rank) && has_band wanted (rank_of s m)

-- whether queue q, whose next is queue n, is on the run list or may rest; its enabling must not be switched off
abbrev pub is_awake : QueuedBlocks → ℕ → ℕ → Bool
is_awake v q n =
    not (flags_of v q).noenable
    && (rows.has q v.queues.run || may_rest v.arena.store (flags_of v q).read (flags_of v n).wanted (messages_on v q))

-- Each queue with a next queue is awake.
abbrev pub IsAwake : QueuedBlocks → Type 0
IsAwake v = (q n : ℕ) → next_of v.queues.specs q ≡ Some n → IsTrue (is_awake v q n)

-- ---- waiting

-- A queue whose next is queue n waits for this band, that of its first message, which does not have high priority. The band is wanted
-- on queue n, and has more bytes there than its low water mark.
pub record IsAwaited (v : QueuedBlocks) (n band : ℕ) : Type 0 where
  pub ordinary : (band == high_rank) ≡ false
  pub wanted : IsTrue (has_band (flags_of v n).wanted band)
  pub full : lowat_of v.queues n band < band_count v.arena.store band (messages_on v n)

-- Each queue that has a next queue and a message, is not on the run list, and does not wait for blocks, waits for the band of its
-- first message.
abbrev pub AreWaiting : List (Option Need) → QueuedBlocks → Type 0
AreWaiting waits v = (q n : ℕ) → next_of v.queues.specs q ≡ Some n → 0 < length (messages_on v q) → rows.has q v.queues.run ≡ false
    → need_at waits q ≡ None → IsAwaited v n (rank_of v.arena.store (slice_index_or (messages_on v q) 0 []))

-- ---- delivery

-- the last queue of each side has no messages
abbrev pub AreEndsEmpty : QueuedBlocks → Type 0
AreEndsEmpty v = (q : ℕ) → q < length v.queues.specs → next_of v.queues.specs q ≡ None → messages_on v q ≡ []

-- no queue has messages
abbrev pub AreAllEmpty : QueuedBlocks → Type 0
AreAllEmpty v = (q : ℕ) → messages_on v q ≡ []

-- ---- the laws

-- the queues of a pool form sides, and each one with a next queue is awake
pub record AreKeptAwake (v : PoolValue) : Type 0 where
  pub sides : AreSides v.queues.specs
  pub awake : IsAwake (queued_blocks_of v)

-- Queue q, whose next is queue n, is awake, or waits for blocks; its enabling is not switched off.
abbrev pub IsAwakeOrShort : SidesValue → ℕ → ℕ → Type 0
IsAwakeOrShort v q n = IsTrue (is_awake (queued_blocks_of v.pool) q n)
    ⊎ (((flags_at v.pool.queues q).noenable ≡ false) × IsTrue (is_some (need_at v.waits q)))

-- The queues form sides. Each one with a next queue is awake, or waits for blocks. What a queue waits for is not free.
pub record AreKept (v : SidesValue) : Type 0 where
  pub sides : AreSides v.pool.queues.specs
  pub awake : (q n : ℕ) → next_of v.pool.queues.specs q ≡ Some n → IsAwakeOrShort v q n
  pub short : (q : ℕ) (need : Need) → need_at v.waits q ≡ Some need → are_free need v.pool.arena ≡ false

-- the first message of the last queue of a side, if any, is taken; a queue that is not the last is refused
abbrev pub take : ℕ → QueuedBlocks → Given QueuedBlocks (Option ℕ)
take q v = if is_some (next_of v.queues.specs q) then Err NoSuchQueue else queues.getq q v

-- What taking a message off queue q, the last one of a side, does to the run list; v is before, and w after.
pub record IsWoken (waits : List (Option Need)) (q : ℕ) (v w : QueuedBlocks) : Type 0 where
  -- The queue behind, if it rests with a message and not for blocks, waits for a band. It is enabled once that has no more bytes than
  -- its low water mark.
  pub wakes : (p : ℕ) → next_of v.queues.specs p ≡ Some q → 0 < length (messages_on v p) → rows.has p v.queues.run ≡ false
      → need_at waits p ≡ None
      → (let band = rank_of v.arena.store (slice_index_or (messages_on v p) 0 []) in count_on w q band ≤ lowat_of v.queues q band) → w.queues.run ≡ v.queues.run ++ p ∷ []
  -- no other queue is enabled, and none leaves the run list
  pub alone : (p : ℕ) → next_of v.queues.specs p ≢ Some q → rows.has p w.queues.run ≡ rows.has p v.queues.run

-- taking a message off the last queue of a side wakes the queue that waits for it, and no other
abbrev pub AreWoken : List (Option Need) → QueuedBlocks → Type 0
AreWoken waits v = (q : ℕ) → next_of v.queues.specs q ≡ None → IsWoken waits q v (value_after v (take q v))

-- The message held at h is put back first among its equals on queue q, which is enabled.
abbrev pub hold : ℕ → ℕ → QueuedBlocks → Given QueuedBlocks (Unit {0})
hold q h v = and_then (λ put. queues.qenable q put.1) (queues.putbq q h v)

-- the queues are unchanged, and so are the messages on them, with their data
pub record KeepsQueued (old new : PoolValue) : Type 0 where
  pub queues : new.queues ≡ old.queues
  pub shelves : new.arena.shelves ≡ old.arena.shelves
  pub contents : All (IsSameData old.arena.store new.arena.store) (shelved_blocks old.arena)
