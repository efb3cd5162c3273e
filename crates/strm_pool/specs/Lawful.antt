-- The laws of a pool: what is true of each pool, whatever calls were made.
use Rattle.std.specs.Prelude.{◌≡◌, ℕ, ◌+◌, ◌^◌, ◌<◌, ◌≤◌, IsTrue, List, Option, length, map, reverse, sum_by}
use Rattle.std.specs.List.{All}
use Rattle.strm_data.specs.CountedStore.{IsKept}
use Rattle.strm_data.specs.DataStore.{DataBlock, class_infos}
use Rattle.strm_data.specs.Limits.{most_classes}
use Rattle.strm_links.specs.Rows as rows
use Rattle.strm_mblk.specs.Arena.{IsParted, IsWithin, blocks_in, census_of, counted_in, shelf_at}
use Rattle.strm_mblk.specs.Given.{value_after}
use Rattle.strm_mblk.specs.Limits.{most_message_blocks}
use Rattle.strm_mblk.specs.Shelves.{heads_at}
use Rattle.strm_queue.specs.declared.flush.Flush.{Flush}
use Rattle.strm_queue.specs.Flow.{AreMarksApart, band_count, bytes_on, every_band, flags_at, marks_of, spec_at}
use Rattle.strm_queue.specs.Limits.{bands as number_of_bands, most_queues}
use Rattle.strm_queue.specs.QueueCalls.{flush_messages, messages_on}
use Rattle.strm_queue.specs.QueueSpecs.{are_lawful}
use Rattle.strm_queue.specs.QueuedBlocks.{AreMarksLawful, QueuedBlocks}
use Rattle.strm_queue.specs.Rank.{is_ordered, rank_of}
use Rattle.strm_queue.specs.Taking.{take_messages}
use Rattle.strm_pool.specs.Limits.{most_wishes}
use Rattle.strm_pool.specs.PoolValue.{PoolValue}
use Rattle.strm_pool.specs.Wishes as wishes

-- The laws of a pool, which `Pool::lawful` states.
pub record IsLawful (v : PoolValue) : Type 0 where
  -- Each message block is free, in one message on one queue, or in one held message. Each data block is free, or has 1 to
  -- `MOST_REFERENCES` references.
  pub parted : IsParted v.arena
  -- The size classes are lawful. Each has as many data blocks as it says, and each data block is in one class and as long
  -- as that class says.
  pub kept : IsKept (counted_in v.arena)
  -- The places of each block of a message are in its data block.
  pub within : All (IsWithin v.arena.store) (blocks_in v.arena)
  -- The band of each block of a message is below 256.
  pub bands : All (λ b. b.band < 2 ^ 8) (blocks_in v.arena)
  -- Free, queued and held message blocks are all blocks of the pool, at most `MOST_MESSAGE_BLOCKS`.
  pub whole : (census_of v.arena).free + (census_of v.arena).queued + (census_of v.arena).held ≡ length v.arena.held
  pub few : length v.arena.held ≤ most_message_blocks
  -- There are at most `MOST_CLASSES` size classes.
  pub few_classes : length (class_infos v.arena.store) ≤ most_classes
  -- The queues are lawful, at most `MOST_QUEUES`, each with flags and a shelf of messages, and with a wanted mark and water
  -- marks for each band.
  pub lawful_queues : IsTrue (are_lawful v.queues.specs)
  pub few_queues : length v.queues.specs ≤ most_queues
  pub flagged : length v.queues.flags ≡ length v.queues.specs
  pub marked : length v.queues.marks ≡ length v.queues.specs
  pub banded : (queue : ℕ) → queue < length v.queues.specs → (length (flags_at v.queues queue).wanted ≡ number_of_bands)
      × (length (marks_of v.queues queue) ≡ number_of_bands)
  pub shelves : length v.arena.shelves ≡ length v.queues.specs
  -- Ranks never rise from front to back of a queue. Going forward from its first head gives the heads of its messages, and
  -- going backward from its last head gives them in reverse.
  pub ordered : (queue : ℕ) → IsTrue (is_ordered (rank_of v.arena.store) (shelf_at v.arena queue))
  pub forward : (queue : ℕ) → let heads = heads_at v.arena queue in rows.Reads (λ head. rows.after head heads)
      (rows.first heads) heads
  pub backward : (queue : ℕ) → let heads = heads_at v.arena queue in rows.Reads (λ head. rows.before head heads)
      (rows.last heads) (reverse heads)
  -- Each band's low water mark is below its high one, and a wanted band has more bytes than its low water mark.
  pub apart : AreMarksApart v.queues
  pub marks : (queue : ℕ) → AreMarksLawful v.queues v.arena queue
  -- The bytes of a queue's bands add up to those of its messages.
  pub bytes : (queue : ℕ) → sum_by (λ band. band_count v.arena.store band (shelf_at v.arena queue)) every_band
      ≡ bytes_on (shelf_at v.arena queue)
  -- There are no more wishes than the configuration allows, at most `MOST_WISHES`. Their ids rise in the order of
  -- recording, and are below the next id.
  pub lawful_wishes : wishes.AreLawful v.wishes
  pub few_wishes : length v.wishes.pending ≤ most_wishes
  -- No queue is on the run list twice, each queue there has a service procedure, and no more queues are there than the pool
  -- has.
  pub short : length v.queues.run ≤ length v.queues.specs
  pub once : rows.IsApart v.queues.run
  pub served : All (λ queue. IsTrue (spec_at v.queues.specs queue).service) v.queues.run

-- ---- any bytes

-- Data blocks that differ in their bytes only: each has the class, the type and the number of bytes that it had.
pub record DifferInBytes (old new : List DataBlock) : Type 0 where
  pub classes : map (λ b. b.class) new ≡ map (λ b. b.class) old
  pub kinds : map (λ b. b.kind) new ≡ map (λ b. b.kind) old
  pub sizes : map (λ b. length b.bytes) new ≡ map (λ b. length b.bytes) old

-- the pool with these data blocks
abbrev pub with_data_blocks : List DataBlock → PoolValue → PoolValue
with_data_blocks bs v = record v { arena = record v.arena { store = record v.arena.store { blocks = bs } } }

-- ---- flushes

-- two values have the same queues, with the same messages on them
pub record HaveSameQueues (v w : QueuedBlocks) : Type 0 where
  pub queues : v.queues ≡ w.queues
  pub shelves : v.arena.shelves ≡ w.arena.shelves

-- A call takes at least as many messages of queue q as are there. Then it leaves the queues as the flush does that frees those messages.
abbrev pub TakesAsFlushes : QueuedBlocks → Type 0
TakesAsFlushes v = (q n : ℕ) (band : Option ℕ) (flush : Flush) → length (messages_on v q) ≤ n
    → HaveSameQueues (value_after v (take_messages q band flush n v)) (value_after v (flush_messages q band flush v))
