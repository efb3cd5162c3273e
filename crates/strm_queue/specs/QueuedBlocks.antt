-- Queues together with message blocks, what `Queues` stores of them, and when the two agree.
use Rattle.std.specs.Prelude.{◌≡◌, ℕ, ◌<◌, List, length, map, slice_index_or, slice_set, IsTrue}
use Rattle.strm_queue.specs.declared.queue_spec.QueueSpec.{QueueSpec}
use Rattle.strm_queue.specs.declared.tally.Leaving.{Leaving}
use Rattle.strm_mblk.specs.Arena.{Arena, shelf_at}
use Rattle.strm_queue.specs.Flow.{QueueState, band_count, band_of_rank, fills, flags_at, has_band, hiwat_of, lowat_of, opening_queues}
use Rattle.strm_queue.specs.Limits.{bands}
use Rattle.strm_queue.specs.Rank.{is_ordered, rank_of}
use Rattle.strm_queue.specs.Tallies.{IsTallyOf, Tally, count_of, no_tally, without_front}

-- Queues with the message blocks of their messages: shelf q has the messages of queue q, front to back.
pub record QueuedBlocks : Type 0 where
  pub queues : QueueState
  pub arena : Arena

-- the message blocks of the two
abbrev pub arena : QueuedBlocks → Arena
arena v = v.arena

-- ---- what `Queues` stores

-- the state of the queues, and what is stored of the messages of each
pub record QueuesValue : Type 0 where
  pub state : QueueState
  pub tallies : List Tally

abbrev pub tally_at : QueuesValue → ℕ → Tally
tally_at v q = slice_index_or v.tallies q no_tally

-- queue q has this tally (no public clause cites it)
abbrev pub with_tally : ℕ → Tally → QueuesValue → QueuesValue
with_tally q t v = record v { tallies = slice_set v.tallies q t }

-- the first messages of a rank of queue q have left (no public clause cites it)
abbrev pub with_front_left : ℕ → Leaving → QueuesValue → QueuesValue
with_front_left q l v = with_tally q (without_front (hiwat_of v.state q (band_of_rank l.rank)) l (tally_at v q)) v

-- There is a shelf for each queue, each shelf is in priority order, and what is stored of it is true.
pub record AreInOrder (v : QueuesValue) (a : Arena) : Type 0 where
  pub shelves : length a.shelves ≡ length v.state.specs
  pub stored : length v.tallies ≡ length v.state.specs
  pub ordered : (q : ℕ) → IsTrue (is_ordered (rank_of a.store) (shelf_at a q))
  pub true_of : (q : ℕ) → q < length v.state.specs
      → IsTallyOf a.store (hiwat_of v.state q) (shelf_at a q) (tally_at v q)

-- the stored bytes of each band of queue q are those of its messages
abbrev pub AreCountsTrue : QueuesValue → Arena → ℕ → Type 0
AreCountsTrue v a q = (band : ℕ) → band < bands → count_of (tally_at v q) band ≡ band_count a.store band (shelf_at a q)

-- the stored full mark of each band says whether the bytes of its messages reach the high water mark
abbrev pub AreFullMarksTrue : QueuesValue → Arena → ℕ → Type 0
AreFullMarksTrue v a q = (band : ℕ) → band < bands → has_band (tally_at v q).full band ≡ fills (hiwat_of v.state q band) (band_count a.store band (shelf_at a q))

-- a wanted band of queue q has more bytes than its low water mark
abbrev pub AreMarksLawful : QueueState → Arena → ℕ → Type 0
AreMarksLawful s a q = (band : ℕ) → IsTrue (has_band (flags_at s q).wanted band) → lowat_of s q band < band_count a.store band (shelf_at a q)

-- Queues agree with message blocks if messages are in order, what is stored is true, and so are the wanted marks.
pub record Agrees (v : QueuesValue) (a : Arena) : Type 0 where
  pub in_order : AreInOrder v a
  pub marks : (q : ℕ) → AreMarksLawful v.state a q

abbrev pub opening_value : List QueueSpec → QueuesValue
opening_value specs = record { state = opening_queues specs; tallies = map (λ q. no_tally) specs }

-- the model's view of queues and message blocks together
abbrev pub queued_blocks : QueuesValue → Arena → QueuedBlocks
queued_blocks v a = record { queues = v.state; arena = a }
