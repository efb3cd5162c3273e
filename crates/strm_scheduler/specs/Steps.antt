-- What a module does to the queues while it treats a message, step by step, and which messages join a queue and leave it.
use Rattle.std.specs.Prelude.{◌≡◌, ℕ, ◌+◌, Bool, ◌==◌, List, [], ◌++◌, count_by, filter, map, ◌≢◌, true, ◌∷◌, None}
use Rattle.std.specs.List.{flat_map}
use Rattle.strm_data.specs.DataStore.{DataStore}
use Rattle.strm_mblk.specs.Arena.{Arena, has, shelf_at}
use Rattle.strm_mblk.specs.Block.{Message}
use Rattle.strm_queue.specs.Rank.{rank_of}
use Rattle.strm_mblk.specs.declared.token.TokenValue.{TokenValue}
use Rattle.strm_mblk.specs.Given.{value_after}
use Rattle.strm_pool.specs.PoolValue.{PoolValue, has_queue, on_queues, queued_blocks_of}
use Rattle.strm_queue.specs.declared.flush.Flush.{Flush}
use Rattle.strm_queue.specs.Flow.{with_enabled}
use Rattle.strm_queue.specs.Flush.{is_picked}
use Rattle.strm_queue.specs.QueueCalls.{flushq, message_put, putq}
use Rattle.strm_scheduler.specs.Laws.{KeepsQueued}

-- a message, with its rank
abbrev pub Ranked : Type 0
Ranked = ℕ × Message

-- these messages, each with its rank now
abbrev pub ranked : DataStore → List Message → List Ranked
ranked s ms = map (λ m. (rank_of s m, m)) ms

-- A move at a queue. joined: the module put these messages on the queue. taken: they were the first ones there, and the module got them.
-- freed: the module flushed them.
pub record Move : Type 0 where
  pub queue : ℕ
  pub joined : List Ranked
  pub taken : List Ranked
  pub freed : List Ranked

abbrev pub join : ℕ → List Ranked → Move
join q ms = record { queue = q; joined = ms; taken = []; freed = [] }

abbrev pub take_off : ℕ → List Ranked → Move
take_off q ms = record { queue = q; joined = []; taken = ms; freed = [] }

abbrev pub free_of_queue : ℕ → List Ranked → Move
free_of_queue q ms = record { queue = q; joined = []; taken = []; freed = ms }

-- what joined by these moves, was taken, and was freed, first to last
abbrev pub all_joined : List Move → List Ranked
all_joined moves = flat_map (λ x. x.joined) moves

abbrev pub all_taken : List Move → List Ranked
all_taken moves = flat_map (λ x. x.taken) moves

abbrev pub all_freed : List Move → List Ranked
all_freed moves = flat_map (λ x. x.freed) moves

-- the messages of one rank
abbrev pub with_rank : ℕ → List Ranked → List Ranked
with_rank rank ms = filter (λ m. m.0 == rank) ms

-- What these moves did at a queue that had the messages `before`, and has the messages `after`.
pub record Accounts (moves : List Move) (before after : List Ranked) : Type 0 where
  -- Each message that was there or joined is there, was taken, or was freed, once: whatever is counted, the sums agree.
  pub once : (test : Ranked → Bool) → count_by test after + count_by test (all_taken moves) + count_by test (all_freed moves)
      ≡ count_by test before + count_by test (all_joined moves)
  -- Without flushes, messages of a rank are taken in the order in which they joined.
  pub order : (rank : ℕ) → all_freed moves ≡ [] → with_rank rank (all_taken moves ++ after) ≡ with_rank rank (before ++ all_joined moves)

-- the moves at queue q
abbrev pub moves_at : ℕ → List Move → List Move
moves_at q moves = filter (λ x. x.queue == q) moves

-- the messages on queue q
abbrev pub ranked_at : Arena → ℕ → List Ranked
ranked_at a q = ranked a.store (shelf_at a q)

-- At each queue, these moves were made.
abbrev pub AreMoved : List Move → Arena → Arena → Type 0
AreMoved moves old new = (q : ℕ) → Accounts (moves_at q moves) (ranked_at old q) (ranked_at new q)

-- ---- steps

-- A step. Changed: held messages and wishes changed. Put: the message of this token was put on this queue. Flushed: messages of this
-- queue, all or those that carry data, were freed, and it was enabled. Enabled: this queue was enabled.
pub data Step : Type 0 where
  Changed : Step
  Put : ℕ → TokenValue → Step
  Flushed : ℕ → Flush → Step
  Enabled : ℕ → Step

-- the pool with another run list
abbrev pub with_run : List ℕ → PoolValue → PoolValue
with_run run v = record v { queues = record v.queues { run = run } }

-- queue p is enabled
abbrev pub with_queue_enabled : ℕ → PoolValue → PoolValue
with_queue_enabled p v = record v { queues = with_enabled p v.queues }

-- the message of token t was put on queue p
abbrev pub with_message_put : ℕ → TokenValue → PoolValue → PoolValue
with_message_put p t v = value_after v (on_queues v (putq p t.head (queued_blocks_of v)))

-- queue p was flushed, and enabled
abbrev pub with_queue_flushed : ℕ → Flush → PoolValue → PoolValue
with_queue_flushed p flush v = with_queue_enabled p (value_after v (on_queues v (flushq p flush (queued_blocks_of v))))

-- A step of a module that treats a message of queue q. It puts no message on queue q.
abbrev pub IsStep : ℕ → Step → PoolValue → PoolValue → Type 0
IsStep q Changed v w = KeepsQueued v w
IsStep q (Put p t) v w = (q ≢ p) × (has_queue v p ≡ true) × (has v.arena t ≡ true) × (w ≡ with_message_put p t v)
IsStep q (Flushed p flush) v w = (has_queue v p ≡ true) × (w ≡ with_queue_flushed p flush v)
IsStep q (Enabled p) v w = w ≡ with_queue_enabled p v

-- these steps were taken, first to last
abbrev pub AreSteps : ℕ → List Step → PoolValue → PoolValue → Type 0
AreSteps q [] v w = w ≡ v
AreSteps q (s ∷ ss) v w = (x : PoolValue) × IsStep q s v x × AreSteps q ss x w

-- ---- what moves

-- the moves of a step of a pool
abbrev pub step_moves : Step → PoolValue → List Move
step_moves Changed v = []
step_moves (Put p t) v = join p (ranked v.arena.store (message_put t.head (queued_blocks_of v) ∷ [])) ∷ []
step_moves (Flushed p flush) v = free_of_queue p (ranked v.arena.store (filter (is_picked v.arena.store None flush) (shelf_at v.arena p))) ∷ []
step_moves (Enabled p) v = []

-- the moves of these steps, first to last
abbrev pub steps_moves : (q : ℕ) (ss : List Step) (v w : PoolValue) → AreSteps q ss v w → List Move
steps_moves q [] v w steps = []
steps_moves q (s ∷ ss) v w steps = step_moves s v ++ steps_moves q ss steps.0 w steps.2

-- ---- steps that send nothing back

-- queues are unchanged
abbrev pub AreStill : List Step → Type 0
AreStill [] = Unit {0}
AreStill (Changed ∷ ss) = AreStill ss
AreStill (Put p t ∷ ss) = ⊥
AreStill (Flushed p flush ∷ ss) = ⊥
AreStill (Enabled p ∷ ss) = ⊥

-- one message at most is put, on queue n; queues are unchanged otherwise
abbrev pub PassOne : ℕ → List Step → Type 0
PassOne n [] = Unit {0}
PassOne n (Changed ∷ ss) = PassOne n ss
PassOne n (Put p t ∷ ss) = (p ≡ n) × AreStill ss
PassOne n (Flushed p flush ∷ ss) = ⊥
PassOne n (Enabled p ∷ ss) = ⊥
