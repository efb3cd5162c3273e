-- Calls on a queued message by its head: the queue or the place is found, and the call is made there.
use Rattle.std.specs.Prelude.{ℕ, ◌==◌, length, Option, None, Some, Result, Ok, Err, ok_or, if◌then◌else◌}
use Rattle.std.specs.List.{position}
use Rattle.strm_data.specs.declared.refusal.Refusal.{Refusal}
use Rattle.strm_data.specs.declared.refusal.Refusal.TheVariants.{NoSuchPlace, NoSuchQueue}
use Rattle.strm_mblk.specs.Block.{head_of}
use Rattle.strm_mblk.specs.Given.{Given, and_then}
use Rattle.strm_queue.specs.QueueCalls.{has_queue, insq, messages_on, rmvq}
use Rattle.strm_queue.specs.QueueLooks.{queue_of}
use Rattle.strm_queue.specs.QueuedBlocks.{QueuedBlocks}

-- the place of the message with head h on queue q, if it is there
abbrev pub place_of : QueuedBlocks → ℕ → ℕ → Result ℕ Refusal
place_of v q h = ok_or (position (λ m. head_of m == h) (messages_on v q)) NoSuchPlace

-- that place, or without a head the one after the last message
abbrev pub place_before : QueuedBlocks → ℕ → Option ℕ → Result ℕ Refusal
place_before v q None = Ok (length (messages_on v q))
place_before v q (Some h) = place_of v q h

-- the message with head h is taken off its queue, as `rmvq` says
abbrev pub rmvq_head : ℕ → QueuedBlocks → Given QueuedBlocks ℕ
rmvq_head h v = and_then (λ q. and_then (λ k. rmvq q k v) (place_of v q h)) (queue_of h v)

-- the message held at h is put on queue q before the one with this head, or last, as `insq` says
abbrev pub insq_before : ℕ → Option ℕ → ℕ → QueuedBlocks → Given QueuedBlocks (Unit {0})
insq_before q before h v = if has_queue v q then and_then (λ k. insq q k h v) (place_before v q before) else Err NoSuchQueue
