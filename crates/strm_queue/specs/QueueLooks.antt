-- Looks at queues and at the messages on them, which change nothing.
use Rattle.std.specs.Prelude.{ℕ, List, [], ◌∷◌, length, Option, Result, Ok, Err, ok_or, slice_get, if◌then◌else◌}
use Rattle.strm_data.specs.declared.refusal.Refusal.{Refusal}
use Rattle.strm_data.specs.declared.refusal.Refusal.TheVariants.{NoSuchPlace, NoSuchQueue}
use Rattle.strm_data.specs.DataStore.{DataStore}
use Rattle.strm_links.specs.Rows as rows
use Rattle.strm_mblk.specs.Block.{Message, kind_of, size_of}
use Rattle.strm_mblk.specs.Given.{and_then, answer_map}
use Rattle.strm_mblk.specs.Looks.{shelved_bytes}
use Rattle.strm_mblk.specs.Shelves.{heads_at, shelf_of}
use Rattle.strm_queue.specs.declared.queue_spec.QueueSpec.{QueueSpec}
use Rattle.strm_queue.specs.declared.queued_info.QueuedInfo.{QueuedInfo}
use Rattle.strm_queue.specs.Flow.{spec_at}
use Rattle.strm_queue.specs.QueueCalls.{has_queue, messages_on}
use Rattle.strm_queue.specs.QueuedBlocks.{QueuedBlocks}

-- the spec with which queue q was made
abbrev pub queue_spec : ℕ → QueuedBlocks → Result QueueSpec Refusal
queue_spec q v = if has_queue v q then Ok (spec_at v.queues.specs q) else Err NoSuchQueue

-- the head of the first message of queue q, if any (`q_first`)
abbrev pub first_queued : ℕ → QueuedBlocks → Result (Option ℕ) Refusal
first_queued q v = if has_queue v q then Ok (rows.first (heads_at v.arena q)) else Err NoSuchQueue

-- the head of the last message of queue q, if any (`q_last`)
abbrev pub last_queued : ℕ → QueuedBlocks → Result (Option ℕ) Refusal
last_queued q v = if has_queue v q then Ok (rows.last (heads_at v.arena q)) else Err NoSuchQueue

-- the queue that has the message with head h
abbrev pub queue_of : ℕ → QueuedBlocks → Result ℕ Refusal
queue_of h v = ok_or (shelf_of v.arena h) NoSuchPlace

-- the head of the message after the one with head h on its queue, if any (`b_next`)
abbrev pub queued_after : ℕ → QueuedBlocks → Result (Option ℕ) Refusal
queued_after h v = answer_map (λ q. rows.after h (heads_at v.arena q)) (queue_of h v)

-- the head of the message before the one with head h on its queue, if any (`b_prev`)
abbrev pub queued_before : ℕ → QueuedBlocks → Result (Option ℕ) Refusal
queued_before h v = answer_map (λ q. rows.before h (heads_at v.arena q)) (queue_of h v)

-- the message at place k of queue q
abbrev pub queued_message : ℕ → ℕ → QueuedBlocks → Result Message Refusal
queued_message q k v = if has_queue v q then ok_or (slice_get (messages_on v q) k) NoSuchPlace else Err NoSuchQueue

-- head, type, band, size and number of blocks of a queued message
abbrev pub info_of_message : DataStore → Message → Result QueuedInfo Refusal
info_of_message s [] = Err NoSuchPlace
info_of_message s (b ∷ bs) = Ok (record { head = b.number; kind = kind_of s b; band = b.band; size = size_of (b ∷ bs); blocks = length (b ∷ bs) })

-- what the message at place k of queue q is like
abbrev pub queued_at : ℕ → ℕ → QueuedBlocks → Result QueuedInfo Refusal
queued_at q k v = and_then (info_of_message v.arena.store) (queued_message q k v)

-- the bytes of block k of the queued message with head h
abbrev pub queued_bytes : ℕ → ℕ → QueuedBlocks → Result (List ℕ) Refusal
queued_bytes h k v = and_then (λ q. shelved_bytes h k v.arena) (queue_of h v)
