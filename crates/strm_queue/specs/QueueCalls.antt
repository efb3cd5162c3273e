-- What each call on queues does to queues and message blocks. A message that is put is given by its head, and was held.
use Rattle.std.specs.Prelude.{◌≡◌, ◌<◌, ℕ, IsTrue, Bool, true, false, not, nat_le, nat_lt, filter, List, [], ◌∷◌, drop, length, Option, None, Some, Ok, Err, slice_get, if◌then◌else◌}
use Rattle.std.specs.Option.{option_map_or}
use Rattle.strm_data.specs.declared.refusal.Refusal.TheVariants.{BadMarks, BadOrder, NoSuchPlace, NoSuchQueue}
use Rattle.strm_links.specs.Chains.{without_place}
use Rattle.strm_links.specs.Rows as rows
use Rattle.strm_mblk.specs.Arena.{message_at, shelf_at, with_held, with_shelf, without_held}
use Rattle.strm_mblk.specs.Block.{Message, head_of}
use Rattle.strm_mblk.specs.Given.{Given}
use Rattle.strm_mblk.specs.Shelves.{heads_at}
use Rattle.strm_queue.specs.declared.band_info.BandInfo.{BandInfo}
use Rattle.strm_queue.specs.declared.flush.Flush.{Flush}
use Rattle.strm_queue.specs.declared.queues.putting.BurstPlace.{BurstPlace}
use Rattle.strm_queue.specs.Ends.{last_of_rank}
use Rattle.strm_queue.specs.declared.marks.Marks.{Marks}
use Rattle.strm_queue.specs.declared.queue_info.QueueInfo.{QueueInfo}
use Rattle.strm_queue.specs.Flow.{Flags, QueueState, band_count, bytes_on, with_enabled, enabled_where, enables_inserted, enables_put, enables_put_back, fills, flags_at, has_band, hiwat_of, lowat_of, marks_at, some_relieved, still_wanted, target, waker, with_flags, with_marks, with_noenable, with_read, with_wanted}
use Rattle.strm_queue.specs.Flush.{is_picked, with_freed}
use Rattle.strm_queue.specs.Limits.{ranks}
use Rattle.strm_queue.specs.QueuedBlocks.{QueuedBlocks}
use Rattle.strm_queue.specs.Rank.{as_queued, is_ordered, put_ahead, put_at, put_behind, rank_of}

-- whether there is a queue of this number
abbrev pub has_queue : QueuedBlocks → ℕ → Bool
has_queue v q = nat_lt q (length v.queues.specs)

-- the messages of a queue, front to back
abbrev pub messages_on : QueuedBlocks → ℕ → List Message
messages_on v q = shelf_at v.arena q

-- the message held at h as it will be on a queue
abbrev pub message_put : ℕ → QueuedBlocks → Message
message_put h v = as_queued v.arena.store (message_at v.arena h)

-- the rank of the message held at h
abbrev pub rank_put : ℕ → QueuedBlocks → ℕ
rank_put h v = rank_of v.arena.store (message_at v.arena h)

-- queue q has these messages, and nothing is held at h any more
abbrev pub with_put : ℕ → ℕ → List Message → QueuedBlocks → QueuedBlocks
with_put q h ms v = record v { arena = with_shelf q ms (without_held h v.arena) }

-- queue q has these messages, and message m, which was one of them, is held
abbrev pub with_got : ℕ → Message → List Message → QueuedBlocks → QueuedBlocks
with_got q m ms v = record v { arena = with_held m (with_shelf q ms v.arena) }

-- the state of the queues is changed by this function; message blocks stay
abbrev pub with_state : (QueueState → QueueState) → QueuedBlocks → QueuedBlocks
with_state change v = record v { queues = change v.queues }

-- the flags of queue q
abbrev pub flags_of : QueuedBlocks → ℕ → Flags
flags_of v q = flags_at v.queues q

-- ---- bands

-- the number of bytes of a band of queue q
abbrev pub count_on : QueuedBlocks → ℕ → ℕ → ℕ
count_on v q band = band_count v.arena.store band (messages_on v q)

-- a band is full if it has at least as many bytes as its high water mark
abbrev pub is_full : QueuedBlocks → ℕ → ℕ → Bool
is_full v q band = fills (hiwat_of v.queues q band) (count_on v q band)

-- whether some wanted band of queue q has drained
abbrev pub has_relieved : QueuedBlocks → ℕ → Bool
has_relieved v q = some_relieved (flags_of v q).wanted (count_on v q) (lowat_of v.queues q)

-- the flags of queue q, without the wanted marks of the bands that have drained
abbrev pub flags_left : QueuedBlocks → ℕ → Flags
flags_left v q = record (flags_of v q) { wanted = still_wanted (flags_of v q).wanted (count_on v q) (lowat_of v.queues q) }

-- the waker of q, if any, is enabled
abbrev pub waker_enabled : ℕ → QueueState → QueueState
waker_enabled q s = option_map_or (λ p. with_enabled p s) (waker s.specs q) s

-- the waker of q is enabled if the first argument is true; otherwise nothing changes
abbrev pub waker_enabled_where : Bool → ℕ → QueueState → QueueState
waker_enabled_where so q s = if so then waker_enabled q s else s

-- Settling: each band of q that has drained loses its wanted mark; if one did, the waker of q is enabled.
abbrev pub with_queue_settled : ℕ → QueuedBlocks → QueuedBlocks
with_queue_settled q v = with_state (λ s. waker_enabled_where (has_relieved v q) q (with_flags q (flags_left v q) s)) v

-- ---- messages are put on a queue

-- The message held at h is put on queue q after the last message of at least its rank. It may enable the queue.
abbrev pub putq : ℕ → ℕ → QueuedBlocks → Given QueuedBlocks (Unit {0})
putq q h v =
    if has_queue v q
    then Ok (tt, with_state (enabled_where (enables_put (flags_of v q) (rank_put h v)) q) (with_put q h (put_behind (rank_of v.arena.store) (message_put h v) (messages_on v q)) v))
    else Err NoSuchQueue

-- The message held at h is put on queue q before the first message of at most its rank. It may enable the queue.
abbrev pub putbq : ℕ → ℕ → QueuedBlocks → Given QueuedBlocks (Unit {0})
putbq q h v =
    if has_queue v q
    then Ok (tt, with_state (enabled_where (enables_put_back (flags_of v q) (rank_put h v)) q) (with_put q h (put_ahead (rank_of v.arena.store) (message_put h v) (messages_on v q)) v))
    else Err NoSuchQueue

-- The message held at h is put at place k of queue q, if ranks do not rise then. It may enable the queue.
abbrev pub insq : ℕ → ℕ → ℕ → QueuedBlocks → Given QueuedBlocks (Unit {0})
insq q k h v =
    if not (has_queue v q) then Err NoSuchQueue
    else (if nat_lt (length (messages_on v q)) k then Err NoSuchPlace
    else (if is_ordered (rank_of v.arena.store) (put_at k (message_put h v) (messages_on v q))
    then Ok (tt, with_state (enabled_where (enables_inserted (flags_of v q)) q) (with_put q h (put_at k (message_put h v) (messages_on v q)) v))
    else Err BadOrder))

-- A burst's next message of this rank joins queue q after the last message of the rank, and enables q no more.
pub record IsPlaceOn (p : BurstPlace) (q : ℕ) (v : QueuedBlocks) : Type 0 where
  pub there : IsTrue (has_queue v q)
  pub end : ℕ
  pub last : last_of_rank (rank_of v.arena.store) p.rank (messages_on v q) ≡ Some end
  pub before : p.before ≡ rows.after end (heads_at v.arena q)
  pub enabled : enabled_where (enables_put (flags_of v q) p.rank) q v.queues ≡ v.queues

-- the same, once the burst has a message
abbrev pub IsBurstPlace : BurstPlace → ℕ → QueuedBlocks → Type 0
IsBurstPlace p q v = p.rank < ranks → IsPlaceOn p q v

-- ---- messages are taken off a queue

-- The first of these messages, if any, is held, its head is returned, the want-to-read mark is cleared, and q is settled. If
-- there is none, the want-to-read mark is set. There is nothing to settle then: an empty queue has no wanted mark.
abbrev pub get_first : ℕ → List Message → QueuedBlocks → Given QueuedBlocks (Option ℕ)
get_first q [] v = Ok (None, with_state (with_read q true) v)
get_first q (m ∷ ms) v = Ok (Some (head_of m), with_state (with_read q false) (with_queue_settled q (with_got q m ms v)))

-- the first message of queue q, if any, is taken, and its head is returned
abbrev pub getq : ℕ → QueuedBlocks → Given QueuedBlocks (Option ℕ)
getq q v = if has_queue v q then get_first q (messages_on v q) v else Err NoSuchQueue

-- the message at place k, if any, is held, its head is returned, and q is settled
abbrev pub get_at : ℕ → ℕ → Option Message → QueuedBlocks → Given QueuedBlocks ℕ
get_at q k None v = Err NoSuchPlace
get_at q k (Some m) v = Ok (head_of m, with_queue_settled q (with_got q m (without_place k (messages_on v q)) v))

-- the message at place k of queue q is taken, and its head is returned
abbrev pub rmvq : ℕ → ℕ → QueuedBlocks → Given QueuedBlocks ℕ
rmvq q k v = if has_queue v q then get_at q k (slice_get (messages_on v q) k) v else Err NoSuchQueue

-- ---- messages are flushed

-- the picked messages of queue q are freed; the others stay on it
abbrev pub with_flushed : ℕ → (Message → Bool) → QueuedBlocks → QueuedBlocks
with_flushed q picked v = record v { arena = with_freed (filter picked (messages_on v q)) (with_shelf q (filter (λ m. not (picked m)) (messages_on v q)) v.arena) }

-- the messages of queue q that a flush frees, of one band or of all, are freed, and q is settled
abbrev pub flush_messages : ℕ → Option ℕ → Flush → QueuedBlocks → Given QueuedBlocks (Unit {0})
flush_messages q band flush v = if has_queue v q then Ok (tt, with_queue_settled q (with_flushed q (is_picked v.arena.store band flush) v)) else Err NoSuchQueue

-- messages of queue q, all or those that carry data, are freed
abbrev pub flushq : ℕ → Flush → QueuedBlocks → Given QueuedBlocks (Unit {0})
flushq q flush v = flush_messages q None flush v

-- messages of one band of queue q, all or those that carry data, are freed
abbrev pub flushband : ℕ → ℕ → Flush → QueuedBlocks → Given QueuedBlocks (Unit {0})
flushband q band flush v = flush_messages q (Some band) flush v

-- ---- flow control

-- Says whether the band has room on queue p. If the band is full, it gets its wanted mark.
abbrev pub ask_for_room : ℕ → ℕ → QueuedBlocks → Bool × QueuedBlocks
ask_for_room p band v = if is_full v p band then (false, with_state (with_wanted p band) v) else (true, v)

-- says whether the band has room at the target of q
abbrev pub bcanput : ℕ → ℕ → QueuedBlocks → Given QueuedBlocks Bool
bcanput q band v = if has_queue v q then Ok (ask_for_room (target v.queues.specs q) band v) else Err NoSuchQueue

-- ---- water marks

-- A band of queue q gets both water marks, and q is settled. All other bands keep their water marks.
abbrev pub strqset : ℕ → ℕ → ℕ → ℕ → QueuedBlocks → Given QueuedBlocks (Unit {0})
strqset q band hiwat lowat v =
    if not (has_queue v q) then Err NoSuchQueue
    else (if nat_le hiwat lowat then Err BadMarks
    else Ok (tt, with_queue_settled q (with_state (with_marks q band (record { hiwat = hiwat; lowat = lowat })) v)))

-- the water marks of a band of queue q
abbrev pub strqget : ℕ → ℕ → QueuedBlocks → Given QueuedBlocks Marks
strqget q band v = if has_queue v q then Ok (marks_at v.queues q band, v) else Err NoSuchQueue

-- ---- scheduling

-- queue q is enabled, as `with_enabled` says
abbrev pub qenable : ℕ → QueuedBlocks → Given QueuedBlocks (Unit {0})
qenable q v = if has_queue v q then Ok (tt, with_state (enabled_where true q) v) else Err NoSuchQueue

-- Enabling of queue q is switched off or on. While it is off, only high priority in `putq` and `putbq`, `qenable` and
-- settling enable the queue.
abbrev pub switch_enabling : ℕ → Bool → QueuedBlocks → Given QueuedBlocks (Unit {0})
switch_enabling q off v = if has_queue v q then Ok (tt, with_state (with_noenable q off) v) else Err NoSuchQueue

-- enabling of queue q is switched off, as `switch_enabling` says
abbrev pub noenable : ℕ → QueuedBlocks → Given QueuedBlocks (Unit {0})
noenable q v = switch_enabling q true v

-- enabling of queue q is switched on again
abbrev pub enableok : ℕ → QueuedBlocks → Given QueuedBlocks (Unit {0})
enableok q v = switch_enabling q false v

-- takes the first queue, if any, off the run list, and returns its number
abbrev pub next_service : QueuedBlocks → Option ℕ × QueuedBlocks
next_service v = (rows.first v.queues.run, with_state (λ s. record s { run = drop 1 s.run }) v)

-- ---- what a queue has

-- the number of messages on queue q
abbrev pub qsize : ℕ → QueuedBlocks → Given QueuedBlocks ℕ
qsize q v = if has_queue v q then Ok (length (messages_on v q), v) else Err NoSuchQueue

-- the messages, bytes and flags of a queue, as `QueueInfo` has them
abbrev pub info_of : QueuedBlocks → ℕ → QueueInfo
info_of v q = record {
  msgs = length (messages_on v q);
  bytes = bytes_on (messages_on v q);
  read = (flags_of v q).read;
  noenable = (flags_of v q).noenable;
  enabled = rows.has q v.queues.run;
}

-- the messages, bytes and flags of queue q, if it exists
abbrev pub queue_info : ℕ → QueuedBlocks → Given QueuedBlocks QueueInfo
queue_info q v = if has_queue v q then Ok (info_of v q, v) else Err NoSuchQueue

-- the bytes and marks of a band, as `BandInfo` has them
abbrev pub band_info_of : QueuedBlocks → ℕ → ℕ → BandInfo
band_info_of v q band = record { bytes = count_on v q band; full = is_full v q band; wanted = has_band (flags_of v q).wanted band }

-- the bytes and marks of a band of queue q, if the queue exists
abbrev pub band_info : ℕ → ℕ → QueuedBlocks → Given QueuedBlocks BandInfo
band_info q band v = if has_queue v q then Ok (band_info_of v q band, v) else Err NoSuchQueue

-- the queue at place k of the run list, if any
abbrev pub run_at : ℕ → QueuedBlocks → Option ℕ
run_at k v = slice_get v.queues.run k
