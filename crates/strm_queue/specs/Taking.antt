-- Messages that a flush would free leave their queue instead, and their tokens go to a receiver.
use Rattle.std.specs.Prelude.{◌≡◌, ◌≤◌, ℕ, zero, suc, Bool, true, false, List, [], ◌∷◌, length, map, filter, take, Option, None, Some, Result, Ok, Err, IsTrue, slice_get, if◌then◌else◌}
use Rattle.std.specs.List.{FoldsTo}
use Rattle.strm_data.specs.declared.refusal.Refusal.{Refusal}
use Rattle.strm_data.specs.declared.refusal.Refusal.TheVariants.{NoSuchQueue}
use Rattle.strm_links.specs.Rows as rows
use Rattle.strm_mblk.specs.declared.token.TokenValue.{TokenValue}
use Rattle.strm_mblk.specs.Arena.{Arena, has, held_at, token_of, with_held, with_shelf}
use Rattle.strm_mblk.specs.Block.{Message, head_of}
use Rattle.strm_mblk.specs.Calls.{TakesAny}
use Rattle.strm_mblk.specs.Frame.{LeavesOthers}
use Rattle.strm_mblk.specs.Given.{Given, answer_map, answer_of, value_after}
use Rattle.strm_queue.specs.declared.flush.Flush.{Flush}
use Rattle.strm_queue.specs.Ends.{last_of_rank}
use Rattle.strm_queue.specs.Flow.{has_band}
use Rattle.strm_queue.specs.Flush.{is_picked}
use Rattle.strm_queue.specs.QueueCalls.{flags_of, has_queue, messages_on, with_queue_settled}
use Rattle.strm_queue.specs.QueuedBlocks.{QueuedBlocks}
use Rattle.strm_queue.specs.Rank.{rank_of}

-- the first n of these messages that are picked
abbrev pub first_picked : ℕ → (Message → Bool) → List Message → List Message
first_picked n picked ms = take n (filter picked ms)

-- the messages that stay once the first n that are picked have left
abbrev pub left_after : ℕ → (Message → Bool) → List Message → List Message
left_after zero picked ms = ms
left_after (suc n) picked [] = []
left_after (suc n) picked (m ∷ ms) = if picked m then left_after n picked ms else m ∷ left_after (suc n) picked ms

-- these messages are held, each at its own head
abbrev pub with_all_held : List Message → Arena → Arena
with_all_held [] a = a
with_all_held (m ∷ ms) a = with_all_held ms (with_held m a)

-- the first n messages of queue q that are picked are held; the others stay on it
abbrev pub with_taken : ℕ → ℕ → (Message → Bool) → QueuedBlocks → QueuedBlocks
with_taken q n picked v = record v { arena = with_all_held (first_picked n picked (messages_on v q)) (with_shelf q (left_after n picked (messages_on v q)) v.arena) }

-- the first n messages of queue q that a flush frees, of one band or of all, are held, their heads are returned, and q is settled
abbrev pub take_messages : ℕ → Option ℕ → Flush → ℕ → QueuedBlocks → Given QueuedBlocks (List ℕ)
take_messages q band flush n v =
    if has_queue v q
    then Ok (map head_of (first_picked n (is_picked v.arena.store band flush) (messages_on v q)), with_queue_settled q (with_taken q n (is_picked v.arena.store band flush) v))
    else Err NoSuchQueue

-- at most n messages of queue q that `flushq` frees are taken
abbrev pub take_flushed : ℕ → Flush → ℕ → QueuedBlocks → Given QueuedBlocks (List ℕ)
take_flushed q flush n v = take_messages q None flush n v

-- at most n messages of one band of queue q that `flushband` frees are taken
abbrev pub take_flushed_band : ℕ → ℕ → Flush → ℕ → QueuedBlocks → Given QueuedBlocks (List ℕ)
take_flushed_band q band flush n v = take_messages q (Some band) flush n v

-- ---- tokens that go to a receiver

-- Messages with these heads became held, and their tokens went to a receiver, in this order: from `before` it came to `after`.
pub record AreHanded {R : Type 0} (receives : R → TokenValue → R → Type 0) (heads : List ℕ) (old new : Arena) (before after : R) : Type 0 where
  pub handed : FoldsTo receives before (map (token_of new) heads) after
  -- the tokens are of held messages, and no message was held at their heads before
  pub had : (h : ℕ) → rows.has h heads ≡ true → IsTrue (has new (token_of new h))
  pub unheld : (h : ℕ) → rows.has h heads ≡ true → held_at old h ≡ None
  pub apart : rows.IsApart heads
  pub others : LeavesOthers heads old new

-- the heads of the messages that a call takes
abbrev pub heads_taken : Result (List ℕ) Refusal → List ℕ
heads_taken (Ok heads) = heads
heads_taken (Err why) = []

-- A call that takes messages off a shelf, hands their tokens to a receiver, and returns how many there were.
pub record Hands {V R : Type 0} (arena : V → Arena) (receives : R → TokenValue → R → Type 0) (call : Given V (List ℕ)) (old new : V) (before after : R) (result : Result ℕ Refusal) : Type 0 where
  pub left : new ≡ value_after old call
  pub count : result ≡ answer_map (λ heads. length heads) (answer_of call)
  pub tokens : AreHanded receives (heads_taken (answer_of call)) (arena old) (arena new) before after

-- ---- messages that are taken one after another

-- A call that takes messages off a shelf, at most `most`, each as `call` takes one. It hands their tokens to a receiver, and returns how
-- many there were.
pub record TakesEach {V R : Type 0} (arena : V → Arena) (receives : R → TokenValue → R → Type 0) (call : V → Given V (Option ℕ)) (most : ℕ) (old new : V) (before after : R) (result : ℕ) : Type 0 where
  pub tokens : List TokenValue
  pub each : FoldsTo (λ (v : V × R) t (w : V × R). TakesAny arena (call v.0) v.0 w.0 (Ok (Some t)) × receives v.1 t w.1) (old, before) tokens (new, after)
  pub count : result ≡ length tokens
  pub few : result ≤ most

-- No message leaves queue q in a run: it is not there, its want-to-read mark is set, a band is wanted, or its first message, if any, is the
-- last of its rank.
abbrev pub IsRunOver : ℕ → QueuedBlocks → Type 0
IsRunOver q v =
    IsTrue (has_queue v q) → (flags_of v q).read ≡ false → ((band : ℕ) → has_band (flags_of v q).wanted band ≡ false) → (m : Message) → slice_get (messages_on v q) 0 ≡ Some m
    → last_of_rank (rank_of v.arena.store) (rank_of v.arena.store m) (messages_on v q) ≡ Some (head_of m)
