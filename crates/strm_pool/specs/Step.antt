-- One call as a step of the model, on a pool and a register table, with its reply; and replays of many calls.
use Rattle.std.specs.Prelude.{◌≡◌, ℕ, ◌<◌, Bool, false, ◌||◌, not, IsTrue, option_map, List, [], ◌∷◌, length, Option, None, Some, Ok, Err, is_some, is_none, unwrap_or, slice_index_or, slice_set, take, drop, replicate, if◌then◌else◌}
use Rattle.std.specs.Option.{option_map_or}
use Rattle.strm_data.specs.declared.refusal.Refusal.TheVariants.{NoSuchQueue}
use Rattle.strm_links.specs.Rows as rows
use Rattle.strm_mblk.specs.declared.token.TokenValue.{TokenValue}
use Rattle.strm_mblk.specs.Arena.{census_of, message_at, token_of}
use Rattle.strm_mblk.specs.Block.{bytes_of, data_size_of, size_of}
use Rattle.strm_mblk.specs.BlockCalls as blocks
use Rattle.strm_mblk.specs.Freeing as freeing
use Rattle.strm_mblk.specs.Given.{Given}
use Rattle.strm_mblk.specs.Trimming as trimming
use Rattle.strm_queue.specs.declared.marks.Marks.{Marks}
use Rattle.strm_queue.specs.QueueCalls as queues
use Rattle.strm_pool.specs.declared.call.Call.{Call}
use Rattle.strm_pool.specs.declared.call.Call.TheVariants.{Allocb, Testb, Dupb, Dupmsg, Copyb, Copymsg, Write, Settype, Setband, Linkb, Unlinkb, Rmvb, Adjmsg, Pullupmsg, Msgdsize, Size, Read, Block, Freeb, Freemsg, Putq, Putbq, Insq, Getq, Rmvq, Flushq, Flushband, Bcanput, Strqset, Strqget, Qsize, Qenable, Noenable, Enableok, Service, Bufcall, Unbufcall, Ready, Census}
use Rattle.strm_pool.specs.declared.names.Names.{Names}
use Rattle.strm_pool.specs.declared.reply.Reply.{Reply}
use Rattle.strm_pool.specs.declared.reply.Reply.TheVariants.{Done, Yes, No, Nothing, Empty, Taken, Refused}
use Rattle.strm_pool.specs.declared.reply.Reply.TheVariants as replies
use Rattle.strm_pool.specs.Limits.{most_octets, most_registers}
use Rattle.strm_pool.specs.Names.{names_from, registers_in}
use Rattle.strm_pool.specs.PoolValue.{PoolValue, Wish, has_queue, on_arena, on_queues, owns, queued_blocks_of, with_queued}
use Rattle.strm_pool.specs.Wishes as wishes
use Rattle.strm_pool.specs.Registers.{AreAccounted, AreDistinct, Entries, RegisterTable, entries_of, register, table_of}

-- what a step gives: the pool and the register table after the call, and the reply
pub record Stepped : Type 0 where
  pub pool : PoolValue
  pub table : RegisterTable
  pub reply : Reply

-- ---- the tests that come before the call's own

-- whether the call names a queue that does not exist
abbrev pub misses_queue : PoolValue → Names → Bool
misses_queue v names = option_map_or (λ q. not (has_queue v q)) names.queue false

-- whether a source has no message
abbrev pub is_empty : RegisterTable → Option ℕ → Bool
is_empty t source = option_map_or (λ x. is_none (register t x)) source false

-- the register table without the message of a source
abbrev pub without_source : Option ℕ → RegisterTable → RegisterTable
without_source source t = option_map_or (λ x. slice_set t x None) source t

-- whether a source has no message, once that of the source before it is taken
abbrev pub misses_token : RegisterTable → Names → Bool
misses_token t names = is_empty t names.source || is_empty (without_source names.source t) names.second

-- whether the destination has a message
abbrev pub is_taken : RegisterTable → Names → Bool
is_taken t names = option_map_or (λ x. is_some (register t x)) names.destination false

-- ---- what the call does

-- the registers that change, each with the head of its message or none, and the reply
abbrev pub Changes : Type 0
Changes = List (ℕ × Option ℕ) × Reply

abbrev pub with_changes : List (ℕ × Option ℕ) → RegisterTable → RegisterTable
with_changes [] t = t
with_changes (c ∷ cs) t = with_changes cs (slice_set t c.0 c.1)

-- what a step gives: this pool, this register table and this reply
abbrev pub replying : PoolValue → RegisterTable → Reply → Stepped
replying v t reply = record { pool = v; table = t; reply = reply }

-- A call on the pool; its answer says which registers change, and what the reply is. If it is refused, nothing changes.
abbrev pub step_of : {X : Type 0} → PoolValue → RegisterTable → (X → Changes) → Given PoolValue X → Stepped
step_of v t told (Ok given) = replying given.1 (with_changes (told given.0).0 t) (told given.0).1
step_of v t told (Err why) = replying v t (Refused why)

-- no register changes
abbrev pub keeps : Unit {0} → Changes
keeps done = ([], Done)

-- register x loses its message
abbrev pub spends : ℕ → Unit {0} → Changes
spends x done = ((x, None) ∷ [], Done)

-- register y gets the message
abbrev pub gives : ℕ → ℕ → Changes
gives y h = ((y, Some h) ∷ [], Done)

-- register y gets the message, if any
abbrev pub may_give : ℕ → Option ℕ → Changes
may_give y None = ([], Nothing)
may_give y (Some h) = gives y h

-- register x gets the message that is left, if any
abbrev pub leaves : ℕ → Option ℕ → Changes
leaves x rest = ((x, rest) ∷ [], Done)

-- register y gets the first message, and x the second, if any
abbrev pub parts : ℕ → ℕ → ℕ × Option ℕ → Changes
parts x y heads = ((x, heads.1) ∷ (y, Some heads.0) ∷ [], Done)

-- no register changes, and the reply has the call's answer
abbrev pub answers : {X : Type 0} → (X → Reply) → X → Changes
answers reply given = ([], reply given)

abbrev pub yes_or_no : Bool → Reply
yes_or_no answer = if answer then Yes else No

abbrev pub queue_or_nothing : Option ℕ → Reply
queue_or_nothing None = Nothing
queue_or_nothing (Some q) = replies.Queue q

abbrev pub marks_reply : Marks → Reply
marks_reply marks = replies.Marks marks.hiwat marks.lowat

abbrev pub ready_or_nothing : Option Wish → Reply
ready_or_nothing None = Nothing
ready_or_nothing (Some w) = replies.Ready w.0 w.1

-- the head of the message of a register that has one
abbrev pub head_held : RegisterTable → ℕ → ℕ
head_held t x = unwrap_or (register t x) 0

-- ---- the calls

-- what each call names, in the order: queue, sources, destination
abbrev pub names_of : Call → Names
names_of (Allocb x size) = names_from None None None (Some x)
names_of (Testb size) = names_from None None None None
names_of (Dupb x y) = names_from None (Some x) None (Some y)
names_of (Dupmsg x y) = names_from None (Some x) None (Some y)
names_of (Copyb x y) = names_from None (Some x) None (Some y)
names_of (Copymsg x y) = names_from None (Some x) None (Some y)
names_of (Write x k bytes) = names_from None (Some x) None None
names_of (Settype x k kind) = names_from None (Some x) None None
names_of (Setband x band) = names_from None (Some x) None None
names_of (Linkb x y) = names_from None (Some x) (Some y) None
names_of (Unlinkb x y) = names_from None (Some x) None (Some y)
names_of (Rmvb x k y) = names_from None (Some x) None (Some y)
names_of (Adjmsg x n) = names_from None (Some x) None None
names_of (Pullupmsg x n) = names_from None (Some x) None None
names_of (Msgdsize x) = names_from None (Some x) None None
names_of (Size x) = names_from None (Some x) None None
names_of (Read x at) = names_from None (Some x) None None
names_of (Block x k) = names_from None (Some x) None None
names_of (Freeb x) = names_from None (Some x) None None
names_of (Freemsg x) = names_from None (Some x) None None
names_of (Putq q x) = names_from (Some q) (Some x) None None
names_of (Putbq q x) = names_from (Some q) (Some x) None None
names_of (Insq q k x) = names_from (Some q) (Some x) None None
names_of (Getq q y) = names_from (Some q) None None (Some y)
names_of (Rmvq q k y) = names_from (Some q) None None (Some y)
names_of (Flushq q flush) = names_from (Some q) None None None
names_of (Flushband q band flush) = names_from (Some q) None None None
names_of (Bcanput q band) = names_from (Some q) None None None
names_of (Strqset q band hiwat lowat) = names_from (Some q) None None None
names_of (Strqget q band) = names_from (Some q) None None None
names_of (Qsize q) = names_from (Some q) None None None
names_of (Qenable q) = names_from (Some q) None None None
names_of (Noenable q) = names_from (Some q) None None None
names_of (Enableok q) = names_from (Some q) None None None
names_of Service = names_from None None None None
names_of (Bufcall size) = names_from None None None None
names_of (Unbufcall id) = names_from None None None None
names_of Ready = names_from None None None None
names_of Census = names_from None None None None

-- what a call does if its queue exists, its sources have messages, and its destination is empty
abbrev pub act : PoolValue → RegisterTable → Call → Stepped
act v t (Allocb x size) = step_of v t (gives x) (on_arena v (blocks.allocb size v.arena))
act v t (Testb size) = replying v t (yes_or_no (blocks.testb size v.arena))
act v t (Dupb x y) = step_of v t (gives y) (on_arena v (blocks.dupb (head_held t x) v.arena))
act v t (Dupmsg x y) = step_of v t (gives y) (on_arena v (blocks.dupmsg (head_held t x) v.arena))
act v t (Copyb x y) = step_of v t (gives y) (on_arena v (blocks.copyb (head_held t x) v.arena))
act v t (Copymsg x y) = step_of v t (gives y) (on_arena v (blocks.copymsg (head_held t x) v.arena))
act v t (Write x k bytes) = step_of v t keeps (on_arena v (blocks.write (head_held t x) k bytes v.arena))
act v t (Settype x k kind) = step_of v t keeps (on_arena v (blocks.settype (head_held t x) k kind v.arena))
act v t (Setband x band) = step_of v t keeps (on_arena v (Ok (tt, blocks.setband (head_held t x) band v.arena)))
act v t (Linkb x y) = step_of v t (spends y) (on_arena v (Ok (tt, blocks.linkb (head_held t x) (head_held t y) v.arena)))
act v t (Unlinkb x y) = step_of v t (may_give y) (on_arena v (Ok (blocks.unlinkb (head_held t x) v.arena)))
act v t (Rmvb x k y) = step_of v t (parts x y) (on_arena v (blocks.rmvb (head_held t x) k v.arena))
act v t (Adjmsg x n) = step_of v t keeps (on_arena v (trimming.adjmsg (head_held t x) n v.arena))
act v t (Pullupmsg x n) = step_of v t keeps (on_arena v (trimming.pullupmsg (head_held t x) n v.arena))
act v t (Msgdsize x) = replying v t (replies.Size (data_size_of v.arena.store (message_at v.arena (head_held t x))))
act v t (Size x) = replying v t (replies.Size (size_of (message_at v.arena (head_held t x))))
act v t (Read x at) = replying v t (replies.Bytes (take most_octets (drop at (bytes_of v.arena.store (message_at v.arena (head_held t x))))))
act v t (Block x k) = step_of v t (answers (λ info. replies.Block info)) (on_arena v (blocks.block (head_held t x) k v.arena))
act v t (Freeb x) = step_of v t (leaves x) (on_arena v (Ok (blocks.freeb (head_held t x) v.arena)))
act v t (Freemsg x) = step_of v t (spends x) (on_arena v (Ok (tt, freeing.freemsg (head_held t x) v.arena)))
act v t (Putq q x) = step_of v t (spends x) (on_queues v (queues.putq q (head_held t x) (queued_blocks_of v)))
act v t (Putbq q x) = step_of v t (spends x) (on_queues v (queues.putbq q (head_held t x) (queued_blocks_of v)))
act v t (Insq q k x) = step_of v t (spends x) (on_queues v (queues.insq q k (head_held t x) (queued_blocks_of v)))
act v t (Getq q y) = step_of v t (may_give y) (on_queues v (queues.getq q (queued_blocks_of v)))
act v t (Rmvq q k y) = step_of v t (gives y) (on_queues v (queues.rmvq q k (queued_blocks_of v)))
act v t (Flushq q flush) = step_of v t keeps (on_queues v (queues.flushq q flush (queued_blocks_of v)))
act v t (Flushband q band flush) = step_of v t keeps (on_queues v (queues.flushband q band flush (queued_blocks_of v)))
act v t (Bcanput q band) = step_of v t (answers yes_or_no) (on_queues v (queues.bcanput q band (queued_blocks_of v)))
act v t (Strqset q band hiwat lowat) = step_of v t keeps (on_queues v (queues.strqset q band hiwat lowat (queued_blocks_of v)))
act v t (Strqget q band) = step_of v t (answers marks_reply) (on_queues v (queues.strqget q band (queued_blocks_of v)))
act v t (Qsize q) = step_of v t (answers (λ size. replies.Size size)) (on_queues v (queues.qsize q (queued_blocks_of v)))
act v t (Qenable q) = step_of v t keeps (on_queues v (queues.qenable q (queued_blocks_of v)))
act v t (Noenable q) = step_of v t keeps (on_queues v (queues.noenable q (queued_blocks_of v)))
act v t (Enableok q) = step_of v t keeps (on_queues v (queues.enableok q (queued_blocks_of v)))
act v t Service = replying (with_queued v (queues.next_service (queued_blocks_of v)).1) t (queue_or_nothing (queues.next_service (queued_blocks_of v)).0)
act v t (Bufcall size) = step_of v t (answers (λ id. replies.Id id)) (wishes.bufcall size v)
act v t (Unbufcall id) = step_of v t keeps (wishes.unbufcall id v)
act v t Ready = replying (wishes.take_ready v).1 t (ready_or_nothing (wishes.take_ready v).0)
act v t Census = replying v t (replies.Census (census_of v.arena))

-- One call. These refusals come first, in this order: its queue does not exist, a source is empty, the destination has a
-- message. Then come the call's own.
abbrev pub step : PoolValue → RegisterTable → Call → Stepped
step v t call =
    if misses_queue v (names_of call) then replying v t (Refused NoSuchQueue)
    else (if misses_token t (names_of call) then replying v t Empty
    else (if is_taken t (names_of call) then replying v t Taken
    else act v t call))

-- ---- what a step does to tokens

-- whether a call names a register
abbrev pub is_named : Call → ℕ → Bool
is_named call x = rows.has x (registers_in (names_of call))

-- A call was applied: pool, registers and reply are those of a step. Registers that the call names have the tokens of their
-- messages, and the others keep theirs. The pool keeps its id and its number of message blocks. If all registers had
-- different messages before, so they have after, and the pool has all their tokens. If these are the registers of one of
-- several desks, and each held message was in one register of one desk, each still is.
pub record Applies (v : PoolValue) (rs : List (Option TokenValue)) (call : Call) (w : PoolValue) (ss : List (Option TokenValue)) (reply : Reply) : Type 0 where
  pub step : step v (table_of rs) call ≡ record { pool = w; table = table_of ss; reply = reply }
  pub tokens : (x : ℕ) → register ss x ≡ (if is_named call x then option_map (token_of w.arena)
      (register (table_of ss) x) else register rs x)
  pub owned : AreDistinct (table_of rs) → IsTrue (owns w ss) × AreDistinct (table_of ss)
  pub same : w.arena.id ≡ v.arena.id
  pub size : length w.arena.held ≡ length v.arena.held
  pub accounted : (desks : List Entries) (desk : ℕ) → desk < length desks → slice_index_or desks desk [] ≡ entries_of rs
      → AreAccounted v.arena desks → AreAccounted w.arena (slice_set desks desk (entries_of ss))

-- ---- replay

-- a call of one of several desks, on that desk's registers
pub record DeskCall : Type 0 where
  pub desk : ℕ
  pub call : Call

-- the pool and all desks' register tables after some calls, and the replies to these
pub record Replay : Type 0 where
  pub pool : PoolValue
  pub tables : List RegisterTable
  pub replies : List Reply

abbrev pub table_at : List RegisterTable → ℕ → RegisterTable
table_at ts desk = slice_index_or ts desk []

abbrev pub with_reply : Reply → Replay → Replay
with_reply reply rest = record rest { replies = reply ∷ rest.replies }

-- the register tables of n desks, all empty
abbrev pub empty_tables : ℕ → List RegisterTable
empty_tables desks = replicate desks (replicate most_registers None)

-- the calls, one after another, each on the register table of its desk
abbrev pub replay_from : PoolValue → List RegisterTable → List DeskCall → Replay
replay_from v ts [] = record { pool = v; tables = ts; replies = [] }
replay_from v ts (first ∷ calls) =
    let o = step v (table_at ts first.desk) first.call in
    with_reply o.reply (replay_from o.pool (slice_set ts first.desk o.table) calls)

-- a replay: the calls of n desks, whose registers are empty at first
abbrev pub replay : PoolValue → ℕ → List DeskCall → Replay
replay v desks calls = replay_from v (empty_tables desks) calls
