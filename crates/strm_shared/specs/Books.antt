-- The book behind the lock of a shared pool, and what a served or refused call does to book and desk.
use Rattle.std.specs.Prelude.{◌≡◌, ℕ, ◌+◌, ◌<◌, ◌≤◌, false, List, [], ◌∷◌, ◌++◌, length, All, Contains, IsPermutation, map, Option, None, Some, Result, Ok, Err, slice_index_or, slice_set, take, ◌==◌, if◌then◌else◌}
use Rattle.strm_data.specs.declared.refusal.Refusal.{Refusal}
use Rattle.strm_data.specs.declared.refusal.Refusal.TheVariants.{TraceFull, Worn}
use Rattle.strm_pool.specs.declared.call.Call.{Call}
use Rattle.strm_pool.specs.declared.call.Call.TheVariants as calls
use Rattle.strm_pool.specs.declared.reply.Reply.{Reply}
use Rattle.strm_pool.specs.declared.reply.Reply.TheVariants as replies
use Rattle.strm_pool.specs.Lawful.{IsLawful}
use Rattle.strm_pool.specs.PoolValue.{PoolValue}
use Rattle.strm_pool.specs.Registers.{AreAccounted, Entries, entries_of, register, table_of}
use Rattle.strm_pool.specs.Step.{is_named, replay, step}
use Rattle.strm_pool.specs.declared.line.Entry.{Entry}
use Rattle.strm_shared.specs.declared.name.Name.{Ghosts}
use Rattle.strm_shared.specs.Chronicle.{AreTold, calls_of, entry_of, served_from}
use Rattle.strm_shared.specs.Desks.{DeskValue, newest, with_pair_seen}
use Rattle.strm_shared.specs.Limits.{most_stamp}
use Rattle.strm_shared.specs.Pairs.{ArePairs, Pair, count_in, no_pair, pair_at}
use Rattle.strm_shared.specs.Traces.{IsTraceOf, TraceValue, entries_kept, is_full}

-- A book: the pool; the stamp; the table of each desk's registers; the pair at each stamp from the first on; the entries of all
-- served calls; and the trace.
pub record BookValue : Type 0 where
  pub pool : PoolValue
  pub stamp : ℕ
  pub tables : List Entries
  pub pairs : List Pair
  pub entries : List Entry
  pub trace : TraceValue

abbrev pub book_value : PoolValue → ℕ → List Entries → List Pair → List Entry → TraceValue → BookValue
book_value v n ts ps es t = record { pool = v; stamp = n; tables = ts; pairs = ps; entries = es; trace = t }

-- the pair that is in the word while the lock is free
abbrev pub pair_in : BookValue → Pair
pair_in b = pair_at b.stamp b.pool

-- the book's table of a desk's registers
abbrev pub table_at : BookValue → ℕ → Entries
table_at b desk = slice_index_or b.tables desk []

-- The book of a pool with this id, number of desks and first stamp. The stamp is between the first and the last. There is a
-- table for each desk. Each held message is in one register of one desk's table, with its number of blocks, and the tables have
-- nothing else.
pub record IsBookOf (id desks first : ℕ) (b : BookValue) : Type 0 where
  pub same : b.pool.arena.id ≡ id
  pub begun : first ≤ b.stamp
  pub unspent : b.stamp ≤ most_stamp
  pub tables : length b.tables ≡ desks
  pub accounted : AreAccounted b.pool.arena b.tables

-- What is true whenever the lock is free. The laws of a pool hold, and each held message is in one register of one desk's
-- table. Pool, tables, pairs and replies are those of the served calls, one after another, from the pool as it was shared. A
-- trace, if kept, has all of these calls.
pub record IsLawfulBook {N : Type 0} (n : Ghosts N) (b : BookValue) : Type 0 where
  pub book : IsBookOf n.opened.arena.id n.desks n.first b
  pub pool : IsLawful b.pool
  pub pairs : ArePairs (pair_at n.first n.opened) b.stamp b.pool b.pairs
  pub told : AreTold n.opened n.desks n.first b.stamp b.entries b.pool b.tables b.pairs
  pub trace : IsTraceOf n.kept b.entries b.trace

-- ---- a call

-- why each call is refused from now on, if it is: the stamp is the last, or else the trace is full
abbrev pub end_of : BookValue → Option Refusal
end_of b = if b.stamp == most_stamp then Some Worn else (if is_full b.trace then Some TraceFull else None)

-- A call is served: pool, registers and reply are those of a step. The stamp rises by 1. The book gets the new table of the
-- desk; other tables, and registers that the call does not name, stay. The book gets the pair of the new stamp, and the desk
-- sees it; what it saw before were earlier pairs of the book. Book, desk and a trace that is kept get the call's entry.
pub record IsServed (b : BookValue) (d : DeskValue) (line : ℕ) (call : Call) (c : BookValue) (e : DeskValue) (reply : Reply) : Type 0 where
  pub unended : end_of b ≡ None
  pub known : table_at b d.number ≡ entries_of d.regs
  pub step : step b.pool (table_of d.regs) call ≡ record { pool = c.pool; table = table_of e.regs; reply = reply }
  pub stamp : c.stamp ≡ b.stamp + 1
  pub tables : c.tables ≡ slice_set b.tables d.number (entries_of e.regs)
  pub number : e.number ≡ d.number
  pub others : (x : ℕ) → is_named call x ≡ false → register e.regs x ≡ register d.regs x
  pub listed : c.pairs ≡ b.pairs ++ pair_in c ∷ []
  pub seen : e.pairs ≡ d.pairs ++ pair_in c ∷ []
  pub had : All (Contains b.pairs) d.pairs
  pub later : All (λ p. p.0 < c.stamp) d.pairs
  pub entered : c.entries ≡ b.entries ++ entry_of d.number line call reply ∷ []
  pub traced : c.trace.entries ≡ b.trace.entries ++ entries_kept b.trace.most (entry_of d.number line call reply ∷ [])
  pub served : e.served ≡ d.served ++ (c.stamp, entry_of d.number line call reply) ∷ []

-- A call is served. Or it is refused, as every call is now: the book stays unchanged, and the desk sees the last pair.
abbrev pub Answers : BookValue → DeskValue → ℕ → Call → BookValue → DeskValue → Result Reply Refusal → Type 0
Answers b d line call c e (Ok reply) = IsServed b d line call c e reply
Answers b d line call c e (Err why) = (end_of b ≡ Some why) × (c ≡ b) × (e ≡ with_pair_seen (pair_in b) d)

-- ---- what is known without the book

-- A book that the shared pool of this name may have: it is lawful, and its pool has as many message blocks as when it was
-- shared.
pub record IsBookUnder {N : Type 0} (n : Ghosts N) (b : BookValue) : Type 0 where
  pub lawful : IsLawfulBook n b
  pub sized : length b.pool.arena.held ≡ length n.opened.arena.held

-- a pair counts all message blocks of the named pool
abbrev pub IsWholeUnder : {N : Type 0} → Ghosts N → Pair → Type 0
IsWholeUnder n p = count_in p.1 ≡ length n.opened.arena.held

-- A desk after a call was served on it, or refused, by a book that the shared pool may have. No more is known of the book,
-- since other threads have had it too.
abbrev pub IsAfter : {N : Type 0} → Ghosts N → DeskValue → ℕ → Call → DeskValue → Result Reply Refusal → Type 0
IsAfter n d line call e r = (b : BookValue) × (c : BookValue) × IsBookUnder n b × IsBookUnder n c × Answers b d line call c e r

-- The stamp at which each call is refused for this reason: for `Worn` the last one; for `TraceFull` that at which the trace is
-- full. No other reason is possible.
abbrev pub IsEnd : {N : Type 0} → Ghosts N → Refusal → ℕ → Type 0
IsEnd n Worn stamp = stamp ≡ most_stamp
IsEnd n TraceFull stamp = (most : ℕ) × (n.kept ≡ Some most) × (stamp ≡ n.first + most)
IsEnd n other stamp = ⊥

-- the reply to `census` is the census of the pair that the desk saw last
abbrev pub TellsNewest : DeskValue → Result Reply Refusal → Call → Type 0
TellsNewest e (Ok reply) calls.Census = reply ≡ replies.Census (newest e).1
TellsNewest e (Ok reply) call = Unit {0}
TellsNewest e (Err why) call = Unit {0}

-- ---- what all desks know

-- These desks came back to a pool that is now v. Each has seen the pool's last pair, and all pairs that desks saw are the
-- pool's, so one stamp has one census. Pool, pairs and replies are those of some calls, one after another, from the pool as it
-- was shared: the pair whose stamp is k above the first has the census after k calls. Each desk was served exactly the calls of
-- its number, and its registers are the table of its number. A trace, if kept, has all these calls.
pub record AreShown {N : Type 0} (n : Ghosts N) (before : List DeskValue) (v : PoolValue) (trace : List Entry) (after : List DeskValue) : Type 0 where
  pub stamp : ℕ
  pub pairs : List Pair
  pub entries : List Entry
  pub tables : List Entries
  pub told : AreTold n.opened n.desks n.first stamp entries v tables pairs
  pub counted : (k : ℕ) → k ≤ length entries → slice_index_or pairs k no_pair
      ≡ pair_at (n.first + k) (replay n.opened n.desks (calls_of (take k entries))).pool
  pub kept : trace ≡ entries_kept n.kept entries
  pub lawful : ArePairs (pair_at n.first n.opened) stamp v pairs
  pub same : IsPermutation (map (with_pair_seen (pair_at stamp v)) before) after
  pub seen : All (λ d. All (Contains pairs) d.pairs) after
  pub served : All (λ d. d.served ≡ served_from (n.first + 1) d.number entries) after
  pub known : All (λ d. slice_index_or tables d.number [] ≡ entries_of d.regs) after
