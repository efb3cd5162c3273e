-- Calls on several messages: single calls, one after another, up to the first that does not return 0.
use Rattle.std.specs.Prelude.{◌≡◌, ℕ, zero, suc, IsTrue, List, [], ◌∷◌, length, map, take, Option, None, Some, Ok, Err}
use Rattle.std.specs.List.{All}
use Rattle.strm_links.specs.Rows as rows
use Rattle.strm_mblk.specs.BlockCalls as blocks
use Rattle.strm_mblk.specs.Freeing as freeing
use Rattle.strm_mblk.specs.Given.{given_nothing}
use Rattle.strm_queue.specs.QueueCalls as queues
use Rattle.strm_pool.specs.PoolValue.{on_arena, on_queues, queued_blocks_of, with_arena}
use Rattle.strm_named.specs.declared.name.Name.{Name}
use Rattle.strm_named.specs.NamedCalls.{Outcome, Shape, answer_told, any_message, named_after, no_message, on_name, one_message, outcome_of}
use Rattle.strm_named.specs.NamedValue.{NamedValue, Renames, is_valid}
use Rattle.strm_c.specs.declared.code.Code.{Code}
use Rattle.strm_c.specs.Codes.{Answer, answer_of_result, any_or_nothing}
use Rattle.strm_c.specs.Exports.{Held, Leaves, Seen, WhileOpen, array_with}

-- ---- single calls

-- what a single call does: the pool after it, and its answer
abbrev pub Single : Type 0 → Type 0
Single Z = NamedValue → NamedValue × Answer Z

-- a single call as `CallsNamed` says
abbrev pub single : {X Y Z : Type 0} → Shape X Y → (Y → Answer Z) → (NamedValue → Outcome X) → Single Z
single shape tells outcome v = (named_after shape v (outcome v), answer_of_result tells (answer_told shape (named_after shape v (outcome v)) (outcome v)))

abbrev pub allocb : ℕ → Single Name
allocb size = single one_message Ok (λ v. outcome_of (on_arena v.pool (blocks.allocb size v.pool.arena)))

abbrev pub freemsg : Name → Single (Unit {0})
freemsg msg = single no_message Ok (λ v. on_name v msg (given_nothing (with_arena v.pool (freeing.freemsg msg.head v.pool.arena))))

abbrev pub putq : ℕ → Name → Single (Unit {0})
putq queue msg = single no_message Ok (λ v. on_name v msg (on_queues v.pool (queues.putq queue msg.head (queued_blocks_of v.pool))))

abbrev pub getq : ℕ → Single Name
getq queue = single any_message any_or_nothing (λ v. outcome_of (on_queues v.pool (queues.getq queue (queued_blocks_of v.pool))))

-- ---- one after another

-- The pool after a series of calls, what each call that returned 0 stored, and the code of the call, if any, that did not.
pub record Series (Z : Type 0) : Type 0 where
  pub after : NamedValue
  pub stored : List Z
  pub stop : Option Code

-- a call that leaves the pool v, and the series of the others if it returned 0
abbrev pub series_from : {Z : Type 0} → Series Z → NamedValue → Answer Z → Series Z
series_from others v (Ok z) = record others { stored = z ∷ others.stored }
series_from others v (Err code) = record { after = v; stored = []; stop = Some code }

-- these calls, one after another, up to the first that does not return 0
abbrev pub series_of : {Z : Type 0} → List (Single Z) → NamedValue → Series Z
series_of [] v = record { after = v; stored = []; stop = None }
series_of (call ∷ calls) v = series_from (series_of calls (call v).0) (call v).0 (call v).1

-- the number of calls that returned 0; or the code of the first call, if that did not
abbrev pub count_of : {Z : Type 0} → List Z → Option Code → Answer ℕ
count_of [] (Some code) = Err code
count_of stored stop = Ok (length stored)

-- what a series returns after this number of calls that returned 0, and one that returned a code
abbrev pub stopped : ℕ → Code → Answer ℕ
stopped zero code = Err code
stopped (suc done) code = Ok (suc done)

-- an array after what a series stored was stored in it
abbrev pub array_with_stored : {Z : Type 0} → Series Z → List Z → List Z
array_with_stored s array = array_with (length s.stored) s.stored array

-- A series of these calls on a pool: the pool after it, and its answer.
pub record MakesEach {Z : Type 0} (calls : List (Single Z)) (old new : NamedValue) (told : Answer ℕ) : Type 0 where
  pub after : new ≡ (series_of calls old).after
  pub answer : told ≡ count_of (series_of calls old).stored (series_of calls old).stop

-- ---- which names are valid then

-- the heads of these names
abbrev pub heads_of : List Name → List ℕ
heads_of names = map (λ n. n.head) names

-- These names were given: they are valid, and were not before, and are of different messages. Names with other heads are valid if
-- and only if they were before.
pub record GivesAll (names : List Name) (old new : NamedValue) : Type 0 where
  pub renames : Renames [] (heads_of names) old new
  pub valid : All (λ n. IsTrue (is_valid new n)) names
  pub apart : rows.IsApart (heads_of names)

-- These names were spent: names with their heads are valid no more. All others are valid if and only if they were before.
abbrev pub SpendsAll : List Name → NamedValue → NamedValue → Type 0
SpendsAll names old new = Renames (heads_of names) [] old new

-- ---- calls of strm.h

-- A call on several messages: it leaves what these single calls leave, and answers as their series does.
abbrev pub DoesEach : {Z : Type 0} → List (Single Z) → Seen ℕ
DoesEach calls = Leaves (λ v. (series_of calls v).after) (λ v. count_of (series_of calls v).stored (series_of calls v).stop)

-- an array after what these calls store was stored in it, if the handle is open
abbrev pub array_after : {Z : Type 0} → List (Single Z) → Held → List Z → List Z
array_after calls None array = array
array_after calls (Some v) array = array_with_stored (series_of calls v) array

-- which names are valid after calls that store names, if the handle is open
abbrev pub GivesEach : List (Single Name) → Held → Held → Type 0
GivesEach calls old new = WhileOpen (λ v w. GivesAll (series_of calls v).stored v w) old new

-- Which names are valid after a call on each of these, if the handle is open. The calls that returned 0 spent theirs.
abbrev pub SpendsEach : (Name → Single (Unit {0})) → List Name → Held → Held → Type 0
SpendsEach call names old new = WhileOpen (λ v w. SpendsAll (take (length (series_of (map call names) v).stored) names) v w) old new
