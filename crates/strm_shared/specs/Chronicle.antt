-- The chronicle of a shared pool: the pair after each served call, and what the calls together leave.
use Rattle.std.specs.Prelude.{◌≡◌, ℕ, ◌+◌, ◌<◌, ◌==◌, List, [], ◌∷◌, All, length, map, slice_set, if◌then◌else◌}
use Rattle.std.specs.Option.{option_map}
use Rattle.strm_pool.specs.declared.call.Call.{Call}
use Rattle.strm_pool.specs.declared.reply.Reply.{Reply}
use Rattle.strm_pool.specs.PoolValue.{PoolValue}
use Rattle.strm_pool.specs.Registers.{Entries, RegisterTable}
use Rattle.strm_pool.specs.Step.{DeskCall, Replay, empty_tables, replay, step, table_at}
use Rattle.strm_pool.specs.declared.line.Entry.{Entry}
use Rattle.strm_shared.specs.Pairs.{Pair, pair_at}

abbrev pub entry_of : ℕ → ℕ → Call → Reply → Entry
entry_of n line call reply = record { desk = n; line = line; call = call; reply = reply }

-- the entries of desk n, each with its stamp, if the first of all entries has stamp k
abbrev pub served_from : ℕ → ℕ → List Entry → List (ℕ × Entry)
served_from k n [] = []
served_from k n (e ∷ es) = if e.desk == n then (k, e) ∷ served_from (k + 1) n es else served_from (k + 1) n es

-- the calls of these entries, each with its desk
abbrev pub calls_of : List Entry → List DeskCall
calls_of es = map (λ e. record { desk = e.desk; call = e.call }) es

-- the heads in a desk's table
abbrev pub heads_listed : Entries → RegisterTable
heads_listed es = map (option_map (λ e. e.0)) es

-- the pair of a pool at a stamp, then the pair after each of these calls
abbrev pub chronicle_from : PoolValue → List RegisterTable → ℕ → List DeskCall → List Pair
chronicle_from v ts stamp [] = pair_at stamp v ∷ []
chronicle_from v ts stamp (first ∷ calls) =
    let o = step v (table_at ts first.desk) first.call in
    pair_at stamp v ∷ chronicle_from o.pool (slice_set ts first.desk o.table) (stamp + 1) calls

-- the chronicle of calls of this number of desks, whose registers are empty at first
abbrev pub chronicle : PoolValue → ℕ → ℕ → List DeskCall → List Pair
chronicle v desks first calls = chronicle_from v (empty_tables desks) first calls

-- What these calls left of a pool that was shared with this number of desks and first stamp. The pool and the desks' tables are
-- those of a replay, each call had the replay's reply, and the pairs are the chronicle.
pub record AreTold (opened : PoolValue) (desks first stamp : ℕ) (es : List Entry) (v : PoolValue) (ts : List Entries) (ps : List Pair) : Type 0 where
  pub replayed : let r : Replay = record { pool = v; tables = map heads_listed ts; replies = map (λ e. e.reply) es }
      in replay opened desks (calls_of es) ≡ r
  pub listed : ps ≡ chronicle opened desks first (calls_of es)
  pub stamped : stamp ≡ first + length es
  pub below : All (λ e. e.desk < desks) es
