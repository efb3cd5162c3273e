-- The trace with one call more, and what a replay of the served calls gives.
use Rattle.std.proofs.Common.{◌≡◌, ℕ, ◌≤◌, false, List, [], ◌∷◌, ◌++◌, length, Option, Some, None, refl, sym, ◌∙◌, arith, zero, suc, ◌+◌, ◌<◌, map, replicate, get_or, take, ap, subst}
use Rattle.std.specs.Prelude.{IfSome, ◌==◌, All, slice_set}
use Rattle.std.specs.Option.{option_map_or}
use Rattle.std.proofs.lemmas.Bool.{eqb-false}
use Rattle.std.proofs.lemmas.List.{length_push, length-map, map_push, map-set}
use Rattle.std.specs.List.{take-map}
use Rattle.std.proofs.Math.ListN.{get_or-map}
use Rattle.std.proofs.lemmas.List.Elements.{All-nil, All-push}
use Rattle.strm_pool.specs.declared.line.Entry.{Entry}
use Rattle.strm_data.proofs.Lists.{map-replicate}
use Rattle.strm_mblk.specs.declared.token.TokenValue.{TokenValue}
use Rattle.strm_pool.specs.declared.call.Call.{Call}
use Rattle.strm_pool.specs.declared.reply.Reply.{Reply}
use Rattle.strm_pool.specs.Limits.{most_registers}
use Rattle.strm_pool.specs.PoolValue.{PoolValue}
use Rattle.strm_pool.specs.Registers.{Entries, RegisterTable, entries_of, table_of}
use Rattle.strm_pool.specs.Step.{DeskCall, Replay, Stepped, empty_tables, replay, replay_from, step, table_at, with_reply}
use Rattle.strm_shared.specs.Traces.{IsTraceOf, TraceValue, entries_kept, is_full}
use Rattle.strm_shared.specs.Books.{BookValue, IsServed}
use Rattle.strm_shared.specs.Chronicle.{AreTold, calls_of, chronicle_from, entry_of, heads_listed}
use Rattle.strm_shared.specs.Desks.{DeskValue}
use Rattle.strm_shared.specs.Pairs.{Pair, no_pair, pair_at}

-- ---- the trace, once one call more was served

-- before the first call
none_kept : (most : Option ℕ) → [] ≡ entries_kept most []
none_kept None = refl
none_kept (Some n) = refl

none_few : (most : Option ℕ) → IfSome most (λ n. 0 ≤ n)
none_few None = tt
none_few (Some n) = omega arith

pub trace_first : (most : Option ℕ) (t : TraceValue) → t.most ≡ most → t.entries ≡ [] → IsTraceOf most [] t
trace_first most t is none = record { most = is; entries = none ∙ none_kept most; few = none_few most }

-- a call more
module _ (es : List Entry) (e : Entry) (t u : TraceValue) where
  kept_next : (most : Option ℕ) → t.most ≡ most → t.entries ≡ entries_kept most es → u.entries ≡ t.entries ++ entries_kept t.most (e ∷ []) → u.entries ≡ entries_kept most (es ++ e ∷ [])
  kept_next None is kept more = more ∙ (λ i. kept i ++ entries_kept (is i) (e ∷ []))
  kept_next (Some n) is kept more = more ∙ (λ i. kept i ++ entries_kept (is i) (e ∷ []))

  few_next : (most : Option ℕ) → t.most ≡ most → t.entries ≡ entries_kept most es → is_full t ≡ false → IfSome most (λ n. length es ≤ n) → IfSome most (λ n. length (es ++ e ∷ []) ≤ n)
  few_next None is kept left few = tt
  few_next (Some n) is kept left few =
      let other = eqb-false (length es) n (sym (λ i. option_map_or (λ k. length (kept i) == k) (is i) false) ∙ left) in
      omega (arith, few, other, length_push es e)

  -- it has the entry too, if it keeps any, and no more than it may
  pub trace_next : (most : Option ℕ) → IsTraceOf most es t → is_full t ≡ false → u.most ≡ t.most → u.entries ≡ t.entries ++ entries_kept t.most (e ∷ []) → IsTraceOf most (es ++ e ∷ []) u
  trace_next most is left same more = record {
    most = same ∙ is.most;
    entries = kept_next most is.most is.entries more;
    few = few_next most is.most is.entries left is.few;
  }

-- ---- a replay with one call more at its end

-- a replay, and one call of a desk behind it
abbrev replay_more : Replay → DeskCall → Replay
replay_more r last =
    let o = step r.pool (table_at r.tables last.desk) last.call in
    record { pool = o.pool; tables = slice_set r.tables last.desk o.table; replies = r.replies ++ o.reply ∷ [] }

-- a last call is a step from what the calls before it leave
replay_push : (v : PoolValue) (ts : List RegisterTable) (calls : List DeskCall) (last : DeskCall)
    → replay_from v ts (calls ++ last ∷ []) ≡ replay_more (replay_from v ts calls) last
replay_push v ts [] last = refl
replay_push v ts (first ∷ calls) last =
    let o = step v (table_at ts first.desk) first.call in
    ap (with_reply o.reply) (replay_push o.pool (slice_set ts first.desk o.table) calls last)

-- ---- the served calls, from the first on: a replay of them gives pool, tables and replies, and the chronicle gives the pairs

-- the chronicle has one pair more, that of the pool once the last call is done
chronicle_push : (v : PoolValue) (ts : List RegisterTable) (k : ℕ) (calls : List DeskCall) (last : DeskCall)
    → chronicle_from v ts k (calls ++ last ∷ []) ≡ chronicle_from v ts k calls ++ pair_at (k + length calls + 1) (replay_more (replay_from v ts calls) last).pool ∷ []
chronicle_push v ts k [] last =
    let o : Stepped = step v (table_at ts last.desk) last.call in
    let next : k + 1 ≡ k + 0 + 1 = omega arith in
    ap (λ (n : ℕ). pair_at k v ∷ pair_at n o.pool ∷ []) next
chronicle_push v ts k (first ∷ calls) last =
    let o : Stepped = step v (table_at ts first.desk) first.call in
    let us : List RegisterTable = slice_set ts first.desk o.table in
    let next : k + 1 + length calls + 1 ≡ k + suc (length calls) + 1 = omega arith in
    ap (λ (ps : List Pair). pair_at k v ∷ ps)
    (chronicle_push o.pool us (k + 1) calls last
    ∙ ap (λ (n : ℕ). chronicle_from o.pool us (k + 1) calls ++ pair_at n (replay_more (replay_from o.pool us calls) last).pool ∷ []) next)

-- pair i is that of the pool after the first i calls
chronicle_at : (v : PoolValue) (ts : List RegisterTable) (k : ℕ) (calls : List DeskCall) (i : ℕ) → i ≤ length calls → get_or (chronicle_from v ts k calls) i no_pair ≡ pair_at (k + i) (replay_from v ts (take i calls)).pool
chronicle_at v ts k [] zero within = let here : k ≡ k + 0 = omega arith in ap (λ (n : ℕ). pair_at n v) here
chronicle_at v ts k [] (suc i) within = absurd (omega (arith, within))
chronicle_at v ts k (first ∷ calls) zero within = let here : k ≡ k + 0 = omega arith in ap (λ (n : ℕ). pair_at n v) here
chronicle_at v ts k (first ∷ calls) (suc i) within =
    let o : Stepped = step v (table_at ts first.desk) first.call in
    let us : List RegisterTable = slice_set ts first.desk o.table in
    let later : k + 1 + i ≡ k + suc i = omega arith in
    chronicle_at o.pool us (k + 1) calls i (omega (arith, within)) ∙ ap (λ (n : ℕ). pair_at n (replay_from o.pool us (take i calls)).pool) later

-- so the pair of a stamp is that of the pool after as many calls as the stamp is above the first
pub told_at : {opened : PoolValue} {desks first stamp : ℕ} {es : List Entry} {v : PoolValue} {ts : List Entries} {ps : List Pair} → AreTold opened desks first stamp es v ts ps
    → (k : ℕ) → k ≤ length es → get_or ps k no_pair ≡ pair_at (first + k) (replay opened desks (calls_of (take k es))).pool
told_at {opened} {desks} {first} {stamp} {es} {v} {ts} {ps} told k within =
    ap (λ (qs : List Pair). get_or qs k no_pair) told.listed
    ∙ chronicle_at opened (empty_tables desks) first (calls_of es) k (omega (arith, within, length-map es (λ (x : Entry). let y : DeskCall = record { desk = x.desk; call = x.call } in y)))
    ∙ ap (λ (cs : List DeskCall). pair_at (first + k) (replay opened desks cs).pool) (take-map (λ (x : Entry). let y : DeskCall = record { desk = x.desk; call = x.call } in y) k es)

-- the heads in a desk's table are those of its tokens
heads_told-entries_of : (rs : List (Option TokenValue)) → heads_listed (entries_of rs) ≡ table_of rs
heads_told-entries_of [] = refl
heads_told-entries_of (None ∷ rs) = ap (λ (t : RegisterTable). None ∷ t) (heads_told-entries_of rs)
heads_told-entries_of (Some token ∷ rs) = ap (λ (t : RegisterTable). Some token.head ∷ t) (heads_told-entries_of rs)

-- before the first call
pub told_first : (v : PoolValue) (desks first : ℕ) → AreTold v desks first first [] v (replicate desks (replicate most_registers None)) (pair_at first v ∷ [])
told_first v desks first = record {
  replayed =
      let new : map heads_listed (replicate desks (replicate most_registers None)) ≡ empty_tables desks = map-replicate heads_listed desks (replicate most_registers None) in
      ap (λ (ts : List RegisterTable). let r : Replay = record { pool = v; tables = ts; replies = [] } in r) (sym new);
  listed = refl;
  stamped = omega arith;
  below = All-nil (λ (x : Entry). x.desk < desks);
}

-- a call more
module _ {opened : PoolValue} {desks first : ℕ} {b c : BookValue} {d e : DeskValue} {line : ℕ} {call : Call} {reply : Reply}
    (told : AreTold opened desks first b.stamp b.entries b.pool b.tables b.pairs) (served : IsServed b d line call c e reply) (below : d.number < desks) where
  known : table_at (map heads_listed b.tables) d.number ≡ table_of d.regs
  known = get_or-map heads_listed b.tables d.number [] ∙ ap heads_listed served.known ∙ heads_told-entries_of d.regs

  tables : slice_set (map heads_listed b.tables) d.number (table_of e.regs) ≡ map heads_listed c.tables
  tables = cc (heads_told-entries_of e.regs, map-set heads_listed b.tables d.number (entries_of e.regs), served.tables)

  -- the replay of all calls before, and of this one
  more : replay_more (replay opened desks (calls_of b.entries)) (record { desk = d.number; call = call })
      ≡ (let r : Replay = record { pool = c.pool; tables = map heads_listed c.tables; replies = map (λ x. x.reply) c.entries } in r)
  more =
      ap (λ (r : Replay). replay_more r (record { desk = d.number; call = call })) told.replayed
      ∙ ap
      (λ (o : Stepped). let r : Replay = record { pool = o.pool; tables = slice_set (map heads_listed b.tables) d.number o.table; replies = map (λ x. x.reply) b.entries ++ o.reply ∷ [] } in r)
      (ap (λ (t : RegisterTable). step b.pool t call) known ∙ served.step)
      ∙ (λ i. record {
        pool = c.pool;
        tables = tables i;
        replies = (sym (map_push (λ (x : Entry). x.reply) b.entries (entry_of d.number line call reply)) ∙ ap (map (λ (x : Entry). x.reply)) (sym served.entered)) i;
      })

  calls : calls_of c.entries ≡ calls_of b.entries ++ record { desk = d.number; call = call } ∷ []
  calls = ap calls_of served.entered ∙ map_push (λ (x : Entry). let y : DeskCall = record { desk = x.desk; call = x.call } in y) b.entries (entry_of d.number line call reply)

  stamp : c.stamp ≡ first + length (calls_of b.entries) + 1
  stamp = omega (arith, served.stamp, told.stamped, length-map b.entries (λ (x : Entry). let y : DeskCall = record { desk = x.desk; call = x.call } in y))

  pub told_next : AreTold opened desks first c.stamp c.entries c.pool c.tables c.pairs
  told_next = record {
    replayed = ap (replay opened desks) calls ∙ replay_push opened (empty_tables desks) (calls_of b.entries) (record { desk = d.number; call = call }) ∙ more;
    listed =
        served.listed
        ∙ (λ i. told.listed i ++ pair_at (stamp i) (sym more i).pool ∷ [])
        ∙ sym (chronicle_push opened (empty_tables desks) first (calls_of b.entries) (record { desk = d.number; call = call }))
        ∙ ap (chronicle_from opened (empty_tables desks) first) (sym calls);
    stamped = omega (arith, served.stamp, told.stamped, ap length served.entered, length_push b.entries (entry_of d.number line call reply));
    below = subst (All (λ (x : Entry). x.desk < desks)) (sym served.entered) (All-push (λ (x : Entry). x.desk < desks) b.entries (entry_of d.number line call reply) told.below below);
  }
