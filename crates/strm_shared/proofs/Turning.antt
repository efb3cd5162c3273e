-- A call on a desk that the book knows: it may be applied, and what it leaves is lawful again.
use Rattle.std.proofs.Common.{◌≡◌, ℕ, ◌+◌, ◌<◌, ◌≤◌, Bool, true, false, List, [], ◌∷◌, ◌++◌, length, set, Option, Some, None, Ok, refl, sym, ap, ◌∙◌, subst, arith, if◌then◌else◌, length-set}
use Rattle.std.specs.Prelude.{All, Contains, ◌==◌}
use Rattle.std.proofs.lemmas.Bool.{eqb-false}
use Rattle.std.proofs.lemmas.Option.{none-some}
use Rattle.strm_data.specs.declared.refusal.Refusal.TheVariants.{TraceFull, Worn}
use Rattle.strm_mblk.specs.declared.token.TokenValue.{TokenValue}
use Rattle.strm_mblk.specs.Arena.{census_of}
use Rattle.strm_pool.specs.declared.call.Call.{Call}
use Rattle.strm_pool.specs.declared.call.Call.TheVariants as calls
use Rattle.strm_pool.specs.declared.reply.Reply.{Reply}
use Rattle.strm_pool.specs.declared.reply.Reply.TheVariants as replies
use Rattle.strm_pool.specs.PoolValue.{PoolValue, owns}
use Rattle.strm_pool.specs.Registers.{AreAccounted, AreDistinct, CarryId, Entries, entries_of, register, table_of}
use Rattle.strm_pool.specs.Step.{Applies, Stepped, is_named}
use Rattle.strm_pool.proofs.Accounts.{accounted_distinct, accounted_owned, owned_carry}
use Rattle.strm_pool.specs.declared.line.Entry.{Entry}
use Rattle.strm_shared.specs.Chronicle.{entry_of}
use Rattle.strm_shared.specs.Books.{BookValue, IsBookOf, IsServed, TellsNewest, book_value, end_of, pair_in, table_at}
use Rattle.strm_shared.specs.Desks.{DeskValue, IsDeskOf, desk_value, newest}
use Rattle.strm_shared.specs.Ledger.{blocks_held}
use Rattle.strm_shared.specs.Limits.{most_stamp}
use Rattle.strm_shared.specs.Pairs.{Pair, last_pair, pair_at}
use Rattle.strm_shared.specs.Traces.{TraceValue, entries_kept, is_full}
use Rattle.strm_shared.proofs.Weighing.{held_moves}
use Rattle.strm_shared.proofs.seats.Histories.{last_pair-push}

-- where calls are still served, the stamp is not the last, and the trace is not full
end_none : (worn full : Bool) → (if worn then Some Worn else (if full then Some TraceFull else None)) ≡ None → (worn ≡ false) × (full ≡ false)
end_none true full none = absurd (none-some Worn (sym none))
end_none false true none = absurd (none-some TraceFull (sym none))
end_none false false none = (refl, refl)

pub unended_stamp : (b : BookValue) → end_of b ≡ None → b.stamp ≤ most_stamp → b.stamp < most_stamp
unended_stamp b unended unspent = let other = eqb-false b.stamp most_stamp (end_none (b.stamp == most_stamp) (is_full b.trace) unended).0 in omega (arith, unspent, other)

-- the book knows what the desk's registers tell
pub record IsKnown (id desks first : ℕ) (b : BookValue) (d : DeskValue) : Type 0 where
  pub book : IsBookOf id desks first b
  pub desk : IsDeskOf id desks d
  pub table : table_at b d.number ≡ entries_of d.regs

-- After a served call, book and desk are sound again, and the answer is that of a served call. The number of held blocks changed by as
-- much as that of the desk's registers. The pool has as many message blocks as before.
pub record Turns (id desks first : ℕ) (b : BookValue) (d : DeskValue) (line : ℕ) (call : Call) (c : BookValue) (e : DeskValue) (reply : Reply) : Type 0 where
  pub book : IsBookOf id desks first c
  pub desk : IsDeskOf id desks e
  pub served : IsServed b d line call c e reply
  pub moved : (census_of c.pool.arena).held + blocks_held d.regs ≡ (census_of b.pool.arena).held + blocks_held e.regs
  pub sized : length c.pool.arena.held ≡ length b.pool.arena.held

module _ {id desks first : ℕ} {b : BookValue} {d : DeskValue} (known : IsKnown id desks first b d) where
  inside : d.number < length b.tables
  inside = omega (arith, known.desk.below, known.book.tables)

  -- no message is held by two of its registers, and the pool owns them
  distinct : AreDistinct (table_of d.regs)
  distinct = accounted_distinct b.pool d.regs b.tables d.number inside known.table known.book.accounted

  pub owned : owns b.pool d.regs ≡ true
  owned = accounted_owned b.pool d.regs b.tables d.number inside known.table known.book.accounted (subst (λ k. CarryId k d.regs) (sym known.book.same) known.desk.carry)

  module _ {call : Call} {w : PoolValue} {rs : List (Option TokenValue)} {reply : Reply} (applies : Applies b.pool d.regs call w rs reply) where
    -- registers that the call does not name
    pub others : (x : ℕ) → is_named call x ≡ false → register rs x ≡ register d.regs x
    others x unnamed = cc (applies.tokens x, unnamed)

    -- what is held of the pool moves by what the desk's registers tell
    pub held_moved : (census_of w.arena).held + blocks_held d.regs ≡ (census_of b.pool.arena).held + blocks_held rs
    held_moved =
        held_moves b.pool.arena w.arena b.tables d.number (entries_of d.regs) (entries_of rs) inside known.table known.book.accounted
        (applies.accounted b.tables d.number inside known.table known.book.accounted)

    -- once the book knows what the registers tell now
    pub turns : (line : ℕ) (ts : List Entries) (ps qs : List Pair) (es : List Entry) (ss : List (ℕ × Entry)) (trace : TraceValue) → ts ≡ set b.tables d.number (entries_of rs) → end_of b ≡ None
        → ps ≡ b.pairs ++ pair_at (b.stamp + 1) w ∷ [] → qs ≡ d.pairs ++ pair_at (b.stamp + 1) w ∷ [] → All (Contains b.pairs) d.pairs → All (λ p. p.0 < b.stamp + 1) d.pairs
        → es ≡ b.entries ++ entry_of d.number line call reply ∷ [] → ss ≡ d.served ++ (b.stamp + 1, entry_of d.number line call reply) ∷ []
        → trace.entries ≡ b.trace.entries ++ entries_kept b.trace.most (entry_of d.number line call reply ∷ [])
        → Turns id desks first b d line call (book_value w (b.stamp + 1) ts ps es trace) (desk_value d.number rs qs ss) reply
    turns line ts ps qs es ss trace tables unended listed seen had later entered served traced =
        record {
          book = record {
            same = applies.same ∙ known.book.same;
            begun = omega (arith, known.book.begun);
            unspent = let below = unended_stamp b unended known.book.unspent in omega (arith, below);
            tables = ap length tables ∙ length-set b.tables d.number (entries_of rs) ∙ known.book.tables;
            accounted = subst (AreAccounted w.arena) (sym tables) (applies.accounted b.tables d.number inside known.table known.book.accounted);
          };
          desk = record {
            below = known.desk.below;
            carry = subst (λ k. CarryId k rs) (applies.same ∙ known.book.same) (owned_carry w rs (applies.owned distinct).0);
          };
          served = record {
            unended = unended;
            known = known.table;
            step = applies.step;
            stamp = refl;
            tables = tables;
            number = refl;
            others = others;
            listed = listed;
            seen = seen;
            had = had;
            later = later;
            entered = entered;
            traced = traced;
            served = served;
          };
          moved = held_moved;
          sized = applies.size;
        }

-- an answer to `census` is the census of the pair that the desk saw last
pub tells_newest : (b : BookValue) (d : DeskValue) (line : ℕ) (call : Call) (c : BookValue) (e : DeskValue) (reply : Reply) → IsServed b d line call c e reply → TellsNewest e (Ok reply) call
tells_newest b d line calls.Census c e reply served =
    let pool : b.pool ≡ c.pool = ap (λ (s : Stepped). s.pool) served.step in
    let told : replies.Census (census_of b.pool.arena) ≡ reply = ap (λ (s : Stepped). s.reply) served.step in
    let last : newest e ≡ pair_in c = ap last_pair served.seen ∙ last_pair-push d.pairs (pair_in c) in
    sym told ∙ ap (λ (v : PoolValue). replies.Census (census_of v.arena)) pool ∙ ap (λ (p : Pair). replies.Census p.1) (sym last)
tells_newest b d line call c e reply served = tt
