-- Registers of which tokens are taken, and when a call on registers is a step.
use Rattle.std.proofs.Common.{◌≡◌, ℕ, zero, suc, true, List, [], ◌∷◌, set, Option, None, refl, ap, ◌∙◌, ◌<◌, Bool, false, length, Some, sym, subst, if◌then◌else◌}
use Rattle.std.proofs.lemmas.Bool.{and_from, and_parts}
use Rattle.std.proofs.lemmas.List.{set-set, set-get_or}
use Rattle.std.specs.Option.{option_map_or}
use Rattle.std.specs.Prelude.{option_map}
use Rattle.strm_mblk.specs.declared.token.TokenValue.{TokenValue}
use Rattle.strm_mblk.specs.Arena.{has, Arena, token_of}
use Rattle.strm_data.specs.declared.refusal.Refusal.TheVariants.{NoSuchQueue}
use Rattle.strm_links.specs.Rows.{IsApart}
use Rattle.strm_mblk.specs.Frame.{LeavesOthers}
use Rattle.strm_mblk.proofs.arena.Counts.{had_is}
use Rattle.strm_pool.specs.PoolValue.{PoolValue, owns}
use Rattle.strm_pool.specs.Registers.{register, AreAccounted, AreDistinct, RegisterTable, entries_of, table_of}
use Rattle.strm_pool.specs.declared.call.Call.{Call}
use Rattle.strm_pool.specs.declared.reply.Reply.{Reply}
use Rattle.strm_pool.specs.declared.reply.Reply.TheVariants.{Empty, Taken, Refused}
use Rattle.strm_pool.specs.Names.{registers_in}
use Rattle.strm_pool.specs.Shapes.{IsReady, refusal_of}
use Rattle.strm_pool.specs.Step.{Applies, act, is_named, is_taken, misses_queue, misses_token, names_of, replying, step}
use Rattle.strm_pool.proofs.Tokens.{cleared, Each, Moves, same_some}
use Rattle.strm_pool.proofs.Accounts.{Balanced, accounted_balanced, accounted_distinct, owned_balanced, owned_token, table-at}
use Rattle.strm_pool.proofs.Moved.{Changes, moves_balanced, moves_had, news, olds, registers_of, with_new, with_other, with_tokens}
use Rattle.strm_links.specs.Rows as rows

-- ---- registers from which tokens are taken, and into which they are put

-- a pool owns registers that hold a token less
pub owns_less : (v : PoolValue) (rs : List (Option TokenValue)) (x : ℕ) → owns v rs ≡ true → owns v (set rs x None) ≡ true
owns_less v [] x owned = refl
owns_less v (r ∷ rs) zero owned = (and_parts _ _ owned).1
owns_less v (r ∷ rs) (suc x) owned =
    let parts = and_parts (option_map_or (has v.arena) r true) (owns v rs) owned in
    and_from _ _ parts.0 (owns_less v rs x parts.1)

-- two registers from which tokens are taken hold none
pub emptied : (rs : List (Option TokenValue)) (x y : ℕ) → register (set (set rs x None) y None) x ≡ None
emptied [] x y = refl
emptied (r ∷ rs) zero zero = refl
emptied (r ∷ rs) zero (suc y) = refl
emptied (r ∷ rs) (suc x) zero = cleared rs x
emptied (r ∷ rs) (suc x) (suc y) = emptied rs x y

-- a token is put back into the register that it was taken from
pub put_in_place : (rs : List (Option TokenValue)) (x : ℕ) (o : Option TokenValue) {ss us : List (Option TokenValue)} → us ≡ set ss x o → ss ≡ set rs x None → us ≡ set rs x o
put_in_place rs x o is empty = is ∙ ap (λ (l : List (Option TokenValue)). set l x o) empty ∙ set-set rs x None o

-- ---- when a call on registers is a step: by what it does to the tokens of the registers that it names

-- which of three tests comes first
first_of : {X Y : Type 0} (f : X → Y) (one two three : Bool) (x y z : X) (rest : Y) {w : X} → (if one then Some x else (if two then Some y else (if three then Some z else None))) ≡ Some w
    → (if one then f x else (if two then f y else (if three then f z else rest))) ≡ f w
first_of f true two three x y z rest is = ap f (same_some is)
first_of f false true three x y z rest is = ap f (same_some is)
first_of f false false true x y z rest is = ap f (same_some is)
first_of f false false false x y z rest is = absurd cc

-- a call that may not be made is a step by its refusal
pub step_refused : (v : PoolValue) (t : RegisterTable) (call : Call) {reply : Reply} → refusal_of v t (names_of call) ≡ Some reply → step v t call ≡ replying v t reply
step_refused v t call is = first_of (replying v t) (misses_queue v (names_of call)) (misses_token t (names_of call)) (is_taken t (names_of call)) (Refused NoSuchQueue) Empty Taken (act v t call) is

-- a call that is ready acts
pub step_act : {v : PoolValue} {rs : List (Option TokenValue)} {call other : Call} → call ≡ other → IsReady v rs call → step v (table_of rs) call ≡ act v (table_of rs) other
step_act {v} {rs} {call} is ready =
    let t = table_of rs in
    ap (λ b. if b then replying v t (Refused NoSuchQueue) else (if misses_token t (names_of call) then replying v t Empty else (if is_taken t (names_of call) then replying v t Taken else act v t call))) ready.queue
    ∙ ap (λ b. if b then replying v t Empty else (if is_taken t (names_of call) then replying v t Taken else act v t call)) ready.sources
    ∙ ap (λ b. if b then replying v t Taken else act v t call) ready.free ∙ ap (act v t) is

-- a token that the pool has, or none, is that of what the table shows
shown : (a : Arena) (o : Option TokenValue) → ((t : TokenValue) → o ≡ Some t → has a t ≡ true) → o ≡ option_map (token_of a) (option_map (λ t. t.head) o)
shown a None had = refl
shown a (Some t) had = ap (λ (y : TokenValue). Some y) (had_is a t (had t refl))

named_or_not : {X : Type 0} (b : Bool) (y z o : X) → (b ≡ true → o ≡ y) → (b ≡ false → o ≡ z) → o ≡ (if b then y else z)
named_or_not true y z o first second = first refl
named_or_not false y z o first second = second refl

-- a call that changes nothing
pub applies_nothing : (v : PoolValue) (rs : List (Option TokenValue)) (call : Call) (reply : Reply) → owns v rs ≡ true → step v (table_of rs) call ≡ replying v (table_of rs) reply → Applies v rs call v rs reply
applies_nothing v rs call reply owned does = record {
  step = does;
  tokens = λ x.
      named_or_not (is_named call x) _ _ (register rs x)
      (λ _. shown v.arena (register rs x) (λ t is. owned_token v rs x t owned is) ∙ ap (option_map (token_of v.arena)) (sym (table-at rs x))) (λ _. refl);
  owned = λ distinct. (owned, distinct);
  same = refl;
  size = refl;
  accounted = λ desks desk within at all. subst (AreAccounted v.arena) (sym (ap (set desks desk) (sym at) ∙ set-get_or desks desk [])) all;
}

-- a call that changes the registers that it names
module _ {v w : PoolValue} {rs : List (Option TokenValue)} {call other : Call} {reply : Reply} {heads : List ℕ} (us : Changes) (is : call ≡ other) (ready : IsReady v rs call)
    (named : registers_of us ≡ registers_in (names_of other)) (apart : IsApart (registers_of us)) (within : Each (λ y. y < length rs) (registers_of us))
    (now : Each (λ t. has w.arena t ≡ true) (news us)) (left : LeavesOthers heads v.arena w.arena) (moves : AreDistinct (table_of rs) → Moves v.arena w.arena (olds us rs) (news us))
    (does : act v (table_of rs) other ≡ replying w (table_of (with_tokens us rs)) reply) where
  pub applies_by : Applies v rs call w (with_tokens us rs) reply
  applies_by = record {
    step = stepped;
    tokens = λ x.
        named_or_not (is_named call x) _ _ (register (with_tokens us rs) x)
        (λ yes.
        shown w.arena (register (with_tokens us rs) x) (λ t there. with_new (λ y. has w.arena y ≡ true) us rs x t apart within now (changes x ∙ yes) there)
        ∙ ap (option_map (token_of w.arena)) (sym (table-at (with_tokens us rs) x)))
        (λ no. with_other us rs x (changes x ∙ no));
    owned = λ distinct.
        owned_balanced v w rs (with_tokens us rs) (balanced distinct)
        (moves_had v rs us w.arena (λ x t there. owned_token v rs x t ready.owned there) apart within distinct (moves distinct)) ready.owned distinct;
    same = left.id;
    size = left.size;
    accounted = λ desks desk there at all.
        accounted_balanced v.arena w.arena (entries_of rs) (entries_of (with_tokens us rs)) (balanced (accounted_distinct v rs desks desk there at all)) desks desk there at all;
  }
    where
      stepped : step v (table_of rs) call ≡ replying w (table_of (with_tokens us rs)) reply
      stepped = step_act is ready ∙ does

      changes : (x : ℕ) → rows.has x (registers_of us) ≡ is_named call x
      changes x = ap (rows.has x) (named ∙ ap (λ c. registers_in (names_of c)) (sym is))

      balanced : AreDistinct (table_of rs) → Balanced v.arena w.arena (entries_of rs) (entries_of (with_tokens us rs))
      balanced distinct = moves_balanced v.arena w.arena us rs apart within distinct (moves distinct)
