-- The shapes of calls on registers: what a call on tokens that answers so does to registers is its step.
use Rattle.std.proofs.Common.{◌≡◌, ◌≢◌, ℕ, zero, suc, ◌<◌, true, false, eqb, ◌||◌, arith, List, [], ◌∷◌, ◌++◌, length, set, Option, Some, None, Result, Ok, Err, refl, sym, ap, ◌∙◌, subst, get_or-set_other}
use Rattle.std.specs.Prelude.{IfSome, is_none, is_some, option_map, unwrap_or}
use Rattle.std.specs.Option.{option_map_or}
use Rattle.std.proofs.lemmas.Bool.{false≢true, ne_eqb, or_parts}
use Rattle.std.proofs.lemmas.List.{set-get_or, set-set}
use Rattle.strm_data.specs.declared.refusal.Refusal.{Refusal}
use Rattle.strm_links.specs.Rows.{IsApart}
use Rattle.strm_links.specs.Rows as rows
use Rattle.strm_mblk.specs.declared.rejected.Rejected.{Rejected}
use Rattle.strm_mblk.specs.declared.token.TokenValue.{TokenValue}
use Rattle.strm_mblk.specs.Arena.{Arena, has, held_at, token_of}
use Rattle.strm_mblk.specs.Calls.{Alters, Flushes, Frees, Gives, Joins, Parts, Puts, Takes, TakesAny, Unlinks}
use Rattle.strm_mblk.specs.Frame.{LeavesOthers, head_given}
use Rattle.strm_mblk.specs.Given.{Given, answer_of, value_after}
use Rattle.strm_pool.specs.declared.call.Call.{Call}
use Rattle.strm_pool.specs.declared.reply.Reply.{Reply}
use Rattle.strm_pool.specs.declared.reply.Reply.TheVariants.{Done, Nothing, Refused}
use Rattle.strm_pool.specs.Names.{names_from, registers_in}
use Rattle.strm_pool.specs.PoolValue.{PoolValue, arena, on_arena}
use Rattle.strm_pool.specs.Registers.{AreDistinct, register, table_of}
use Rattle.strm_pool.specs.Shapes.{IsReady, RegistersAndReply, any_given_to, given_to, parted_to, rejected_to, reply_done, reply_made}
use Rattle.strm_pool.specs.Step.{Applies, act, answers, step_of, gives, head_held, keeps, leaves, may_give, misses_token, names_of, parts, replying, spends}
use Rattle.strm_pool.proofs.Accounts.{owned_token, table-at}
use Rattle.strm_pool.proofs.Applied.{applies_by, applies_nothing, step_act}
use Rattle.strm_pool.proofs.Moved.{news, table-set}
use Rattle.strm_pool.proofs.Tokens.{Each, Moves, cleared, err_not_ok, moves_beside, moves_gone, moves_joined, moves_new, moves_none, moves_parted, moves_rest, moves_stay, not_both, same_err, same_ok, same_some, set-comm, some_not_none, tokens_in}

-- the head of a register that holds a token
pub head_is : (rs : List (Option TokenValue)) (x : ℕ) (t : TokenValue) → register rs x ≡ Some t → head_held (table_of rs) x ≡ t.head
head_is rs x t is = ap (λ (o : Option ℕ). unwrap_or o 0) (table-at rs x ∙ ap (option_map (λ (y : TokenValue). y.head)) is)

-- a call names these registers, and no other
abbrev pub IsNaming : Call → Option ℕ → Option ℕ → Option ℕ → Type 0
IsNaming call source second destination = names_of call ≡ names_from (names_of call).queue source second destination

-- a register that shows nothing holds nothing
pub is_free : (rs : List (Option TokenValue)) (x : ℕ) → is_some (register (table_of rs) x) ≡ false → register rs x ≡ None
is_free rs x free = at (register rs x) refl
  where
    at : (o : Option TokenValue) → register rs x ≡ o → register rs x ≡ None
    at None is = is
    at (Some t) is = absurd (false≢true (sym free ∙ ap is_some (table-at rs x ∙ ap (option_map (λ (y : TokenValue). y.head)) is)))

-- a token that is put back where it was
pub put_back : (rs : List (Option TokenValue)) (x : ℕ) (t : TokenValue) → register rs x ≡ Some t → set rs x (Some t) ≡ rs
put_back rs x t is = ap (set rs x) (sym is) ∙ set-get_or rs x None

-- a register that holds a token is there
within_list : (rs : List (Option TokenValue)) (x : ℕ) (t : TokenValue) → register rs x ≡ Some t → x < length rs
within_list [] x t is = absurd cc
within_list (r ∷ rs) zero t is = omega arith
within_list (r ∷ rs) (suc x) t is = omega (arith, within_list rs x t is)

-- one that holds a token is no other than one that holds none
free_other : (rs : List (Option TokenValue)) (x y : ℕ) (t : TokenValue) → register rs x ≡ Some t → register rs y ≡ None → x ≢ y
free_other rs x y t held free same = absurd (some_not_none (sym held ∙ ap (register rs) same ∙ free))

-- a token of the same head shows the same
kept_head : (rs : List (Option TokenValue)) (x : ℕ) (t s : TokenValue) → register rs x ≡ Some t → s.head ≡ t.head → set (table_of rs) x (Some s.head) ≡ table_of rs
kept_head rs x t s was head = ap (set (table_of rs) x) (ap (λ k. Some k) head ∙ sym (table-at rs x ∙ ap (option_map (λ (y : TokenValue). y.head)) was)) ∙ set-get_or (table_of rs) x None

module _ {v : PoolValue} {rs : List (Option TokenValue)} {call other : Call} (called : call ≡ other) (ready : IsReady v rs call) where
  -- its destination is there, and holds nothing
  destination : (source second : Option ℕ) (y : ℕ) → IsNaming other source second (Some y) → (register rs y ≡ None) × (y < length rs)
  destination source second y only =
      let named : (names_of call).destination ≡ Some y = ap (λ c. (names_of c).destination) called ∙ ap (λ names. names.destination) only in
      (is_free rs y (ap (λ (o : Option ℕ). option_map_or (λ x. is_some (register (table_of rs) x)) o false) (sym named) ∙ ready.free), ready.there y named)

  -- a call that asks
  pub asks : {X : Type 0} (made : X → Reply) (g : Given PoolValue X) {answer : Result X Refusal} {reply : Reply} → act v (table_of rs) other ≡ step_of v (table_of rs) (answers made) g → v ≡ value_after v g → answer ≡ answer_of g
      → reply ≡ reply_made made answer → Applies v rs call v rs reply
  asks {X} made g does after answered told =
      applies_nothing v rs call _ ready.owned (step_act called ready ∙ does ∙ telling g after ∙ ap (replying v (table_of rs)) (ap (reply_made made) (sym answered) ∙ sym told))
    where
      telling : (g : Given PoolValue X) → v ≡ value_after v g → step_of v (table_of rs) (answers made) g ≡ replying v (table_of rs) (reply_made made (answer_of g))
      telling (Ok given) after = ap (λ u. replying u (table_of rs) (made given.0)) (sym after)
      telling (Err why) after = refl

module _ {v w : PoolValue} {rs : List (Option TokenValue)} {call other : Call} (called : call ≡ other) (ready : IsReady v rs call) where
  -- a call that was refused
  refused : {X : Type 0} (told : X → List (ℕ × Option ℕ) × Reply) (why : Refusal) → act v (table_of rs) other ≡ step_of v (table_of rs) told (Err why) → w ≡ v → Applies v rs call w rs (Refused why)
  refused told why does same =
      subst (λ u. Applies v rs call u rs (Refused why)) (sym same) (applies_nothing v rs call (Refused why) ready.owned (step_act called ready ∙ does))

  -- ---- no register takes part, and all messages that are held stay

  pub leaves_held : {reply : Reply} → [] ≡ registers_in (names_of other) → LeavesOthers [] v.arena w.arena → act v (table_of rs) other ≡ replying w (table_of rs) reply → Applies v rs call w rs reply
  leaves_held named left does =
      applies_by [] called ready named tt tt tt left
      (λ distinct. moves_none left) does

  -- the reply is made of the answer
  tells : {X : Type 0} (made : X → Reply) (g : Given PoolValue X) {answer : Result X Refusal} {reply : Reply} → [] ≡ registers_in (names_of other) → LeavesOthers [] v.arena w.arena
      → act v (table_of rs) other ≡ step_of v (table_of rs) (answers made) g → w ≡ value_after v g → answer ≡ answer_of g → reply ≡ reply_made made answer → Applies v rs call w rs reply
  tells {X} made g named left does after answered told = leaves_held named left (does ∙ telling g after ∙ ap (replying w (table_of rs)) (ap (reply_made made) (sym answered) ∙ sym told))
    where
      telling : (g : Given PoolValue X) → w ≡ value_after v g → step_of v (table_of rs) (answers made) g ≡ replying w (table_of rs) (reply_made made (answer_of g))
      telling (Ok given) after = ap (λ u. replying u (table_of rs) (made given.0)) (sym after)
      telling (Err why) after = ap (λ u. replying u (table_of rs) (Refused why)) (sym after)

  pub flushes : (g : Given PoolValue (Unit {0})) {answer : Result (Unit {0}) Refusal} {reply : Reply} → [] ≡ registers_in (names_of other) → act v (table_of rs) other ≡ step_of v (table_of rs) (answers (λ done. Done)) g
      → Flushes arena g v w answer → reply ≡ reply_done answer → Applies v rs call w rs reply
  flushes g named does is told = tells (λ done. Done) g named is.others does is.after is.answer told

  -- ---- one register takes part

  -- the register's message is altered, and its token may have another number of blocks
  pub alters : (f : ℕ → Given Arena (Unit {0})) (x : ℕ) {t s : TokenValue} {done : Result (Unit {0}) Refusal} {ss : List (Option TokenValue)} {reply : Reply} → x ∷ [] ≡ registers_in (names_of other) → register rs x ≡ Some t
      → act v (table_of rs) other ≡ step_of v (table_of rs) keeps (on_arena v (f (head_held (table_of rs) x))) → Alters arena t s (on_arena v (f t.head)) v w done
      → ss ≡ set rs x (Some s) → reply ≡ reply_done done → Applies v rs call w ss reply
  alters f x {t} {s} {done} {ss} {reply} named was does is now told =
      subst (λ (p : RegistersAndReply). Applies v rs call w p.0 p.1) (λ i. (sym now i, sym told i))
      (applies_by ((x, Some s) ∷ []) called ready named (refl, tt) (within_list rs x t was, tt) (is.had, tt) is.others
      (λ distinct. subst (λ o. Moves v.arena w.arena (tokens_in o ++ []) (s ∷ [])) (sym was) (moves_stay head (owned_token v rs x t ready.owned was) is.had is.others))
      (does ∙ ap (λ h. step_of v (table_of rs) keeps (on_arena v (f h))) (head_is rs x t was) ∙ kept (on_arena v (f t.head)) is.after
      ∙ ap (λ a. replying w (table_of rs) (reply_done a)) (sym is.answer) ∙ ap (λ table. replying w table (reply_done done)) same))
    where
      head : s.head ≡ t.head
      head = ap (λ (y : TokenValue). y.head) is.token

      kept : (g : Given PoolValue (Unit {0})) → w ≡ value_after v g → step_of v (table_of rs) keeps g ≡ replying w (table_of rs) (reply_done (answer_of g))
      kept (Ok given) after = ap (λ u. replying u (table_of rs) Done) (sym after)
      kept (Err why) after = ap (λ u. replying u (table_of rs) (Refused why)) (sym after)

      same : table_of rs ≡ table_of (set rs x (Some s))
      same = sym (table-set rs x (Some s) ∙ kept_head rs x t s was head)

  -- the register's message is altered, and its token has as many blocks as before
  pub alters_kept : (f : ℕ → Given Arena (Unit {0})) (x : ℕ) {t : TokenValue} {done : Result (Unit {0}) Refusal} {reply : Reply} → x ∷ [] ≡ registers_in (names_of other) → register rs x ≡ Some t
      → act v (table_of rs) other ≡ step_of v (table_of rs) keeps (on_arena v (f (head_held (table_of rs) x))) → Alters arena t t (on_arena v (f t.head)) v w done → reply ≡ reply_done done → Applies v rs call w rs reply
  alters_kept f x {t} named was does is told = alters f x named was does is (sym (put_back rs x t was)) told

  -- its message goes, and none is held at its head
  spent_one : (x : ℕ) {t : TokenValue} → x ∷ [] ≡ registers_in (names_of other) → register rs x ≡ Some t → LeavesOthers (t.head ∷ []) v.arena w.arena → held_at w.arena t.head ≡ None
      → act v (table_of rs) other ≡ replying w (set (table_of rs) x None) Done → Applies v rs call w (set rs x None) Done
  spent_one x {t} named was left gone does =
      applies_by ((x, None) ∷ []) called ready named (refl, tt) (within_list rs x t was, tt) tt left
      (λ distinct. subst (λ o. Moves v.arena w.arena (tokens_in o ++ []) []) (sym was) (moves_gone (owned_token v rs x t ready.owned was) gone left))
      (does ∙ ap (λ table. replying w table Done) (sym (table-set rs x None)))

  -- a call that spends a token, or gives it back
  pub spends_one : (f : ℕ → Given PoolValue (Unit {0})) (x : ℕ) {t : TokenValue} {done : Result (Unit {0}) Rejected} {settled : RegistersAndReply} {ss : List (Option TokenValue)} → x ∷ [] ≡ registers_in (names_of other) → register rs x ≡ Some t
      → ss ≡ set rs x None → act v (table_of rs) other ≡ step_of v (table_of rs) (spends x) (f (head_held (table_of rs) x)) → Puts arena t (f t.head) v w done → settled ≡ rejected_to x done ss → Applies v rs call w settled.0 settled.1
  spends_one f x {t} {done} named was empty does is settled =
      subst (λ (p : RegistersAndReply). Applies v rs call w p.0 p.1) (sym (settled ∙ ap (rejected_to x done) empty))
      (each (f t.head) done (does ∙ ap (λ h. step_of v (table_of rs) (spends x) (f h)) (head_is rs x t was)) is)
    where
      each : (g : Given PoolValue (Unit {0})) (done : Result (Unit {0}) Rejected) → act v (table_of rs) other ≡ step_of v (table_of rs) (spends x) g → Puts arena t g v w done
          → let settled = rejected_to x done (set rs x None) in Applies v rs call w settled.0 settled.1
      each (Ok given) (Ok u) does is = spent_one x named was is.others is.gone (does ∙ ap (λ p. replying p (set (table_of rs) x None) Done) (sym is.after))
      each (Ok given) (Err rejected) does is = absurd (err_not_ok is.answer)
      each (Err why) (Ok u) does is = absurd (err_not_ok (sym is.answer))
      each (Err why) (Err rejected) does is =
          subst (λ ss. Applies v rs call w ss (Refused rejected.why)) (sym (set-set rs x None (Some rejected.token) ∙ ap (λ (r : Rejected). set rs x (Some r.token)) (same_err is.answer) ∙ put_back rs x t was))
          (refused (spends x) rejected.why (does ∙ ap (λ (r : Rejected). step_of v (table_of rs) (spends x) (Err r.why)) (sym (same_err is.answer))) is.after)

  -- its first block is freed, and the rest is its message, if there is one
  pub leaves_one : (made : ℕ → Arena → Option ℕ × Arena) (x : ℕ) {t : TokenValue} {rest : Option TokenValue} {ss : List (Option TokenValue)} → x ∷ [] ≡ registers_in (names_of other) → register rs x ≡ Some t
      → act v (table_of rs) other ≡ step_of v (table_of rs) (leaves x) (on_arena v (Ok (made (head_held (table_of rs) x) v.arena))) → Frees arena t (on_arena v (Ok (made t.head v.arena))) v w (Ok rest)
      → ss ≡ set rs x rest → Applies v rs call w ss Done
  leaves_one made x {t} {rest} named was does is now =
      subst (λ l. Applies v rs call w l Done) (sym now)
      (each rest (made t.head v.arena).0 (same_ok is.rest) is.had is.unheld is.others
      (does ∙ ap (λ h. step_of v (table_of rs) (leaves x) (on_arena v (Ok (made h v.arena)))) (head_is rs x t was) ∙ ap (λ p. replying p (set (table_of rs) x (made t.head v.arena).0) Done) (sym is.after)))
    where
      each : (rest : Option TokenValue) (o : Option ℕ) → rest ≡ option_map (token_of w.arena) o → IfSome rest (λ s. has w.arena s ≡ true) → IfSome rest (λ s. held_at v.arena s.head ≡ None)
          → LeavesOthers (t.head ∷ head_given rest) v.arena w.arena → act v (table_of rs) other ≡ replying w (set (table_of rs) x o) Done → Applies v rs call w (set rs x rest) Done
      each None None same had unheld left does = spent_one x named was left is.gone does
      each None (Some n) same had unheld left does = absurd (some_not_none (sym same))
      each (Some s) None same had unheld left does = absurd (some_not_none same)
      each (Some s) (Some n) same had unheld left does =
          applies_by ((x, Some s) ∷ []) called ready named (refl, tt) (within_list rs x t was, tt) (had, tt) left
          (λ distinct. subst (λ o. Moves v.arena w.arena (tokens_in o ++ []) (s ∷ [])) (sym was) (moves_rest (owned_token v rs x t ready.owned was) is.gone had unheld left))
          (does ∙ ap (λ table. replying w table Done) (ap (λ (y : TokenValue). set (table_of rs) x (Some y.head)) (sym (same_some same)) ∙ sym (table-set rs x (Some s))))

  -- ---- a register is given a token

  module _ (y : ℕ) (named : IsNaming other None None (Some y)) where
    given_one : (s : TokenValue) → has w.arena s ≡ true → held_at v.arena s.head ≡ None → LeavesOthers (s.head ∷ []) v.arena w.arena
        → act v (table_of rs) other ≡ replying w (set (table_of rs) y (Some s.head)) Done → Applies v rs call w (set rs y (Some s)) Done
    given_one s had unheld left does =
        let free = destination called ready None None y named in
        applies_by ((y, Some s) ∷ []) called ready (ap registers_in (sym named)) (refl, tt) (free.1, tt) (had, tt) left
        (λ distinct. subst (λ o. Moves v.arena w.arena (tokens_in o ++ []) (s ∷ [])) (sym free.0) (moves_new had unheld left))
        (does ∙ ap (λ table. replying w table Done) (sym (table-set rs y (Some s))))

    given_none : LeavesOthers [] v.arena w.arena → act v (table_of rs) other ≡ replying w (table_of rs) Nothing → Applies v rs call w rs Nothing
    given_none left does =
        let free = destination called ready None None y named in
        let same : set rs y None ≡ rs = ap (set rs y) (sym free.0) ∙ set-get_or rs y None in
        subst (λ ss. Applies v rs call w ss Nothing) same
        (applies_by ((y, None) ∷ []) called ready (ap registers_in (sym named)) (refl, tt) (free.1, tt) tt left
        (λ distinct. subst (λ o. Moves v.arena w.arena (tokens_in o ++ []) []) (sym free.0) (moves_none left))
        (does ∙ ap (λ l. replying w (table_of l) Nothing) (sym same)))

    pub gives_one : (g : Given PoolValue ℕ) {given : Result TokenValue Refusal} {settled : RegistersAndReply} → act v (table_of rs) other ≡ step_of v (table_of rs) (gives y) g → Takes arena g v w given
        → settled ≡ given_to y given rs → Applies v rs call w settled.0 settled.1
    gives_one g {given} does is settled = subst (λ (p : RegistersAndReply). Applies v rs call w p.0 p.1) (sym settled) (each g given does is)
      where
        each : (g : Given PoolValue ℕ) (given : Result TokenValue Refusal) → act v (table_of rs) other ≡ step_of v (table_of rs) (gives y) g → Takes arena g v w given
            → let settled = given_to y given rs in Applies v rs call w settled.0 settled.1
        each (Ok given) (Ok s) does is =
            given_one s is.had is.unheld is.others
            (does ∙ ap (λ p. replying p (set (table_of rs) y (Some given.0)) Done) (sym is.after) ∙ ap (λ (t : TokenValue). replying w (set (table_of rs) y (Some t.head)) Done) (sym (same_ok is.token)))
        each (Ok given) (Err why) does is = absurd (err_not_ok is.token)
        each (Err why) (Ok s) does is = absurd (err_not_ok (sym is.token))
        each (Err why) (Err other) does is = refused (gives y) other (does ∙ ap (λ e. replying v (table_of rs) (Refused e)) (sym (same_err is.token))) is.after

    -- out of nothing that is held
    pub gives_new : (g : Given PoolValue ℕ) {given : Result TokenValue Refusal} {settled : RegistersAndReply} → act v (table_of rs) other ≡ step_of v (table_of rs) (gives y) g → Gives arena None g v w given
        → settled ≡ given_to y given rs → Applies v rs call w settled.0 settled.1
    gives_new g does is settled = gives_one g does (record { after = is.after; token = is.token; had = is.had; unheld = is.unheld; others = is.others }) settled

    pub may_give_one : (g : Given PoolValue (Option ℕ)) {given : Result (Option TokenValue) Refusal} {settled : RegistersAndReply} → act v (table_of rs) other ≡ step_of v (table_of rs) (may_give y) g → TakesAny arena g v w given
        → settled ≡ any_given_to y given rs → Applies v rs call w settled.0 settled.1
    may_give_one g {given} does is settled = subst (λ (p : RegistersAndReply). Applies v rs call w p.0 p.1) (sym settled) (each g given does is)
      where
        each : (g : Given PoolValue (Option ℕ)) (given : Result (Option TokenValue) Refusal) → act v (table_of rs) other ≡ step_of v (table_of rs) (may_give y) g → TakesAny arena g v w given
            → let settled = any_given_to y given rs in Applies v rs call w settled.0 settled.1
        each (Ok (Some n, u)) (Ok (Some s)) does is =
            given_one s is.had is.unheld is.others
            (does ∙ ap (λ p. replying p (set (table_of rs) y (Some n)) Done) (sym is.after) ∙ ap (λ (t : TokenValue). replying w (set (table_of rs) y (Some t.head)) Done) (sym (same_some (same_ok is.token))))
        each (Ok (Some n, u)) (Ok None) does is = absurd (some_not_none (sym (same_ok is.token)))
        each (Ok (None, u)) (Ok (Some s)) does is = absurd (some_not_none (same_ok is.token))
        each (Ok (None, u)) (Ok None) does is = given_none is.others (does ∙ ap (λ p. replying p (table_of rs) Nothing) (sym is.after))
        each (Ok given) (Err why) does is = absurd (err_not_ok is.token)
        each (Err why) (Ok o) does is = absurd (err_not_ok (sym is.token))
        each (Err why) (Err other) does is = refused (may_give y) other (does ∙ ap (λ e. replying v (table_of rs) (Refused e)) (sym (same_err is.token))) is.after

  -- ---- a register is given a token beside one that keeps its own, or has another one of the same head

  module _ (x y : ℕ) {t : TokenValue} (named : IsNaming other (Some x) None (Some y)) (was : register rs x ≡ Some t) where
    -- both registers change
    two : {heads : List ℕ} (o p : Option TokenValue) {reply : Reply} → LeavesOthers heads v.arena w.arena → Each (λ s. has w.arena s ≡ true) (news ((x, o) ∷ (y, p) ∷ [])) → Moves v.arena w.arena (t ∷ []) (news ((x, o) ∷ (y, p) ∷ []))
        → act v (table_of rs) other ≡ replying w (set (set (table_of rs) x (option_map (λ s. s.head) o)) y (option_map (λ s. s.head) p)) reply
        → Applies v rs call w (set (set rs x o) y p) reply
    two o p {reply} left now moves does =
        let free = destination called ready (Some x) None y named in
        let apart : IsApart (x ∷ y ∷ []) = (ap (λ b. b || false) (ne_eqb y x (λ same. free_other rs x y t was free.0 (sym same))), (refl, tt)) in
        applies_by ((x, o) ∷ (y, p) ∷ []) called ready (ap registers_in (sym named)) apart (within_list rs x t was, (free.1, tt)) now left
        (λ distinct. subst (λ q. Moves v.arena w.arena (tokens_in q ++ (tokens_in (register rs y) ++ [])) (news ((x, o) ∷ (y, p) ∷ []))) (sym was)
        (subst (λ q. Moves v.arena w.arena (t ∷ (tokens_in q ++ [])) (news ((x, o) ∷ (y, p) ∷ []))) (sym free.0) moves))
        (does
        ∙ ap (λ table. replying w table reply) (ap (λ table. set table y (option_map (λ s. s.head) p)) (sym (table-set rs x o)) ∙ sym (table-set (set rs x o) y p)))

    -- the first register keeps its message, the other is given one that no held message had the head of
    pub gives_beside : (f : ℕ → Given Arena ℕ) {given : Result TokenValue Refusal} {settled : RegistersAndReply} → act v (table_of rs) other ≡ step_of v (table_of rs) (gives y) (on_arena v (f (head_held (table_of rs) x)))
        → Gives arena (Some t) (on_arena v (f t.head)) v w given → settled ≡ given_to y given rs → Applies v rs call w settled.0 settled.1
    gives_beside f {given} does is settled =
        subst (λ (p : RegistersAndReply). Applies v rs call w p.0 p.1) (sym settled)
        (each (on_arena v (f t.head)) given (does ∙ ap (λ h. step_of v (table_of rs) (gives y) (on_arena v (f h))) (head_is rs x t was)) is)
      where
        each : (g : Given PoolValue ℕ) (given : Result TokenValue Refusal) → act v (table_of rs) other ≡ step_of v (table_of rs) (gives y) g → Gives arena (Some t) g v w given
            → let settled = given_to y given rs in Applies v rs call w settled.0 settled.1
        each (Ok given) (Ok r) does is =
            subst (λ l. Applies v rs call w (set l y (Some r)) Done) (put_back rs x t was)
            (two (Some t) (Some r) is.others (is.kept, (is.had, tt))
            (moves_beside refl (owned_token v rs x t ready.owned was) is.kept is.had is.unheld is.others (λ h none. (or_parts (eqb t.head h) (rows.has h (r.head ∷ [])) none).1))
            (does ∙ ap (λ p. replying p (set (table_of rs) y (Some given.0)) Done) (sym is.after) ∙ ap (λ (s : TokenValue). replying w (set (table_of rs) y (Some s.head)) Done) (sym (same_ok is.token))
            ∙ ap (λ table. replying w (set table y (Some r.head)) Done) (sym (kept_head rs x t t was refl))))
        each (Ok given) (Err why) does is = absurd (err_not_ok is.token)
        each (Err why) (Ok s) does is = absurd (err_not_ok (sym is.token))
        each (Err why) (Err other) does is = refused (gives y) other (does ∙ ap (λ e. replying v (table_of rs) (Refused e)) (sym (same_err is.token))) is.after

    -- the first register keeps the first block, and the other is given the rest, if there is one
    pub unlinks : (made : ℕ → Arena → Option ℕ × Arena) {s : TokenValue} {rest : Option TokenValue} {settled : RegistersAndReply} → act v (table_of rs) other ≡ step_of v (table_of rs) (may_give y) (on_arena v (Ok (made (head_held (table_of rs) x) v.arena)))
        → Unlinks arena t s (on_arena v (Ok (made t.head v.arena))) v w (Ok rest) → settled ≡ any_given_to y (Ok rest) (set rs x (Some s)) → Applies v rs call w settled.0 settled.1
    unlinks made {s} {rest} does unlinked settled =
        subst (λ (p : RegistersAndReply). Applies v rs call w p.0 p.1) (sym settled)
        (each rest (made t.head v.arena).0 (does ∙ ap (λ h. step_of v (table_of rs) (may_give y) (on_arena v (Ok (made h v.arena)))) (head_is rs x t was)
        ∙ ap (λ u. step_of v (table_of rs) (may_give y) (Ok ((made t.head v.arena).0, u))) (sym unlinked.after)) (same_ok unlinked.rest) unlinked.rest_had unlinked.unheld unlinked.others)
      where
        head : s.head ≡ t.head
        head = ap (λ (q : TokenValue). q.head) unlinked.token

        kept : has w.arena s ≡ true
        kept = unlinked.had

        free_still : register (set rs x (Some s)) y ≡ None
        free_still = get_or-set_other rs x y (Some s) None (λ e. free_other rs x y t was (destination called ready (Some x) None y named).0 (sym e)) ∙ (destination called ready (Some x) None y named).0

        same : set (set rs x (Some s)) y None ≡ set rs x (Some s)
        same = ap (set (set rs x (Some s)) y) (sym free_still) ∙ set-get_or (set rs x (Some s)) y None

        table : table_of rs ≡ set (set (table_of rs) x (Some s.head)) y None
        table = sym (table-set rs x (Some s) ∙ kept_head rs x t s was head) ∙ ap table_of (sym same) ∙ table-set (set rs x (Some s)) y None ∙ ap (λ l. set l y None) (table-set rs x (Some s))

        each : (rest : Option TokenValue) (o : Option ℕ) → act v (table_of rs) other ≡ step_of v (table_of rs) (may_give y) (Ok (o, w)) → rest ≡ option_map (token_of w.arena) o
            → IfSome rest (λ r. has w.arena r ≡ true) → IfSome rest (λ r. held_at v.arena r.head ≡ None) → LeavesOthers (t.head ∷ head_given rest) v.arena w.arena
            → let settled = any_given_to y (Ok rest) (set rs x (Some s)) in Applies v rs call w settled.0 settled.1
        each (Some r) (Some n) does is had unheld left =
            two (Some s) (Some r) left (kept, (had, tt)) (moves_beside head (owned_token v rs x t ready.owned was) kept had unheld left (λ h none. none))
            (does ∙ ap (λ (q : TokenValue). replying w (set (table_of rs) y (Some q.head)) Done) (sym (same_some is)) ∙ ap (λ table. replying w (set table y (Some r.head)) Done) (sym (kept_head rs x t s was head)))
        each (Some r) None does is had unheld left = absurd (some_not_none is)
        each None (Some n) does is had unheld left = absurd (some_not_none (sym is))
        each None None does is had unheld left =
            subst (λ ss. Applies v rs call w ss Nothing) same (two (Some s) None left (kept, tt) (moves_stay head (owned_token v rs x t ready.owned was) kept left) (does ∙ ap (λ table. replying w table Nothing) table))

    -- the token that comes first goes to the other register, and the first has the other one, if there is one
    parts_each : (g : Given PoolValue (ℕ × Option ℕ)) (parted : Result (TokenValue × Option TokenValue) Rejected) → act v (table_of rs) other ≡ step_of v (table_of rs) (parts x y) g → Parts arena t g v w parted
        → let settled = parted_to x y parted (set rs x None) in Applies v rs call w settled.0 settled.1
    parts_each (Ok given) (Err rejected) does is = absurd (err_not_ok is.answer)
    parts_each (Err why) (Ok ts) does is = absurd (err_not_ok (sym is.answer))
    parts_each (Err why) (Err rejected) does is =
        subst (λ ss. Applies v rs call w ss (Refused rejected.why)) (sym (set-set rs x None (Some rejected.token) ∙ ap (λ (r : Rejected). set rs x (Some r.token)) (same_err is.answer) ∙ put_back rs x t was))
        (refused (parts x y) rejected.why (does ∙ ap (λ (r : Rejected). step_of v (table_of rs) (parts x y) (Err r.why)) (sym (same_err is.answer))) is.after)
    parts_each (Ok ((n, o), u)) (Ok (f, rest)) does is =
        subst (λ l. Applies v rs call w (set l y (Some f)) Done) (sym (set-set rs x None rest))
        (two rest (Some f) is.others (each rest is.rest_had) (moves_parted rest (owned_token v rs x t ready.owned was) is)
        (does ∙ ap (λ p. replying p (set (set (table_of rs) x o) y (Some n)) Done) (sym is.after)
        ∙ (λ i. replying w (set (set (table_of rs) x (heads_same i)) y (Some (first_same i))) Done)))
      where
        both : ◌≡◌ {A = TokenValue × Option TokenValue} (f, rest) (token_of w.arena n, option_map (token_of w.arena) o)
        both = same_ok is.answer

        heads_of_rest : (p : Option ℕ) → option_map (λ (s : TokenValue). s.head) (option_map (token_of w.arena) p) ≡ p
        heads_of_rest None = refl
        heads_of_rest (Some k) = refl

        heads_same : o ≡ option_map (λ (s : TokenValue). s.head) rest
        heads_same = sym (ap (λ (p : TokenValue × Option TokenValue). option_map (λ (s : TokenValue). s.head) p.1) both ∙ heads_of_rest o)

        first_same : n ≡ f.head
        first_same = sym (ap (λ (p : TokenValue × Option TokenValue). p.0.head) both)

        each : (r : Option TokenValue) → IfSome r (λ s. has w.arena s ≡ true) → Each (λ s. has w.arena s ≡ true) (tokens_in r ++ (f ∷ []))
        each None rest_had = (is.had, tt)
        each (Some r) rest_had = (rest_had, (is.had, tt))

    pub parts_two : (f : ℕ → Given Arena (ℕ × Option ℕ)) {parted : Result (TokenValue × Option TokenValue) Rejected} {settled : RegistersAndReply} → act v (table_of rs) other ≡ step_of v (table_of rs) (parts x y) (on_arena v (f (head_held (table_of rs) x)))
        → Parts arena t (on_arena v (f t.head)) v w parted
        → settled ≡ parted_to x y parted (set rs x None) → Applies v rs call w settled.0 settled.1
    parts_two f {parted} does is settled =
        subst (λ (p : RegistersAndReply). Applies v rs call w p.0 p.1) (sym settled)
        (parts_each (on_arena v (f t.head)) parted (does ∙ ap (λ h. step_of v (table_of rs) (parts x y) (on_arena v (f h))) (head_is rs x t was)) is)

-- ---- two messages are joined

-- a second source that holds a token still, once the first is empty, is another one
pub sources_apart : {v : PoolValue} {rs : List (Option TokenValue)} {call other : Call} → call ≡ other → IsReady v rs call → (x y : ℕ) {t : TokenValue} → IsNaming other (Some x) (Some y) None → register rs x ≡ Some t → x ≢ y
sources_apart {v} {rs} called ready x y named was same =
    let emptied = set (table_of rs) x None in
    let there : misses_token (table_of rs) (names_from None (Some x) (Some y) None) ≡ false = ap (misses_token (table_of rs)) (sym (ap names_of called ∙ named)) ∙ ready.sources in
    let second : is_none (register emptied y) ≡ false = (or_parts (is_none (register (table_of rs) x)) (is_none (register emptied y)) there).1 in
    absurd (not_both (ap is_none (ap (register emptied) (sym same) ∙ cleared (table_of rs) x)) second)

module _ {v w : PoolValue} {rs : List (Option TokenValue)} {call other : Call} (called : call ≡ other) (ready : IsReady v rs call) (x y : ℕ) {t u s : TokenValue} (named : x ∷ y ∷ [] ≡ registers_in (names_of other))
    (was : register rs x ≡ Some t) (tail : register rs y ≡ Some u) (apart : x ≢ y) {next : PoolValue} (is : Joins arena t s u next v w) where
  pub links : act v (table_of rs) other ≡ replying w (set (table_of rs) y None) Done → Applies v rs call w (set (set (set rs x None) y None) x (Some s)) Done
  links does =
      subst (λ l. Applies v rs call w l Done) (sym (set-comm (set rs x None) y x None (Some s) (λ same. apart (sym same)) ∙ ap (λ l. set l y None) (set-set rs x None (Some s))))
      (applies_by ((x, Some s) ∷ (y, None) ∷ []) called ready named (ap (λ b. b || false) (ne_eqb y x (λ same. apart (sym same))), (refl, tt))
      (within_list rs x t was, (within_list rs y u tail, tt)) (is.had, tt) is.others
      (λ distinct. subst (λ q. Moves v.arena w.arena (tokens_in q ++ (tokens_in (register rs y) ++ [])) (s ∷ [])) (sym was)
      (subst (λ q. Moves v.arena w.arena (t ∷ (tokens_in q ++ [])) (s ∷ [])) (sym tail) (moves distinct)))
      (does ∙ ap (λ table. replying w table Done) table))
    where
      shown : (z : ℕ) (r : TokenValue) → register rs z ≡ Some r → register (table_of rs) z ≡ Some r.head
      shown z r is = table-at rs z ∙ ap (option_map (λ (a : TokenValue). a.head)) is

      table : set (table_of rs) y None ≡ table_of (set (set rs x (Some s)) y None)
      table =
          ap (λ l. set l y None) (sym (set-get_or (table_of rs) x None) ∙ ap (set (table_of rs) x) (shown x t was ∙ ap (λ k. Some k) (sym (ap (λ (r : TokenValue). r.head) is.token))) ∙ sym (table-set rs x (Some s)))
          ∙ sym (table-set (set rs x (Some s)) y None)

      moves : AreDistinct (table_of rs) → Moves v.arena w.arena (t ∷ u ∷ []) (s ∷ [])
      moves distinct =
          moves_joined (ap (λ (r : TokenValue). r.head) is.token) (owned_token v rs x t ready.owned was) (owned_token v rs y u ready.owned tail) is.had
          (is.gone (λ e. apart (distinct x y u.head (shown x t was ∙ ap (λ k. Some k) e) (shown y u tail)))) is.others
