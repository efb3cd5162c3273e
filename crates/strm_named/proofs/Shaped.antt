-- The shapes of calls: what a call of the pool does to tokens, that of the named pool does to names.
use Rattle.std.proofs.Common.{◌≡◌, ◌≢◌, ℕ, Bool, true, false, ◌&&◌, ◌==◌, List, [], ◌∷◌, ◌++◌, length, Option, Some, None, Result, Ok, Err, refl, sym, ap, ◌∙◌, subst, if◌then◌else◌}
use Rattle.std.specs.Prelude.{is_some, not, option_map}
use Rattle.std.proofs.lemmas.Bool.{and_parts, cond-true, eq-eqb, false≢true, ne_eqb, or_from}
use Rattle.strm_data.specs.declared.refusal.Refusal.{Refusal}
use Rattle.strm_links.specs.Rows as rows
use Rattle.strm_mblk.specs.declared.rejected.Rejected.{Rejected}
use Rattle.strm_mblk.specs.declared.token.TokenValue.{TokenValue}
use Rattle.strm_mblk.specs.Arena.{has, held_at, token_of}
use Rattle.strm_mblk.specs.Calls.{Alters, Flushes, Frees, Gives, Joins, Lends, Parts, Puts, Spends, Takes, TakesAny, Unlinks}
use Rattle.strm_mblk.specs.Given.{Given, answer_of, given_nothing, value_after, without_token}
use Rattle.strm_mblk.proofs.arena.Counts.{had_message}
use Rattle.strm_pool.specs.PoolValue.{PoolValue, arena}
use Rattle.strm_pool.proofs.Tokens.{Moves, err_not_ok, heads_of, moves_beside, moves_gone, moves_joined, moves_new, moves_none, moves_parted, moves_rest, moves_stay, lone, moves_swapped, same_err, same_ok, same_some, some_not_none}
use Rattle.strm_named.specs.declared.fault.Fault.{Fault}
use Rattle.strm_named.specs.declared.fault.Fault.TheVariants.{Invalid, Refused}
use Rattle.strm_named.specs.declared.name.Name.{Name}
use Rattle.strm_named.specs.NamedCalls.{as_named_result, asked, on_name, on_names, Does, LeavesNames, LendsNamed, Outcome, Shape, any_message, one_message, outcome_of, no_message, result_map, two_messages}
use Rattle.strm_named.specs.NamedLayout.{Fits, pool_with}
use Rattle.strm_named.specs.NamedValue.{NamedValue, Renames, is_valid, name_of, stamp_at, stamps_given, with_pool}
use Rattle.strm_named.specs.Stamps.{IsTokenOf, name_in, parted_in, token_answered, tokens_answered, tokens_in, tokens_parted, with_tokens}
use Rattle.strm_named.proofs.Held.{turns}
use Rattle.strm_named.proofs.Renamed.{length-stamps_given, renames, stamps_other}

-- A call was made: there is a stamp for each message block again, and it does what its definition says.
pub record Called {X Y : Type 0} (s : Shape X Y) (outcome : Outcome X) (spent : List ℕ) (v : NamedValue) (r : PoolValue) (qs : List ℕ) (answer : Result Y Fault) : Type 0 where
  pub fits : Fits r.arena qs
  pub does : Does s outcome spent v (pool_with r qs) answer

-- a call as the value of the named pool says it
pub seen : {X Y : Type 0} {s : Shape X Y} {spent : List ℕ} {u v : NamedValue} {r : PoolValue} {qs : List ℕ} {answer : Result Y Fault} (call : NamedValue → Given PoolValue X)
    → u ≡ v → Called s (outcome_of (call u)) spent u r qs answer → Called s (outcome_of (call v)) spent v r qs answer
seen {X} {Y} {s} {spent} {u} {v} {r} {qs} {answer} call view is = subst (λ x. Called s (outcome_of (call x)) spent x r qs answer) view is

-- and on one name or two that pass the test
pub tested : {X Y : Type 0} {s : Shape X Y} {valid : Bool} {spent : List ℕ} {v : NamedValue} {r : PoolValue} {qs : List ℕ} {answer : Result Y Fault} {outcome : Outcome X}
    → valid ≡ true → Called s outcome spent v r qs answer → Called s (if valid then outcome else Err Invalid) spent v r qs answer
tested {X} {Y} {s} {valid} {spent} {v} {r} {qs} {answer} {outcome} valid_is is = subst (λ (o : Outcome X). Called s o spent v r qs answer) (sym (cond-true valid outcome (Err Invalid) valid_is)) is

-- the token of a name's message
pub here : {u v : NamedValue} {n : Name} {t : TokenValue} → u ≡ v → IsTokenOf n v.pool.arena t → IsTokenOf n u.pool.arena t
here {n} {t} view of = subst (λ (x : NamedValue). IsTokenOf n x.pool.arena t) (sym view) of

-- the name of a token that the pool has
name_is : (r : PoolValue) (qs : List ℕ) (t : TokenValue) → has r.arena t ≡ true → name_in qs t ≡ name_of (pool_with r qs) t.head
name_is r qs t had = λ i. record { pool = (had_message r.arena t had).1.pool i; head = t.head; stamp = stamp_at (pool_with r qs) t.head }

module _ (p r : PoolValue) (ps qs : List ℕ) (fits : Fits p.arena ps) where
  -- It was done, and messages moved: of the heads before, some stay and some are spent; of those afterwards, some stay and those of
  -- some tokens are given.
  pub made : {X Y : Type 0} (s : Shape X Y) {outcome : Outcome X} {answer : Result Y Fault} (x : X) (kept spent : List ℕ) (ts : List TokenValue) {before after : List TokenValue} → Moves p.arena r.arena before after
      → heads_of before ≡ kept ++ spent → heads_of after ≡ kept ++ heads_of ts → ((h : ℕ) → rows.has h spent ≡ true → rows.has h kept ≡ false) → heads_of ts ≡ s.heads x
      → outcome ≡ Ok (x, r) → qs ≡ with_tokens ts ps → answer ≡ Ok (s.told (pool_with r qs) x) → Called s outcome spent (pool_with p ps) r qs answer
  made {X} s {outcome} {answer} x kept spent ts moves were are other heads is stamps told =
      let given : qs ≡ stamps_given (s.heads x) ps = stamps ∙ ap (λ hs. stamps_given hs ps) heads in
      record {
        fits = ap length stamps ∙ length-stamps_given (heads_of ts) ps ∙ fits ∙ sym moves.size;
        does =
            subst (λ (o : Outcome X). Does s o spent (pool_with p ps) (pool_with r qs) answer) (sym is)
            (let d : Does s (Ok (x, r)) spent (pool_with p ps) (pool_with r qs) answer = record {
              after = ap (pool_with r) given;
              told = told;
              names = subst (λ hs. let o : Outcome X = Ok (x, r) in Renames spent hs (pool_with p ps) (pool_with r qs)) heads
                  (renames (pool_with p ps) (pool_with r qs) spent (heads_of ts) (turns kept spent (heads_of ts) moves were are other) stamps fits);
            } in d);
      }

  -- it was refused
  pub refused : {X Y : Type 0} (s : Shape X Y) {answer : Result Y Fault} {spent : List ℕ} {fault : Fault} → r ≡ p → qs ≡ ps → answer ≡ Err fault → Called s (Err fault) spent (pool_with p ps) r qs answer
  refused s same kept told = record {
    fits = ap length kept ∙ fits ∙ ap (λ (x : PoolValue). length x.arena.held) (sym same);
    does = record { after = λ i. pool_with (same i) (kept i); told = told; names = tt };
  }

module _ {p r : PoolValue} {ps qs : List ℕ} (fits : Fits p.arena ps) where
  -- ---- a message is given, and no name is spent

  pub gives_one : {g : Given PoolValue ℕ} {given : Result TokenValue Refusal} {answer : Result Name Fault} → Takes arena g p r given → qs ≡ with_tokens (token_answered given) ps
      → answer ≡ result_map (name_in qs) (as_named_result given) → Called one_message (outcome_of g) [] (pool_with p ps) r qs answer
  gives_one {g} {given} {answer} = each g given
    where
      each : (g : Given PoolValue ℕ) (given : Result TokenValue Refusal) → Takes arena g p r given → qs ≡ with_tokens (token_answered given) ps → answer ≡ result_map (name_in qs) (as_named_result given)
          → Called one_message (outcome_of g) [] (pool_with p ps) r qs answer
      each (Ok (n, u)) (Ok t) is stamps told =
          let head : n ≡ t.head = sym (ap (λ (y : TokenValue). y.head) (same_ok is.token)) in
          let pool : u ≡ r = sym is.after in
          made p r ps qs fits one_message t.head [] [] (t ∷ []) (moves_new is.had is.unheld is.others) refl refl (λ h none. refl) refl (λ i. Ok (head i, pool i)) stamps
          (told ∙ ap (λ (n : Name). Ok n) (name_is r qs t is.had))
      each (Ok given) (Err why) is stamps told = absurd (err_not_ok is.token)
      each (Err why) (Ok t) is stamps told = absurd (err_not_ok (sym is.token))
      each (Err why) (Err other) is stamps told = refused p r ps qs fits one_message is.after stamps (told ∙ ap (λ (w : Refusal). Err (Refused w)) (same_err is.token))

  -- one, if there is one
  pub gives_any : {g : Given PoolValue (Option ℕ)} {given : Result (Option TokenValue) Refusal} {answer : Result (Option Name) Fault} → TakesAny arena g p r given → qs ≡ with_tokens (tokens_answered given) ps
      → answer ≡ result_map (option_map (name_in qs)) (as_named_result given) → Called any_message (outcome_of g) [] (pool_with p ps) r qs answer
  gives_any {g} {given} {answer} = each g given
    where
      each : (g : Given PoolValue (Option ℕ)) (given : Result (Option TokenValue) Refusal) → TakesAny arena g p r given → qs ≡ with_tokens (tokens_answered given) ps
          → answer ≡ result_map (option_map (name_in qs)) (as_named_result given) → Called any_message (outcome_of g) [] (pool_with p ps) r qs answer
      each (Ok (Some n, u)) (Ok (Some t)) is stamps told =
          let head : n ≡ t.head = sym (ap (λ (y : TokenValue). y.head) (same_some (same_ok is.token))) in
          let pool : u ≡ r = sym is.after in
          made p r ps qs fits any_message (Some t.head) [] [] (t ∷ []) (moves_new is.had is.unheld is.others) refl refl (λ h none. refl) refl (λ i. Ok (Some (head i), pool i)) stamps
          (told ∙ ap (λ (n : Name). Ok (Some n)) (name_is r qs t is.had))
      each (Ok (Some n, u)) (Ok None) is stamps told = absurd (some_not_none (sym (same_ok is.token)))
      each (Ok (None, u)) (Ok (Some t)) is stamps told = absurd (some_not_none (same_ok is.token))
      each (Ok (None, u)) (Ok None) is stamps told =
          let pool : u ≡ r = sym is.after in
          made p r ps qs fits any_message None [] [] [] (moves_none is.others) refl refl (λ h none. refl) refl (λ i. Ok (None, pool i)) stamps told
      each (Ok given) (Err why) is stamps told = absurd (err_not_ok is.token)
      each (Err why) (Ok t) is stamps told = absurd (err_not_ok (sym is.token))
      each (Err why) (Err other) is stamps told = refused p r ps qs fits any_message is.after stamps (told ∙ ap (λ (w : Refusal). Err (Refused w)) (same_err is.token))

  -- a new one
  pub gives_new : {source : Option TokenValue} {g : Given PoolValue ℕ} {given : Result TokenValue Refusal} {answer : Result Name Fault} → Gives arena source g p r given → qs ≡ with_tokens (token_answered given) ps
      → answer ≡ result_map (name_in qs) (as_named_result given) → Called one_message (outcome_of g) [] (pool_with p ps) r qs answer
  gives_new is stamps told = gives_one (record { after = is.after; token = is.token; had = is.had; unheld = is.unheld; others = is.others }) stamps told

  -- ---- the message of a valid name

  module _ {v : NamedValue} {n : Name} (view : pool_with p ps ≡ v) (valid : is_valid v n ≡ true) {t : TokenValue} (of : IsTokenOf n p.arena t) where
    -- a call on the message of the token is one on the name
    named : {X Y : Type 0} {s : Shape X Y} (spent : ℕ → List ℕ) {answer : Result Y Fault} (call : ℕ → NamedValue → Given PoolValue X)
        → Called s (outcome_of (call t.head (pool_with p ps))) (spent t.head) (pool_with p ps) r qs answer → Called s (on_name v n (call n.head v)) (spent n.head) v r qs answer
    named {s} spent {answer} call is =
        tested valid (seen (call n.head) view (subst (λ h. Called s (outcome_of (call h (pool_with p ps))) (spent h) (pool_with p ps) r qs answer) of.head is))

    -- stays, and another message is given
    pub gives_beside : {source : Option TokenValue} (call : ℕ → NamedValue → Given PoolValue ℕ) {given : Result TokenValue Refusal} {answer : Result Name Fault} → Gives arena source (call t.head (pool_with p ps)) p r given
        → qs ≡ with_tokens (token_answered given) ps → answer ≡ result_map (name_in qs) (as_named_result given) → Called one_message (on_name v n (call n.head v)) [] v r qs answer
    gives_beside call is stamps told = named (λ h. []) call (gives_new is stamps told)

    -- a message is altered, and its token may have another number of blocks
    pub alters : {X : Type 0} (call : ℕ → NamedValue → Given PoolValue X) {s : TokenValue} {given : Result X Refusal} {answer : Result X Fault} → Alters arena t s (call t.head (pool_with p ps)) p r given
        → qs ≡ ps → answer ≡ as_named_result given → Called no_message (on_name v n (call n.head v)) [] v r qs answer
    alters {X} call {s} {given} {answer} is stamps told = named (λ h. []) call (each (call t.head (pool_with p ps)) is.after (told ∙ ap as_named_result is.answer))
      where
        head : s.head ≡ t.head
        head = ap (λ (y : TokenValue). y.head) is.token

        each : (g : Given PoolValue X) → r ≡ value_after p g → answer ≡ as_named_result (answer_of g) → Called no_message (outcome_of g) [] (pool_with p ps) r qs answer
        each (Ok (x, u)) after told =
            let pool : u ≡ r = sym after in
            made p r ps qs fits no_message x (t.head ∷ []) [] [] (moves_stay head of.had is.had is.others) refl (ap (λ h. h ∷ []) head) (λ h none. absurd (false≢true none)) refl (λ i. Ok (x, pool i)) stamps told
        each (Err why) after told = refused p r ps qs fits no_message after stamps told

    -- goes, or comes back
    pub spends : (call : ℕ → NamedValue → Given PoolValue (Unit {0})) {put : Result (Unit {0}) Rejected} {answer : Result (Unit {0}) Fault} → Puts arena t (call t.head (pool_with p ps)) p r put
        → qs ≡ ps → answer ≡ as_named_result (without_token put) → Called no_message (on_name v n (call n.head v)) (n.head ∷ []) v r qs answer
    spends call {put} {answer} is stamps told =
        named (λ h. h ∷ []) call (each (call t.head (pool_with p ps)) put is stamps told)
      where
        each : (g : Given PoolValue (Unit {0})) (put : Result (Unit {0}) Rejected) → Puts arena t g p r put → qs ≡ ps → answer ≡ as_named_result (without_token put)
            → Called no_message (outcome_of g) (t.head ∷ []) (pool_with p ps) r qs answer
        each (Ok (x, u)) (Ok y) is stamps told =
            let pool : u ≡ r = sym is.after in
            made p r ps qs fits no_message x [] (t.head ∷ []) [] (moves_gone of.had is.gone is.others) refl refl (λ h there. refl) refl (λ i. Ok (x, pool i)) stamps
            (told ∙ ap (λ (z : Unit {0}). let q : Result (Unit {0}) Fault = Ok z in q) (same_ok is.answer))
        each (Ok given) (Err rejected) is stamps told = absurd (err_not_ok is.answer)
        each (Err why) (Ok y) is stamps told = absurd (err_not_ok (sym is.answer))
        each (Err why) (Err rejected) is stamps told =
            refused p r ps qs fits no_message is.after stamps (told ∙ ap (λ (x : Rejected). Err (Refused x.why)) (same_err is.answer))

    -- is freed
    pub frees : (call : ℕ → NamedValue → PoolValue) {answer : Result (Unit {0}) Fault} → Spends arena t (call t.head (pool_with p ps)) p r → qs ≡ ps → answer ≡ Ok tt
        → Called no_message (on_name v n (given_nothing (call n.head v))) (n.head ∷ []) v r qs answer
    frees call is = spends (λ h x. given_nothing (call h x)) {put = Ok tt} (record { after = is.after; answer = refl; gone = is.gone of.had; others = is.others })

    -- loses its first block, and what is left is a message, if anything is
    pub leaves_rest : (call : ℕ → NamedValue → Given PoolValue (Option ℕ)) {rest : Option TokenValue} {answer : Result (Option Name) Fault} → Frees arena t (call t.head (pool_with p ps)) p r (Ok rest)
        → qs ≡ with_tokens (tokens_in rest) ps → answer ≡ Ok (option_map (name_in qs) rest) → Called any_message (on_name v n (call n.head v)) (n.head ∷ []) v r qs answer
    leaves_rest call {rest} {answer} is stamps told =
        named (λ h. h ∷ []) call (each rest (call t.head (pool_with p ps)) is stamps told)
      where
        each : (rest : Option TokenValue) (g : Given PoolValue (Option ℕ)) → Frees arena t g p r (Ok rest) → qs ≡ with_tokens (tokens_in rest) ps → answer ≡ Ok (option_map (name_in qs) rest)
            → Called any_message (outcome_of g) (t.head ∷ []) (pool_with p ps) r qs answer
        each (Some s) (Ok (Some k, u)) is stamps told =
            let head : k ≡ s.head = sym (ap (λ (y : TokenValue). y.head) (same_some (same_ok is.rest))) in
            let pool : u ≡ r = sym is.after in
            made p r ps qs fits any_message (Some s.head) [] (t.head ∷ []) (s ∷ []) (moves_rest of.had is.gone is.had is.unheld is.others) refl refl (λ h there. refl) refl (λ i. Ok (Some (head i), pool i)) stamps
            (told ∙ ap (λ (y : Name). Ok (Some y)) (name_is r qs s is.had))
        each None (Ok (None, u)) is stamps told =
            let pool : u ≡ r = sym is.after in
            made p r ps qs fits any_message None [] (t.head ∷ []) [] (moves_gone of.had is.gone is.others) refl refl (λ h there. refl) refl (λ i. Ok (None, pool i)) stamps told
        each (Some s) (Ok (None, u)) is stamps told = absurd (some_not_none (same_ok is.rest))
        each None (Ok (Some k, u)) is stamps told = absurd (some_not_none (sym (same_ok is.rest)))
        each rest (Err why) is stamps told = absurd (err_not_ok (sym is.rest))

    -- keeps its first block, and what is left is a message, if anything is
    pub unlinks : (call : ℕ → NamedValue → Given PoolValue (Option ℕ)) {s : TokenValue} {rest : Option TokenValue} {answer : Result (Option Name) Fault} → Unlinks arena t s (call t.head (pool_with p ps)) p r (Ok rest)
        → qs ≡ with_tokens (tokens_in rest) ps → answer ≡ Ok (option_map (name_in qs) rest) → Called any_message (on_name v n (call n.head v)) [] v r qs answer
    unlinks call {s} {rest} {answer} is stamps told = named (λ h. []) call (each rest (call t.head (pool_with p ps)) is stamps told)
      where
        each : (rest : Option TokenValue) (g : Given PoolValue (Option ℕ)) → Unlinks arena t s g p r (Ok rest) → qs ≡ with_tokens (tokens_in rest) ps → answer ≡ Ok (option_map (name_in qs) rest)
            → Called any_message (outcome_of g) [] (pool_with p ps) r qs answer
        each (Some k) (Ok (Some j, u)) is stamps told =
            let first : j ≡ k.head = sym (ap (λ (y : TokenValue). y.head) (same_some (same_ok is.rest))) in
            let head : s.head ≡ t.head = ap (λ (y : TokenValue). y.head) is.token in
            let pool : u ≡ r = sym is.after in
            made p r ps qs fits any_message (Some k.head) (t.head ∷ []) [] (k ∷ []) (moves_beside head of.had is.had is.rest_had is.unheld is.others (λ h none. none)) refl (ap (λ h. h ∷ k.head ∷ []) head) (λ h none. absurd (false≢true none))
            refl (λ i. Ok (Some (first i), pool i)) stamps (told ∙ ap (λ (y : Name). Ok (Some y)) (name_is r qs k is.rest_had))
        each None (Ok (None, u)) is stamps told =
            let head : s.head ≡ t.head = ap (λ (y : TokenValue). y.head) is.token in
            let pool : u ≡ r = sym is.after in
            made p r ps qs fits any_message None (t.head ∷ []) [] [] (moves_stay head of.had is.had is.others) refl (ap (λ h. h ∷ []) head) (λ h none. absurd (false≢true none)) refl (λ i. Ok (None, pool i)) stamps told
        each (Some k) (Ok (None, u)) is stamps told = absurd (some_not_none (same_ok is.rest))
        each None (Ok (Some j, u)) is stamps told = absurd (some_not_none (sym (same_ok is.rest)))
        each rest (Err why) is stamps told = absurd (err_not_ok (sym is.rest))

    -- is parted: a block is a message, and the others are one, if there are any
    pub parts : (call : ℕ → NamedValue → Given PoolValue (ℕ × Option ℕ)) {parted : Result (TokenValue × Option TokenValue) Rejected} {answer : Result (Name × Option Name) Fault} → Parts arena t (call t.head (pool_with p ps)) p r parted
        → qs ≡ with_tokens (tokens_parted parted) ps → answer ≡ parted_in ps qs parted → Called two_messages (on_name v n (call n.head v)) (n.head ∷ []) v r qs answer
    parts call {parted} {answer} is stamps told =
        named (λ h. h ∷ []) call
        (each (call t.head (pool_with p ps)) parted is stamps told)
      where
        heads_of_rest : (o : Option ℕ) → option_map (λ (y : TokenValue). y.head) (option_map (token_of r.arena) o) ≡ o
        heads_of_rest None = refl
        heads_of_rest (Some k) = refl

        split : (b : TokenValue) (rest : Option TokenValue) {g : Given PoolValue (ℕ × Option ℕ)} {outcome : Outcome (ℕ × Option ℕ)} → Parts arena t g p r (Ok (b, rest)) → outcome ≡ Ok ((b.head, option_map (λ (y : TokenValue). y.head) rest), r)
            → qs ≡ with_tokens (b ∷ tokens_in rest) ps → answer ≡ parted_in ps qs (Ok (b, rest)) → Called two_messages outcome (t.head ∷ []) (pool_with p ps) r qs answer
        split b None is gives stamps told =
            made p r ps qs fits two_messages (b.head, None) [] (t.head ∷ []) (b ∷ []) (moves_parted None of.had is) refl refl (λ h there. refl) refl gives stamps
            (told ∙ ap (λ (rs : List ℕ). Ok (name_in rs b, None)) (sym stamps) ∙ ap (λ (y : Name). Ok (y, None)) (name_is r qs b is.had))
        split b (Some s) is gives stamps told =
            let mid = with_tokens (b ∷ []) ps in
            let one : name_in mid b ≡ name_of (pool_with r qs) b.head =
            (λ i. let n : Name = record { pool = b.pool; head = b.head; stamp = sym (stamps_other (s.head ∷ []) mid b.head (or_from (s.head == b.head) false (ne_eqb s.head b.head is.apart) refl)) i } in n)
            ∙ ap (λ ss. name_in ss b) (sym stamps) ∙ name_is r qs b is.had in
            made p r ps qs fits two_messages (b.head, Some s.head) [] (t.head ∷ []) (b ∷ s ∷ []) (moves_swapped (moves_parted (Some s) of.had is)) refl refl (λ h there. refl) refl gives stamps
            (told ∙ (λ i. Ok (one i, Some (name_is r qs s is.rest_had i))))

        each : (g : Given PoolValue (ℕ × Option ℕ)) (parted : Result (TokenValue × Option TokenValue) Rejected) → Parts arena t g p r parted
            → qs ≡ with_tokens (tokens_parted parted) ps → answer ≡ parted_in ps qs parted → Called two_messages (outcome_of g) (t.head ∷ []) (pool_with p ps) r qs answer
        each (Ok given) (Err rejected) is stamps told = absurd (err_not_ok is.answer)
        each (Err why) (Ok ts) is stamps told = absurd (err_not_ok (sym is.answer))
        each (Err why) (Err rejected) is stamps told =
            refused p r ps qs fits two_messages is.after stamps (told ∙ ap (λ (x : Rejected). Err (Refused x.why)) (same_err is.answer))
        each (Ok ((k, o), u)) (Ok (b, rest)) is stamps told =
            let both : ◌≡◌ {A = TokenValue × Option TokenValue} (b, rest) (token_of r.arena k, option_map (token_of r.arena) o) = same_ok is.answer in
            let first : k ≡ b.head = sym (ap (λ (x : TokenValue × Option TokenValue). x.0.head) both) in
            let heads : o ≡ option_map (λ (y : TokenValue). y.head) rest = sym (ap (λ (x : TokenValue × Option TokenValue). option_map (λ (y : TokenValue). y.head) x.1) both ∙ heads_of_rest o) in
            let pool : u ≡ r = sym is.after in
            split b rest is (λ i. Ok ((first i, heads i), pool i)) stamps told

  -- gets the blocks of that of a second name, which goes
  pub links : {v : NamedValue} {n m : Name} → pool_with p ps ≡ v → (is_valid v n && (is_valid v m && not (n.head == m.head))) ≡ true → (call : ℕ → ℕ → NamedValue → PoolValue) {t u s : TokenValue} {answer : Result (Unit {0}) Fault}
      → IsTokenOf n p.arena t → IsTokenOf m p.arena u → Joins arena t s u (call t.head u.head (pool_with p ps)) p r → qs ≡ ps → answer ≡ Ok tt
      → Called no_message (on_names v n m (given_nothing (call n.head m.head v))) (m.head ∷ []) v r qs answer
  links {v} {n} {m} view valid call {t} {u} {s} {answer} of also is stamps told =
      let pool : call t.head u.head (pool_with p ps) ≡ r = sym is.after in
      let head : s.head ≡ t.head = ap (λ (y : TokenValue). y.head) is.token in
      let apart : not (n.head == m.head) ≡ true = (and_parts (is_valid v m) _ (and_parts (is_valid v n) _ valid).1).1 in
      let two : t.head ≢ u.head = λ same. false≢true (sym (ap not (eq-eqb n.head m.head (sym of.head ∙ same ∙ also.head))) ∙ apart) in
      tested valid (seen (λ x. given_nothing (call n.head m.head x)) view
      (subst (λ h. Called no_message (outcome_of (given_nothing (call h m.head (pool_with p ps)))) (m.head ∷ []) (pool_with p ps) r qs answer) of.head
      (subst (λ k. Called no_message (outcome_of (given_nothing (call t.head k (pool_with p ps)))) (k ∷ []) (pool_with p ps) r qs answer) also.head
      (made p r ps qs fits no_message tt (t.head ∷ []) (u.head ∷ []) [] (moves_joined head of.had also.had is.had (is.gone two) is.others) refl (ap (λ h. h ∷ []) head)
      (λ h there. or_from (t.head == h) false (ne_eqb t.head h (λ same. two (same ∙ sym (lone h u.head there)))) refl) refl (λ i. Ok (tt, pool i))
      stamps told))))

-- ---- a call that leaves the held messages

pub leaves_names : {X : Type 0} (g : Given PoolValue X) (v w : NamedValue) (result : Result X Refusal) → w ≡ with_pool v (value_after v.pool g) → result ≡ answer_of g → w.pool.arena.id ≡ v.pool.arena.id
    → ((h : ℕ) → held_at w.pool.arena h ≡ held_at v.pool.arena h) → LeavesNames g v w result
leaves_names g v w result after answer id held = record {
  pool = after;
  answer = answer;
  names = λ n i. n.pool == id i && (is_some (held n.head i) && n.stamp == stamp_at (after i) n.head);
}

-- a flush
pub flushes_names : {v : NamedValue} {p r : PoolValue} (ps : List ℕ) {result : Result (Unit {0}) Refusal} (call : PoolValue → Given PoolValue (Unit {0})) → pool_with p ps ≡ v → Flushes arena (call p) p r result
    → LeavesNames (call v.pool) v (pool_with r ps) result
flushes_names {v} {p} {r} ps {result} call view is =
    subst (λ w. LeavesNames (call w.pool) w (pool_with r ps) result) view
    (leaves_names (call p) (pool_with p ps) (pool_with r ps) result (ap (λ (x : PoolValue). pool_with x ps) is.after) is.answer is.others.id (λ h. is.others.held h refl))

-- bytes of the message of a name are lent to a closure, and it stays
module _ {X R : Type 0} {p : PoolValue} {ps : List ℕ} (fits : Fits p.arena ps) {v : NamedValue} {n : Name} (view : pool_with p ps ≡ v) (valid : is_valid v n ≡ true) {t : TokenValue} (of : IsTokenOf n p.arena t)
    (closure : List ℕ → R → List ℕ → Type 0) (lent : ℕ → NamedValue → Result (List ℕ) Refusal) (call : R → List ℕ → ℕ → NamedValue → Given PoolValue X) where
  abbrev LentTo : Result (List ℕ) Fault → PoolValue → Result X Fault → Type 0
  LentTo bytes r answer = Fits r.arena ps × LendsNamed closure bytes (λ x left. on_name v n (call x left n.head v)) v (pool_with r ps) answer

  each : (r : PoolValue) (given : Result X Refusal) (answer : Result X Fault) → answer ≡ as_named_result given → (bytes : Result (List ℕ) Refusal)
      → Lends arena t closure bytes (λ x left. call x left t.head (pool_with p ps)) p r given → LentTo (as_named_result bytes) r answer
  each r given answer told (Ok bytes) lending =
      let called = alters fits view valid of (call lending.0 lending.1.left) lending.1.after refl told in
      (called.fits, (lending.0, record { left = lending.1.left; long = lending.1.long; called = lending.1.called; after = called.does }))
  each r given answer told (Err why) is =
      let after : r ≡ p = is.after in
      let called : Called {X = X} no_message (Err (Refused why)) [] (pool_with p ps) r ps answer = refused p r ps ps fits no_message after refl (told ∙ ap as_named_result is.answer) in
      (called.fits, subst (λ w. let refusal : Outcome X = Err (Refused why) in Does no_message refusal [] w (pool_with r ps) answer) view called.does)

  pub lends : (r : PoolValue) (given : Result X Refusal) {answer : Result X Fault} → answer ≡ as_named_result given → Lends arena t closure (lent t.head (pool_with p ps)) (λ x left. call x left t.head (pool_with p ps)) p r given
      → LentTo (asked v n (lent n.head v)) r answer
  lends r given {answer} told is =
      subst (λ (b : Result (List ℕ) Fault). LentTo b r answer)
      ((λ i. as_named_result (lent (of.head i) (view i))) ∙ sym (cond-true (is_valid v n) (as_named_result (lent n.head v)) (Err Invalid) valid)) (each r given answer told (lent t.head (pool_with p ps)) is)
