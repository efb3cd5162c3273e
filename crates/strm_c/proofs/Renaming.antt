-- Which names are valid after a call that follows others, and which messages a call gives.
use Rattle.std.proofs.Common.{◌≡◌, ℕ, zero, suc, true, false, ◌&&◌, ◌||◌, ◌==◌, List, [], ◌∷◌, ◌++◌, map, get_or, None, Result, Ok, Err, refl, sym, ap, ◌∙◌, subst, inl, inr, arith, ℤ, Option, Some}
use Rattle.std.specs.Prelude.{is_some}
use Rattle.std.specs.List.{All}
use Rattle.std.proofs.lemmas.Bool.{and_parts, cases_Bool, eqb-true, false≢true, or_parts, or_right}
use Rattle.std.proofs.lemmas.List.{append-nil, map-append}
use Rattle.std.proofs.lemmas.List.Elements.{All-append}
use Rattle.strm_links.specs.Rows as rows
use Rattle.strm_links.proofs.lists.OneList.{IsApart-append, has-append}
use Rattle.strm_mblk.specs.Arena.{held_at}
use Rattle.strm_pool.specs.PoolValue.{PoolValue}
use Rattle.strm_pool.proofs.Tokens.{err_not_ok, has_here, lone}
use Rattle.strm_named.specs.declared.fault.Fault.{Fault}
use Rattle.strm_named.specs.declared.name.Name.{Name}
use Rattle.strm_named.specs.NamedCalls.{Does, Outcome, Shape, answer_told, named_after}
use Rattle.strm_named.specs.NamedValue.{NamedValue, Renames, is_valid, name_of, stamp_at}
use Rattle.strm_c.specs.declared.code.Code.{Code}
use Rattle.strm_c.specs.Codes.{Answer, answer_of_result, number_returned, value_written}
use Rattle.strm_c.specs.Series.{GivesAll, SpendsAll, heads_of}
use Rattle.strm_c.specs.Exports.{CallsNamed, Held, Ranged}

-- ---- one call after another

-- what makes a name valid
valid_parts : (v : NamedValue) (n : Name) → is_valid v n ≡ true → ((n.pool == v.pool.arena.id) ≡ true) × (is_some (held_at v.pool.arena n.head) ≡ true) × ((n.stamp == stamp_at v n.head) ≡ true)
valid_parts v n valid =
    let id = and_parts (n.pool == v.pool.arena.id) (is_some (held_at v.pool.arena n.head) && n.stamp == stamp_at v n.head) valid in
    let held = and_parts (is_some (held_at v.pool.arena n.head)) (n.stamp == stamp_at v n.head) id.1 in
    (id.0, held.0, held.1)

-- a valid name is that of the last message at its head
named_alike : (v : NamedValue) (n : Name) → is_valid v n ≡ true → n ≡ name_of v n.head
named_alike v n valid =
    let is = valid_parts v n valid in
    λ i. record { pool = eqb-true n.pool v.pool.arena.id is.0 i; head = n.head; stamp = eqb-true n.stamp (stamp_at v n.head) is.2 i }

has_first : (h : ℕ) (xs ys : List ℕ) → rows.has h ys ≡ false → rows.has h (xs ++ ys) ≡ true → rows.has h xs ≡ true
has_first h xs ys none is =
    elim (cases_Bool (rows.has h xs)) [
      | inl there ↦ there
      | inr not ↦ absurd (false≢true (sym (has-append h xs ys ∙ (λ i. not i || none i)) ∙ is))
    ]

-- The names that are valid after two calls. The second spends none that the first gave, and gives others than those that the first
-- spent or gave.
module _ (u v w : NamedValue) (spent given : List ℕ) (first : Renames spent given u v) (spent' given' : List ℕ) (second : Renames spent' given' v w)
    (kept : (h : ℕ) → rows.has h given ≡ true → rows.has h spent' ≡ false) (new : (h : ℕ) → rows.has h given' ≡ true → (rows.has h spent ≡ false) × (rows.has h given ≡ false)) where
  -- a name that the first call gave is still that of its message
  still : (h : ℕ) → rows.has h given ≡ true → rows.has h given' ≡ false → name_of v h ≡ name_of w h
  still h is not = named_alike w (name_of v h) (second.others (name_of v h) (kept h is) not ∙ first.fresh h is)

  pub renames_both : Renames (spent ++ spent') (given ++ given') u w
  renames_both = record {
    others = λ n not_spent not_given.
        let s = or_parts _ _ (sym (has-append n.head spent spent') ∙ not_spent) in
        let g = or_parts _ _ (sym (has-append n.head given given') ∙ not_given) in
        second.others n s.1 g.1 ∙ first.others n s.0 g.0;
    gone = λ n is not_given.
        let g = or_parts _ _ (sym (has-append n.head given given') ∙ not_given) in
        elim (cases_Bool (rows.has n.head spent')) [
          | inl last ↦ second.gone n last g.1
          | inr not ↦ second.others n not g.1 ∙ first.gone n (has_first n.head spent spent' not is) g.0
        ];
    fresh = λ h is.
        elim (cases_Bool (rows.has h given')) [
          | inl last ↦ second.fresh h last
          | inr not ↦
              let before = has_first h given given' not is in
              subst (λ n. is_valid w n ≡ true) (still h before not) (second.others (name_of v h) (kept h before) not ∙ first.fresh h before)
        ];
    unheard = λ h is.
        elim (cases_Bool (rows.has h given')) [
          | inl last ↦ sym (first.others (name_of w h) (new h last).0 (new h last).1) ∙ second.unheard h last
          | inr not ↦
              let before = has_first h given given' not is in
              ap (is_valid u) (sym (still h before not)) ∙ first.unheard h before
        ];
  }

pub renames_none : (v : NamedValue) → Renames [] [] v v
renames_none v = record {
  others = λ n not_spent not_given. refl;
  gone = λ n is not_given. absurd (false≢true is);
  fresh = λ h is. absurd (false≢true is);
  unheard = λ h is. absurd (false≢true is);
}

pub gives_none : (v : NamedValue) → GivesAll [] v v
gives_none v = record { renames = renames_none v; valid = λ k d within. absurd (omega (arith, within)); apart = tt }

-- ---- a call after a series

-- it spent these names
pub spends_more : (xs names : List Name) (u v w : NamedValue) → SpendsAll xs u v → Renames (heads_of names) [] v w → SpendsAll (xs ++ names) u w
spends_more xs names u v w first second =
    subst (λ hs. Renames hs [] u w) (sym (map-append (λ (n : Name). n.head) xs names))
    (renames_both u v w (heads_of xs) [] first (heads_of names) [] second (λ h is. absurd (false≢true is)) (λ h is. absurd (false≢true is)))

heads_named : (v : NamedValue) (hs : List ℕ) → heads_of (map (name_of v) hs) ≡ hs
heads_named v [] = refl
heads_named v (h ∷ hs) = ap (λ ks. h ∷ ks) (heads_named v hs)

all_named : (v : NamedValue) (hs : List ℕ) → ((h : ℕ) → rows.has h hs ≡ true → is_valid v (name_of v h) ≡ true) → All (λ n. is_valid v n ≡ true) (map (name_of v) hs)
all_named v [] valid k d within = absurd (omega (arith, within))
all_named v (h ∷ hs) valid zero d within = valid h (has_here h hs)
all_named v (h ∷ hs) valid (suc k) d within = all_named v hs (λ j there. valid j (or_right (h == j) (rows.has j hs) there)) k d (omega (arith, within))

-- it gave names of messages with these heads, where none was held
module _ (xs : List Name) (u v w : NamedValue) (first : GivesAll xs u v) (hs : List ℕ) (once : rows.IsApart hs) (second : Renames [] hs v w) (unheld : (h : ℕ) → rows.has h hs ≡ true → held_at v.pool.arena h ≡ None) where
  -- a name that was valid has another head
  unlike : (n : Name) → is_valid v n ≡ true → rows.has n.head hs ≡ false
  unlike n valid =
      elim (cases_Bool (rows.has n.head hs)) [
        | inl there ↦ absurd (false≢true (sym (ap is_some (unheld n.head there)) ∙ (valid_parts v n valid).1))
        | inr not ↦ not
      ]

  other : (h : ℕ) → rows.has h hs ≡ true → rows.has h (heads_of xs) ≡ false
  other h there =
      elim (cases_Bool (rows.has h (heads_of xs))) [
        | inl is ↦ absurd (false≢true (sym (unlike (name_of v h) (first.renames.fresh h is)) ∙ there))
        | inr not ↦ not
      ]

  heads_are : heads_of xs ++ hs ≡ heads_of (xs ++ map (name_of w) hs)
  heads_are = sym (map-append (λ (n : Name). n.head) xs (map (name_of w) hs) ∙ ap (λ ks. heads_of xs ++ ks) (heads_named w hs))

  pub gives_more : GivesAll (xs ++ map (name_of w) hs) u w
  gives_more = record {
    renames =
        subst (λ ks. Renames [] ks u w) heads_are
        (renames_both u v w [] (heads_of xs) first.renames [] hs second (λ h is. refl) (λ h is. (refl, other h is)));
    valid =
        All-append (λ n. is_valid w n ≡ true) xs (map (name_of w) hs)
        (λ k d within. let was = first.valid k d within in second.others (get_or xs k d) refl (unlike (get_or xs k d) was) ∙ was)
        (all_named w hs second.fresh);
    apart =
        subst rows.IsApart heads_are
        (IsApart-append (heads_of xs) hs (record { left = first.apart; right = once; cross = λ h there. unlike (name_of v h) (first.renames.fresh h there) }));
  }

pub spends_still : (xs : List Name) (u v w : NamedValue) → SpendsAll xs u v → Renames [] [] v w → SpendsAll xs u w
spends_still xs u v w first second = subst (λ ys. SpendsAll ys u w) (append-nil xs) (spends_more xs [] u v w first second)

pub gives_still : (xs : List Name) (u v w : NamedValue) → GivesAll xs u v → Renames [] [] v w → GivesAll xs u w
gives_still xs u v w first second = subst (λ ys. GivesAll ys u w) (append-nil xs) (gives_more xs u v w first [] tt second (λ h is. absurd (false≢true is)))

pub gives_one : (xs : List Name) (u v w : NamedValue) → GivesAll xs u v → (h : ℕ) → Renames [] (h ∷ []) v w → held_at v.pool.arena h ≡ None → (n : Name) → n ≡ name_of w h → GivesAll (xs ++ n ∷ []) u w
gives_one xs u v w first h second unheld n is =
    subst (λ m. GivesAll (xs ++ m ∷ []) u w) (sym is) (gives_more xs u v w first (h ∷ []) (refl, tt) second (λ k there. ap (held_at v.pool.arena) (sym (lone k h there)) ∙ unheld))

-- ---- what a call spends and gives

-- a call that returned 0
pub went_on : {X Y Z : Type 0} (s : Shape X Y) (tells : Y → Answer Z) (outcome : Outcome X) (spent : List ℕ) (v w : NamedValue) (answer : Result Y Fault) → Does s outcome spent v w answer → (z : Z) → Ok z ≡ answer_of_result tells answer
    → (given : X × PoolValue) × (outcome ≡ Ok given) × Renames spent (s.heads given.0) v w × (Ok z ≡ tells (s.told w given.0))
went_on s tells (Ok given) spent v w answer does z is = (given, refl, does.names, is ∙ ap (answer_of_result tells) does.told)
went_on s tells (Err fault) spent v w answer does z is = absurd (err_not_ok (sym (is ∙ ap (answer_of_result tells) does.told)))

-- a call that did not
pub gave_up : {X Y Z : Type 0} (s : Shape X Y) (tells : Y → Answer Z) (outcome : Outcome X) (spent : List ℕ) (v w : NamedValue) (answer : Result Y Fault) → Does s outcome spent v w answer → (code : Code) → Err code ≡ answer_of_result tells answer
    → ((x : X) → Err code ≡ tells (s.told w x) → Renames spent (s.heads x) v w → Renames [] [] v w) → Renames [] [] v w
gave_up s tells (Ok given) spent v w answer does code is done = done given.0 (is ∙ ap (answer_of_result tells) does.told) does.names
gave_up s tells (Err fault) spent v w answer does code is done = subst (Renames [] [] v) (sym does.after) (renames_none v)

-- ---- calls on names with a number that means something

-- what a call on names answers is what its definition says
told_alike : {X Y Z : Type 0} (shape : Shape X Y) (tells : Y → Answer Z) (outcome : Outcome X) (spent : List ℕ) (v w : NamedValue) (answer : Result Y Fault) → Does shape outcome spent v w answer
    → answer_of_result tells answer ≡ answer_of_result tells (answer_told shape (named_after shape v outcome) outcome)
told_alike shape tells outcome spent v w answer does = ap (answer_of_result tells) (does.told ∙ ap (λ x. answer_told shape x outcome) does.after)

-- the call was made, and its answer stored
pub ranged : {A X Y Z : Type 0} (shape : Shape X Y) (tells : Y → Answer Z) (outcome : A → NamedValue → Outcome X) (spent : List ℕ) (given : Option A) (a : A) (old new : Held) (v w : NamedValue) (answer : Result Y Fault) (number code : ℤ) (was now : Z)
    → given ≡ Some a → old ≡ Some v → new ≡ Some w → Does shape (outcome a v) spent v w answer → number ≡ code → code ≡ number_returned (answer_of_result tells answer) → now ≡ value_written was (answer_of_result tells answer)
    → Ranged given (λ x. CallsNamed shape tells (outcome x) spent) old new number was now
ranged shape tells outcome spent given a old new v w answer number code was now meant before after does exact returned stored =
    let same = told_alike shape tells (outcome a v) spent v w answer does in
    subst (λ g. Ranged g (λ x. CallsNamed shape tells (outcome x) spent) old new number was now) (sym meant)
    (subst (λ o. CallsNamed shape tells (outcome a) spent o new number was now) (sym before)
    (subst (λ n. CallsNamed shape tells (outcome a) spent (Some v) n number was now) (sym after)
    ((ap Some does.after, (exact ∙ returned ∙ ap number_returned same, stored ∙ ap (value_written was) same)), does.names)))
