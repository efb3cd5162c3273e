-- What a call does to held messages, token by token: the common part of registers and of the places of a named pool, which both
-- are tables of tokens.
use Rattle.std.proofs.Common.{◌≡◌, ◌≢◌, ℕ, Bool, true, false, eqb, ◌||◌, List, [], ◌∷◌, ◌++◌, length, map, set, get_or, zero, suc, Option, Some, None, Result, Ok, Err, refl, sym, ap, ◌∙◌, subst, inl, inr}
use Rattle.std.proofs.lemmas.Bool.{cases_Bool, cases_eq, eq-eqb, eqb-true, false≢true, ne_eqb, or_left, or_parts}
use Rattle.strm_links.specs.Rows.{IsApart}
use Rattle.strm_links.specs.Rows as rows
use Rattle.strm_mblk.specs.declared.token.TokenValue.{TokenValue}
use Rattle.strm_mblk.specs.Arena.{Arena, has, held_at}
use Rattle.strm_mblk.specs.Calls.{Parts}
use Rattle.strm_mblk.specs.Frame.{LeavesOthers}
use Rattle.strm_mblk.specs.Given.{Given}
use Rattle.strm_mblk.proofs.arena.Counts.{had_message}
use Rattle.strm_pool.specs.PoolValue.{PoolValue, arena}

-- ---- answers

pub err_not_ok : {X Y : Type 0} {e : Y} {x : X} → Err e ≡ Ok x → ⊥
err_not_ok is = cc

pub same_ok : {X Y : Type 0} {x y : X} → (let r : Result X Y = Ok x in let s : Result X Y = Ok y in r ≡ s) → x ≡ y
same_ok is = cc

pub same_err : {X Y : Type 0} {x y : Y} → (let r : Result X Y = Err x in let s : Result X Y = Err y in r ≡ s) → x ≡ y
same_err is = cc

pub same_some : {X : Type 0} {x y : X} → (let o : Option X = Some x in let p : Option X = Some y in o ≡ p) → x ≡ y
same_some is = cc

pub some_not_none : {X : Type 0} {x : X} → Some x ≡ None → ⊥
some_not_none is = cc

-- ---- heads

pub not_both : {b : Bool} → b ≡ true → b ≡ false → ⊥
not_both is not = false≢true (sym not ∙ is)

pub lone : (h k : ℕ) → rows.has h (k ∷ []) ≡ true → k ≡ h
lone h k is = elim (cases_Bool (eqb k h)) [ inl same ↦ eqb-true k h same | inr other ↦ absurd (false≢true (sym (ap (λ b. b || false) other) ∙ is)) ]

pub has_here : (h : ℕ) (hs : List ℕ) → rows.has h (h ∷ hs) ≡ true
has_here h hs = or_left (eqb h h) (rows.has h hs) (eq-eqb h h refl)

-- this holds of each of them
abbrev pub Each : {X : Type 0} → (X → Type 0) → List X → Type 0
Each P [] = Unit {0}
Each P (x ∷ xs) = P x × Each P xs

abbrev pub heads_of : List TokenValue → List ℕ
heads_of ts = map (λ t. t.head) ts

abbrev pub tokens_in : Option TokenValue → List TokenValue
tokens_in None = []
tokens_in (Some t) = t ∷ []

-- ---- tables

-- an emptied slot holds nothing
pub cleared : {X : Type 0} (xs : List (Option X)) (i : ℕ) → get_or (set xs i None) i None ≡ None
cleared [] i = refl
cleared (x ∷ xs) zero = refl
cleared (x ∷ xs) (suc i) = cleared xs i

pub set-comm : {X : Type 0} (xs : List X) (i j : ℕ) (a b : X) → i ≢ j → set (set xs i a) j b ≡ set (set xs j b) i a
set-comm [] i j a b other = refl
set-comm (x ∷ xs) zero zero a b other = absurd (other refl)
set-comm (x ∷ xs) zero (suc j) a b other = refl
set-comm (x ∷ xs) (suc i) zero a b other = refl
set-comm (x ∷ xs) (suc i) (suc j) a b other = ap (λ l. x ∷ l) (set-comm xs i j a b (λ same. other (ap suc same)))

-- ---- messages

-- a token that the pool has is of a held message
pub held_has : (a : Arena) (t : TokenValue) → has a t ≡ true → held_at a t.head ≡ None → ⊥
held_has a t had none = some_not_none (sym (had_message a t had).1.held ∙ none)

-- The messages of these tokens change: before, they are those of the first tokens, and afterwards those of the others.
pub record Moves (a b : Arena) (before after : List TokenValue) : Type 0 where
  pub id : b.id ≡ a.id
  pub size : length b.held ≡ length a.held
  pub others : (h : ℕ) → rows.has h (heads_of before) ≡ false → rows.has h (heads_of after) ≡ false → held_at b h ≡ held_at a h
  pub had : Each (λ t. has a t ≡ true) before
  pub has_now : Each (λ t. has b t ≡ true) after
  pub apart : IsApart (heads_of after)
  pub gone : (h : ℕ) → rows.has h (heads_of before) ≡ true → rows.has h (heads_of after) ≡ false → held_at b h ≡ None
  pub new : (h : ℕ) → rows.has h (heads_of before) ≡ false → rows.has h (heads_of after) ≡ true → held_at a h ≡ None

module _ {a b : Arena} where
  -- all messages stay
  pub moves_none : LeavesOthers [] a b → Moves a b [] []
  moves_none left = record {
    id = left.id;
    size = left.size;
    others = λ h before after. left.held h before;
    had = tt;
    has_now = tt;
    apart = tt;
    gone = λ h before after. absurd (false≢true before);
    new = λ h before after. absurd (false≢true after);
  }

  -- one is new
  pub moves_new : {s : TokenValue} → has b s ≡ true → held_at a s.head ≡ None → LeavesOthers (s.head ∷ []) a b → Moves a b [] (s ∷ [])
  moves_new {s} had unheld left = record {
    id = left.id;
    size = left.size;
    others = λ h before after. left.held h after;
    had = tt;
    has_now = (had, tt);
    apart = (refl, tt);
    gone = λ h before after. absurd (false≢true before);
    new = λ h before after. ap (held_at a) (sym (lone h s.head after)) ∙ unheld;
  }

  -- one goes
  pub moves_gone : {t : TokenValue} → has a t ≡ true → held_at b t.head ≡ None → LeavesOthers (t.head ∷ []) a b → Moves a b (t ∷ []) []
  moves_gone {t} had gone left = record {
    id = left.id;
    size = left.size;
    others = λ h before after. left.held h before;
    had = (had, tt);
    has_now = tt;
    apart = tt;
    gone = λ h before after. ap (held_at b) (sym (lone h t.head before)) ∙ gone;
    new = λ h before after. absurd (false≢true after);
  }

  -- one goes, and one is new
  pub moves_rest : {t s : TokenValue} → has a t ≡ true → held_at b t.head ≡ None → has b s ≡ true → held_at a s.head ≡ None → LeavesOthers (t.head ∷ s.head ∷ []) a b
      → Moves a b (t ∷ []) (s ∷ [])
  moves_rest {t} {s} had gone has_now unheld left = record {
    id = left.id;
    size = left.size;
    others = λ h before after. left.held h (ap (λ x. x || rows.has h (s.head ∷ [])) (or_parts (eqb t.head h) false before).0 ∙ after);
    had = (had, tt);
    has_now = (has_now, tt);
    apart = (refl, tt);
    gone = λ h before after. ap (held_at b) (sym (lone h t.head before)) ∙ gone;
    new = λ h before after. ap (held_at a) (sym (lone h s.head after)) ∙ unheld;
  }

  -- one stays held at its head, and changes
  pub moves_stay : {t s : TokenValue} → s.head ≡ t.head → has a t ≡ true → has b s ≡ true → LeavesOthers (t.head ∷ []) a b → Moves a b (t ∷ []) (s ∷ [])
  moves_stay head had has_now left = record {
    id = left.id;
    size = left.size;
    others = λ h before after. left.held h before;
    had = (had, tt);
    has_now = (has_now, tt);
    apart = (refl, tt);
    gone = λ h before after. absurd (not_both (ap (λ k. rows.has h (k ∷ [])) head ∙ before) after);
    new = λ h before after. absurd (not_both (ap (λ k. rows.has h (k ∷ [])) (sym head) ∙ after) before);
  }

  -- one stays so, and one is new
  pub moves_beside : {t s r : TokenValue} {heads : List ℕ} → s.head ≡ t.head → has a t ≡ true → has b s ≡ true → has b r ≡ true → held_at a r.head ≡ None
      → LeavesOthers heads a b → ((h : ℕ) → rows.has h (t.head ∷ r.head ∷ []) ≡ false → rows.has h heads ≡ false) → Moves a b (t ∷ []) (s ∷ r ∷ [])
  moves_beside {t} {s} {r} head had kept given unheld left covered = record {
    id = left.id;
    size = left.size;
    others = λ h before after.
        left.held h (covered h (ap (λ x. x || rows.has h (r.head ∷ [])) (or_parts (eqb t.head h) false before).0 ∙ (or_parts (eqb s.head h) (rows.has h (r.head ∷ [])) after).1));
    had = (had, tt);
    has_now = (kept, (given, tt));
    apart = (ap (λ x. x || false) (ne_eqb r.head s.head (λ same. held_has a t had (ap (held_at a) (sym (same ∙ head)) ∙ unheld))), (refl, tt));
    gone = λ h before after. absurd (not_both (eq-eqb s.head h (head ∙ lone h t.head before)) (or_parts (eqb s.head h) (rows.has h (r.head ∷ [])) after).0);
    new = λ h before after.
        ap (held_at a) (sym (lone h r.head (ap (λ x. x || rows.has h (r.head ∷ [])) (sym (ap (λ k. eqb k h) head ∙ (or_parts (eqb t.head h) false before).0)) ∙ after))) ∙ unheld;
  }

  -- one stays so, and another goes
  pub moves_joined : {t u s : TokenValue} → s.head ≡ t.head → has a t ≡ true → has a u ≡ true → has b s ≡ true → held_at b u.head ≡ None
      → LeavesOthers (t.head ∷ u.head ∷ []) a b → Moves a b (t ∷ u ∷ []) (s ∷ [])
  moves_joined {t} {u} {s} head had also_had has_now gone left = record {
    id = left.id;
    size = left.size;
    others = λ h before after. left.held h before;
    had = (had, (also_had, tt));
    has_now = (has_now, tt);
    apart = (refl, tt);
    gone = λ h before after.
        let not : eqb t.head h ≡ false = ap (λ k. eqb k h) (sym head) ∙ (or_parts (eqb s.head h) false after).0 in
        ap (held_at b) (sym (lone h u.head (ap (λ x. x || rows.has h (u.head ∷ [])) (sym not) ∙ before))) ∙ gone;
    new = λ h before after. absurd (not_both (ap (λ k. rows.has h (k ∷ [])) (sym head) ∙ after) (ap (λ x. x || false) (or_parts (eqb t.head h) (rows.has h (u.head ∷ [])) before).0));
  }

-- one is parted: its block is the message of f, and the others are that of the rest, if there is one
pub moves_parted : {t f : TokenValue} (rest : Option TokenValue) {g : Given PoolValue (ℕ × Option ℕ)} {v w : PoolValue} → has v.arena t ≡ true → Parts arena t g v w (Ok (f, rest))
    → Moves v.arena w.arena (t ∷ []) (tokens_in rest ++ (f ∷ []))
moves_parted {t} {f} None {g} {v} {w} had is = record {
  id = is.others.id;
  size = is.others.size;
  others = λ h before after. is.others.held h (ap (λ b. b || rows.has h (f.head ∷ [])) (or_parts (eqb t.head h) false before).0 ∙ after);
  had = (had, tt);
  has_now = (is.had, tt);
  apart = (refl, tt);
  gone = λ h before after.
      elim is.kept [
        | inl same ↦ absurd (not_both (ap (λ k. rows.has h (k ∷ [])) same ∙ before) after)
        | inr none ↦ absurd cc
      ];
  new = λ h before after.
      subst (λ k. held_at v.arena k ≡ None) (lone h f.head after)
      (is.unheld (λ same. not_both (eq-eqb t.head h (sym same ∙ lone h f.head after)) (or_parts (eqb t.head h) false before).0));
}
moves_parted {t} {f} (Some r) {g} {v} {w} had is = record {
  id = is.others.id;
  size = is.others.size;
  others = λ h before after.
      let parts = or_parts (eqb r.head h) (rows.has h (f.head ∷ [])) after in
      is.others.held h
      (ap (λ b. b || rows.has h (f.head ∷ r.head ∷ [])) (or_parts (eqb t.head h) false before).0
      ∙ ap (λ b. b || rows.has h (r.head ∷ [])) (or_parts (eqb f.head h) false parts.1).0 ∙ ap (λ b. b || false) parts.0);
  had = (had, tt);
  has_now = (is.rest_had, (is.had, tt));
  apart = (ap (λ b. b || false) (ne_eqb f.head r.head (λ same. is.apart (sym same))), (refl, tt));
  gone = λ h before after.
      let parts = or_parts (eqb r.head h) (rows.has h (f.head ∷ [])) after in
      elim is.kept [
        | inl same ↦ absurd (not_both (ap (λ k. rows.has h (k ∷ [])) same ∙ before) parts.1)
        | inr some ↦ absurd (not_both (eq-eqb r.head h (same_some some ∙ lone h t.head before)) parts.0)
      ];
  new = λ h before after.
      let other : h ≢ t.head = λ same. not_both (eq-eqb t.head h (sym same)) (or_parts (eqb t.head h) false before).0 in
      elim (cases_eq r.head h) [
        | inl same ↦ subst (λ k. held_at v.arena k ≡ None) same (is.rest_unheld (λ e. other (sym same ∙ e)))
        | inr not ↦
            let same : f.head ≡ h = lone h f.head (ap (λ b. b || rows.has h (f.head ∷ [])) (sym (ne_eqb r.head h not)) ∙ after) in
            subst (λ k. held_at v.arena k ≡ None) same (is.unheld (λ e. other (sym same ∙ e)))
      ];
}

-- so it is with the two of them in the other order
pub moves_swapped : {a b : Arena} {before : List TokenValue} {s r : TokenValue} → Moves a b before (s ∷ r ∷ []) → Moves a b before (r ∷ s ∷ [])
moves_swapped {a} {b} {before} {s} {r} moves = record {
  id = moves.id;
  size = moves.size;
  others = λ h was after. moves.others h was (swapped h ∙ after);
  had = moves.had;
  has_now = (moves.has_now.1.0, (moves.has_now.0, tt));
  apart = (ap (λ x. x || false) (ne_eqb s.head r.head (λ same. not_both (eq-eqb r.head s.head (sym same)) (or_parts (eqb r.head s.head) false moves.apart.0).0)), (refl, tt));
  gone = λ h was after. moves.gone h was (swapped h ∙ after);
  new = λ h was after. moves.new h was (swapped h ∙ after);
}
  where
    either : (x y : Bool) → (x || (y || false)) ≡ (y || (x || false))
    either true true = refl
    either true false = refl
    either false true = refl
    either false false = refl

    swapped : (h : ℕ) → rows.has h (s.head ∷ r.head ∷ []) ≡ rows.has h (r.head ∷ s.head ∷ [])
    swapped h = either (eqb s.head h) (eqb r.head h)
