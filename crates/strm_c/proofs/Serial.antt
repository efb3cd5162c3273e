-- A series of calls, a call at a time.
use Rattle.std.proofs.Common.{◌≡◌, ℕ, zero, suc, ◌+◌, ◌<◌, ◌≤◌, List, [], ◌∷◌, ◌++◌, length, map, get_or, replicate, set, take, drop, Option, Some, None, Result, Ok, Err, refl, sym, ap, ◌∙◌, subst, arith, append_assoc}
use Rattle.std.specs.Prelude.{option_map, slice_get}
use Rattle.std.proofs.lemmas.Grind.{drop_more_same}
use Rattle.std.proofs.lemmas.List.{append-nil, drop-set-lt, drop_all, length-map, length-replicate, length-take-le, replicate_more, take-append-drop, take-take, take_more, take_more_set}
use Rattle.std.proofs.lemmas.Option.{slice_get-get_or, slice_get-map}
use Rattle.strm_mblk.proofs.Lists.{drop_from}
use Rattle.strm_data.specs.declared.refusal.Refusal.{Refusal}
use Rattle.strm_named.specs.declared.fault.Fault.{Fault}
use Rattle.strm_named.specs.declared.fault.Fault.TheVariants as faults
use Rattle.strm_named.specs.declared.name.Name.{Name}
use Rattle.strm_named.specs.NamedCalls.{Does, Outcome, Shape, answer_told, named_after}
use Rattle.strm_named.specs.NamedValue.{NamedValue, Renames}
use Rattle.strm_c.specs.declared.code.Code.{Code}
use Rattle.strm_c.specs.declared.code.Code.TheVariants as codes
use Rattle.strm_c.specs.Codes.{Answer, answer_of_result}
use Rattle.strm_c.specs.Exports.{array_with}
use Rattle.strm_c.specs.InC.{no_name}
use Rattle.strm_c.specs.Series.{GivesAll, GivesEach, MakesEach, Series, Single, SpendsAll, SpendsEach, array_with_stored, count_of, series_from, series_of, single, stopped}
use Rattle.strm_c.proofs.Renaming.{gives_none, renames_none, spends_more, spends_still}

-- a series after calls that stored these
abbrev pub with_stored : {Z : Type 0} → List Z → Series Z → Series Z
with_stored xs s = record s { stored = xs ++ s.stored }

abbrev pub series : {Z : Type 0} → NamedValue → List Z → Option Code → Series Z
series v xs stop = record { after = v; stored = xs; stop = stop }

-- ---- a single call

-- a call of the named pool, with the answer that C gets, is a single call
pub made : {X Y Z : Type 0} (shape : Shape X Y) (tells : Y → Answer Z) (outcome : NamedValue → Outcome X) (spent : List ℕ) (v w : NamedValue) (answer : Result Y Fault) (told : Answer Z)
    → Does shape (outcome v) spent v w answer → told ≡ answer_of_result tells answer → single shape tells outcome v ≡ (w, told)
made {X} {Y} {Z} shape tells outcome spent v w answer told does is =
    let second : answer_of_result tells (answer_told shape w (outcome v)) ≡ told = ap (answer_of_result tells) (sym does.told) ∙ sym is in
    (λ i. (sym does.after i, answer_of_result tells (answer_told shape (sym does.after i) (outcome v)))) ∙ (λ i. (w, second i))

-- one that is refused changes nothing
pub made_not : {X Y Z : Type 0} (shape : Shape X Y) (tells : Y → Answer Z) (outcome : NamedValue → Outcome X) (v : NamedValue) {why : Refusal} → outcome v ≡ Err (faults.Refused why)
    → single shape tells outcome v ≡ (v, Err (codes.Refused why))
made_not shape tells outcome v is = ap (λ o. (named_after shape v o, answer_of_result tells (answer_told shape (named_after shape v o) o))) is

-- ---- a series

module _ {Z : Type 0} (calls : List (Single Z)) (k : ℕ) (xs : List Z) (whole : Series Z) (v : NamedValue) (is : whole ≡ with_stored xs (series_of (drop k calls) v)) where
  module _ (call : Single Z) (at : slice_get calls k ≡ Some call) (w : NamedValue) where
    next : (told : Answer Z) → call v ≡ (w, told) → whole ≡ with_stored xs (series_from (series_of (drop (k + 1) calls) w) w told)
    next told done =
        is ∙ ap (λ (cs : List (Single Z)). with_stored xs (series_of cs v)) (drop_from calls k call at)
        ∙ ap (λ (r : NamedValue × Answer Z). with_stored xs (series_from (series_of (drop (k + 1) calls) r.0) r.0 r.1)) done

    -- the next call returned 0
    pub continued : (z : Z) → call v ≡ (w, Ok z) → whole ≡ with_stored (xs ++ z ∷ []) (series_of (drop (k + 1) calls) w)
    continued z done =
        let s : Series Z = series_of (drop (k + 1) calls) w in
        next (Ok z) done ∙ ap (λ (ys : List Z). series s.after ys s.stop) (sym (append_assoc xs (z ∷ []) s.stored))

    -- the next call did not
    pub halted : (code : Code) → call v ≡ (w, Err code) → whole ≡ series w xs (Some code)
    halted code done = next (Err code) done ∙ ap (λ (ys : List Z). series w ys (Some code)) (append-nil xs)

  -- there is no next call
  pub ended : drop k calls ≡ [] → whole ≡ series v xs None
  ended none = is ∙ ap (λ (cs : List (Single Z)). with_stored xs (series_of cs v)) none ∙ ap (λ (ys : List Z). series v ys None) (append-nil xs)

-- ---- its answer

abbrev counted : ℕ → Answer ℕ
counted n = Ok n

count_of-halted : {Z : Type 0} (xs : List Z) (code : Code) → count_of xs (Some code) ≡ stopped (length xs) code
count_of-halted [] code = refl
count_of-halted (x ∷ xs) code = refl

count_of-ended : {Z : Type 0} (xs : List Z) → count_of xs None ≡ Ok (length xs)
count_of-ended [] = refl
count_of-ended (x ∷ xs) = refl

module _ {Z : Type 0} (calls : List (Single Z)) (v w : NamedValue) (xs : List Z) (k : ℕ) (long : length xs ≡ k) (answer : Answer ℕ) where
  pub halts : (code : Code) → series_of calls v ≡ series w xs (Some code) → answer ≡ stopped k code → MakesEach calls v w answer
  halts code is told = record {
    after = sym (ap (λ (s : Series Z). s.after) is);
    answer = told ∙ ap (λ (n : ℕ). stopped n code) (sym long) ∙ sym (count_of-halted xs code) ∙ sym (ap (λ (s : Series Z). count_of s.stored s.stop) is);
  }

  pub ends : series_of calls v ≡ series w xs None → answer ≡ Ok k → MakesEach calls v w answer
  ends is told = record {
    after = sym (ap (λ (s : Series Z). s.after) is);
    answer = told ∙ ap counted (sym long) ∙ sym (count_of-ended xs) ∙ sym (ap (λ (s : Series Z). count_of s.stored s.stop) is);
  }

-- ---- calls that store names in an array

-- k calls stored the first k items of the array, and the others are as before
pub record HasStored (calls : List (Single Name)) (v0 v : NamedValue) (old now : List Name) (k : ℕ) : Type 0 where
  pub all : series_of calls v0 ≡ with_stored (take k now) (series_of (drop k calls) v)
  pub rest : drop k now ≡ drop k old
  pub given : GivesAll (take k now) v0 v

pub stored_none : (calls : List (Single Name)) (v : NamedValue) (array : List Name) → HasStored calls v v array array 0
stored_none calls v array = record { all = refl; rest = refl; given = gives_none v }

-- the calls did all that they did
pub record HasStoredAll (calls : List (Single Name)) (v0 v : NamedValue) (old now : List Name) (answer : Answer ℕ) : Type 0 where
  pub makes : MakesEach calls v0 v answer
  pub names : now ≡ array_with_stored (series_of calls v0) old
  pub valid : GivesEach calls (Some v0) (Some v)

module _ (calls : List (Single Name)) (v0 v : NamedValue) (old now : List Name) (k : ℕ) (so : HasStored calls v0 v old now k) where
  array_is : (w : NamedValue) (stop : Option Code) → series_of calls v0 ≡ series w (take k now) stop → k ≤ length now → now ≡ array_with_stored (series_of calls v0) old
  array_is w stop is within =
      sym (
      ap (λ (s : Series Name). array_with_stored s old) is
      ∙ ap (λ (n : ℕ). array_with n (take k now) old) (length-take-le k now within)
      ∙ ap (λ (ys : List Name). ys ++ drop k old) (take-take k k now (omega arith))
      ∙ ap (λ (ys : List Name). take k now ++ ys) (sym so.rest)
      ∙ take-append-drop k now
      )

  valid_is : (w : NamedValue) (stop : Option Code) → series_of calls v0 ≡ series w (take k now) stop → GivesAll (take k now) v0 w → GivesEach calls (Some v0) (Some w)
  valid_is w stop is given = subst (λ ys. GivesAll ys v0 w) (sym (ap (λ (s : Series Name). s.stored) is)) given

  module _ (call : Single Name) (at : slice_get calls k ≡ Some call) (w : NamedValue) where
    pub stored_more : (z : Name) → call v ≡ (w, Ok z) → k < length now → GivesAll (take k now ++ z ∷ []) v0 w → HasStored calls v0 w old (set now k z) (k + 1)
    stored_more z done within given = record {
      all =
          continued calls k (take k now) (series_of calls v0) v so.all call at w z done
          ∙ ap (λ (ys : List Name). with_stored ys (series_of (drop (k + 1) calls) w)) (sym (take_more_set now k z within));
      rest = drop-set-lt (k + 1) now k z (omega arith) ∙ drop_more_same now old k so.rest;
      given = subst (λ ys. GivesAll ys v0 w) (sym (take_more_set now k z within)) given;
    }

    pub stored_halted : (code : Code) (answer : Answer ℕ) → call v ≡ (w, Err code) → answer ≡ stopped k code → k ≤ length now → GivesAll (take k now) v0 w → HasStoredAll calls v0 w old now answer
    stored_halted code answer done told within given =
        let is = halted calls k (take k now) (series_of calls v0) v so.all call at w code done in
        record {
          makes = halts calls v0 w (take k now) k (length-take-le k now within) answer code is told;
          names = array_is w (Some code) is within;
          valid = valid_is w (Some code) is given;
        }

  pub stored_ended : length now ≡ k → length calls ≤ k → HasStoredAll calls v0 v old now (Ok (length now))
  stored_ended full none =
      let within : k ≤ length now = omega (arith, full) in
      let is = ended calls k (take k now) (series_of calls v0) v so.all (drop_all k calls none) in
      record {
        makes = ends calls v0 v (take k now) k (length-take-le k now within) (Ok (length now)) is (ap counted full);
        names = array_is v None is within;
        valid = valid_is v None is so.given;
      }

-- ---- calls on names, which store nothing

-- the call was made on the first k names
pub record HasSpent (call : Name → Single (Unit {0})) (names : List Name) (v0 v : NamedValue) (k : ℕ) : Type 0 where
  pub all : series_of (map call names) v0 ≡ with_stored (replicate k tt) (series_of (drop k (map call names)) v)
  pub spent : SpendsAll (take k names) v0 v

pub spent_none : (call : Name → Single (Unit {0})) (names : List Name) (v : NamedValue) → HasSpent call names v v 0
spent_none call names v = record { all = refl; spent = renames_none v }

pub record HasSpentAll (call : Name → Single (Unit {0})) (names : List Name) (v0 v : NamedValue) (answer : Answer ℕ) : Type 0 where
  pub makes : MakesEach (map call names) v0 v answer
  pub spent : SpendsEach call names (Some v0) (Some v)

module _ (call : Name → Single (Unit {0})) (names : List Name) (v0 v : NamedValue) (k : ℕ) (so : HasSpent call names v0 v k) where
  spent_is : (w : NamedValue) (stop : Option Code) → series_of (map call names) v0 ≡ series w (replicate k tt) stop → SpendsAll (take k names) v0 w → SpendsEach call names (Some v0) (Some w)
  spent_is w stop is spent =
      subst (λ ys. SpendsAll ys v0 w) (sym (ap (λ (s : Series (Unit {0})). take (length s.stored) names) is ∙ ap (λ (n : ℕ). take n names) (length-replicate k tt))) spent

  module _ (within : k < length names) (w : NamedValue) where
    abbrev name : Name
    name = get_or names k no_name

    at : slice_get (map call names) k ≡ Some (call name)
    at = slice_get-map call names k ∙ ap (option_map call) (slice_get-get_or names k no_name within)

    pub spent_more : call name v ≡ (w, Ok tt) → Renames (name.head ∷ []) [] v w → HasSpent call names v0 w (k + 1)
    spent_more done spends = record {
      all =
          continued (map call names) k (replicate k tt) (series_of (map call names) v0) v so.all (call name) at w tt done
          ∙ ap (λ (ys : List (Unit {0})). with_stored ys (series_of (drop (k + 1) (map call names)) w)) (replicate_more k tt);
      spent = subst (λ ys. SpendsAll ys v0 w) (sym (take_more names k no_name within)) (spends_more (take k names) (name ∷ []) v0 v w so.spent spends);
    }

    pub spent_halted : (code : Code) (answer : Answer ℕ) → call name v ≡ (w, Err code) → answer ≡ stopped k code → Renames [] [] v w → HasSpentAll call names v0 w answer
    spent_halted code answer done told none =
        let is = halted (map call names) k (replicate k tt) (series_of (map call names) v0) v so.all (call name) at w code done in
        record {
          makes = halts (map call names) v0 w (replicate k tt) k (length-replicate k tt) answer code is told;
          spent = spent_is w (Some code) is (spends_still (take k names) v0 v w so.spent none);
        }

  pub spent_ended : (n : ℕ) → n ≡ k → length names ≤ k → HasSpentAll call names v0 v (Ok n)
  spent_ended n full none =
      let is = ended (map call names) k (replicate k tt) (series_of (map call names) v0) v so.all (drop_all k (map call names) (omega (arith, none, length-map names call))) in
      record {
        makes = ends (map call names) v0 v (replicate k tt) k (length-replicate k tt) (Ok n) is (ap counted full);
        spent = spent_is v None is so.spent;
      }

-- ---- the same call again and again

pub replicated : {X : Type 0} (n k : ℕ) (x : X) → k < n → slice_get (replicate n x) k ≡ Some x
replicated zero k x few = absurd (omega (arith, few))
replicated (suc n) zero x few = refl
replicated (suc n) (suc k) x few = replicated n k x (omega (arith, few))
