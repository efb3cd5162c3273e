-- What one look more makes of what a desk has seen.
use Rattle.std.proofs.Common.{◌≡◌, ℕ, zero, suc, ◌+◌, ◌-◌, ◌≤◌, List, [], ◌∷◌, ◌++◌, inl, inr, get_or, length, min, refl, sym, ap, ◌∙◌, subst, arith, append_assoc, length-append}
use Rattle.std.specs.List.{All}
use Rattle.std.proofs.lemmas.Bool.{cases_lt}
use Rattle.std.proofs.lemmas.List.{append-nil, get_or-append_right, get_or_append_left}
use Rattle.std.proofs.lemmas.List.Elements.{All-append}
use Rattle.std.proofs.lemmas.List.Sums.{fold-append}
use Rattle.strm_monitor.specs.Watching.{Looks, NeverFall}
use Rattle.strm_shared.specs.Desks.{DeskValue, with_pair_seen, stamp_seen}
use Rattle.strm_shared.specs.Pairs.{Pair, count_in, last_pair, no_pair}

-- the stamp that stands at this place
abbrev stamp_in : List Pair → ℕ → ℕ
stamp_in ps k = (get_or ps k no_pair).0

-- behind pairs whose stamps never fall comes one whose stamp is no lower than the last
fall_not_more : (from : ℕ) (ps : List Pair) (p : Pair) → 1 ≤ length ps → NeverFall from ps → (last_pair ps).0 ≤ p.0 → NeverFall from (ps ++ p ∷ [])
fall_not_more from ps p some rise later k old within =
    elim (cases_lt (k + 1) (length ps)) [
      | inl below ↦
          let here = ap (λ (q : Pair). q.0) (get_or_append_left ps (p ∷ []) no_pair k (omega (arith, below))) in
          let next = ap (λ (q : Pair). q.0) (get_or_append_left ps (p ∷ []) no_pair (k + 1) below) in
          omega (arith, here, next, rise k old below)
      | inr past ↦
          let last : k ≡ length ps - 1 = omega (arith, past, within, some, length-append ps (p ∷ [])) in
          let here = ap (λ (q : Pair). q.0) (get_or_append_left ps (p ∷ []) no_pair k (omega (arith, some, last))) in
          let next = ap (λ (q : Pair). q.0) (get_or-append_right ps (p ∷ []) (length ps) (k + 1) no_pair refl past) in
          let first : (k + 1) - length ps ≡ 0 = omega (arith, some, last) in
          let next_is = next ∙ ap (stamp_in (p ∷ [])) first in
          omega (arith, here ∙ ap (stamp_in ps) last, next_is, later)
    ]

pub no_look : (blocks : ℕ) (d : DeskValue) → Looks blocks d 0 4294967295 d
no_look blocks d = record {
  pairs = [];
  shown = sym (ap (λ ps. record d { pairs = ps }) (append-nil d.pairs));
  often = refl;
  whole = λ k d below. absurd (omega (arith, below));
  rise = λ k old within. absurd (omega (arith, old, within));
  least = refl;
}

-- what holds of one pair holds of it alone
only : {blocks : ℕ} (p : Pair) → count_in p.1 ≡ blocks → All (λ (q : Pair). count_in q.1 ≡ blocks) (p ∷ [])
only p whole zero d below = whole
only p whole (suc k) d below = absurd (omega (arith, below))

pub one_more : (blocks : ℕ) (before : DeskValue) (looks fewest : ℕ) (after : DeskValue) (p : Pair) → Looks blocks before looks fewest after → 1 ≤ length after.pairs → stamp_seen after ≤ p.0 → count_in p.1 ≡ blocks
    → Looks blocks before (looks + 1) (min fewest p.1.free) (with_pair_seen p after)
one_more blocks before looks fewest after p seen some later whole = record {
  pairs = seen.pairs ++ p ∷ [];
  shown =
      ap (with_pair_seen p) seen.shown ∙ ap (λ ps. record before { pairs = ps }) (append_assoc before.pairs seen.pairs (p ∷ []));
  often = length-append seen.pairs (p ∷ []) ∙ ap (λ n. n + 1) seen.often;
  whole = All-append (λ (q : Pair). count_in q.1 ≡ blocks) seen.pairs (p ∷ []) seen.whole (only p whole);
  rise = fall_not_more (length before.pairs) after.pairs p some seen.rise later;
  least = ap (λ n. min n p.1.free) seen.least ∙ sym (fold-append (λ n (q : Pair). min n q.1.free) 4294967295 seen.pairs (p ∷ []));
}

-- the last pair is the one that was seen last
last_is : (ps : List Pair) (p : Pair) → last_pair (ps ++ p ∷ []) ≡ p
last_is ps p =
    let at = λ (n : ℕ). get_or (ps ++ p ∷ []) n no_pair in
    let place : length (ps ++ p ∷ []) - 1 ≡ length ps = omega (arith, length-append ps (p ∷ [])) in
    let none : length ps - length ps ≡ 0 = omega arith in
    ap at place ∙ get_or-append_right ps (p ∷ []) (length ps) (length ps) no_pair refl (omega arith) ∙ ap (λ n. get_or (p ∷ []) n no_pair) none

-- a look at this pair, by what the calls say
module _ (blocks : ℕ) (before : DeskValue) (looks fewest : ℕ) (after : DeskValue) (p : Pair) (seen : Looks blocks before looks fewest after) (some : 1 ≤ length after.pairs)
    (later : stamp_seen after ≤ p.0) (whole : count_in p.1 ≡ blocks) (n : ℕ) (least : n ≡ min fewest p.1.free) (e : DeskValue) (longer : e ≡ with_pair_seen p after) where
  pub looked : Looks blocks before (looks + 1) n e
  looked = subst (Looks blocks before (looks + 1) n) (sym longer) (subst (λ m. Looks blocks before (looks + 1) m (with_pair_seen p after)) (sym least) (one_more blocks before looks fewest after p seen some later whole))

  pub stamp_is : stamp_seen e ≡ p.0
  stamp_is = ap stamp_seen longer ∙ ap (λ (q : Pair). q.0) (last_is after.pairs p)
