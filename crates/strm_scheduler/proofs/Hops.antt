-- The target and the waker of a queue that is on a side: itself, and the queue behind it.
use Rattle.std.proofs.Common.{◌≡◌, ℕ, zero, suc, ◌+◌, ◌<◌, ◌≤◌, inl, inr, Bool, true, false, ◌&&◌, List, [], ◌∷◌, length, get_or, Option, Some, None, refl, sym, ap, ◌∙◌, subst, arith, if◌then◌else◌}
use Rattle.std.specs.Prelude.{count_by, is_some, nat_le, nat_lt}
use Rattle.std.specs.List.{enumerate_from}
use Rattle.std.specs.Option.{option_map_or}
use Rattle.std.proofs.lemmas.Bool.{and_parts, cases_lt, cond-true, eq-eqb, eqb-true, false≢true, false_from_ne_true, leb-true}
use Rattle.std.proofs.lemmas.List.{get_or_past}
use Rattle.std.proofs.lemmas.List.FromFn.{get_or-enumerate_from, length-enumerate_from}
use Rattle.std.proofs.lemmas.List.Quantifiers.{position-Some}
use Rattle.std.proofs.lemmas.List.Sums.{AllPass-from_list_all, sum_by-cons}
use Rattle.std.proofs.lemmas.Option.{none-some, same_Some}
use Rattle.strm_links.specs.Rows.{is_some_of}
use Rattle.strm_queue.specs.declared.queue_spec.QueueSpec.{QueueSpec}
use Rattle.strm_queue.specs.Flow.{behind, no_spec, spec_at, target, target_within, waker, waker_from, waker_within}
use Rattle.strm_queue.specs.QueueSpecs.{are_lawful, next_fits, times_next}
use Rattle.strm_queue.proofs.Flow.{IsAhead, NoneBehind, behind_found, next_ahead}
use Rattle.strm_queue.proofs.Laid.{nexts_lawful}
use Rattle.strm_scheduler.specs.Sides.{AreSides, next_of}

-- ---- counts

-- what passes a test is counted
one_counted : {X : Type 0} (p : X → Bool) (xs : List X) (k : ℕ) (d : X) → k < length xs → p (get_or xs k d) ≡ true → 1 ≤ count_by p xs
one_counted p [] k d within here = absurd (omega (arith, within))
one_counted p (x ∷ xs) zero d within here =
    let first : ◌≡◌ {A = ℕ} (if p x then 1 else 0) 1 = cond-true (p x) 1 0 here in
    omega (arith, sum_by-cons (λ y. if p y then 1 else 0) x xs, first)
one_counted p (x ∷ xs) (suc k) d within here =
    let rest = one_counted p xs k d (omega (arith, within)) here in
    omega (arith, sum_by-cons (λ y. if p y then 1 else 0) x xs, rest)

-- and so are two
two_counted : {X : Type 0} (p : X → Bool) (xs : List X) (j k : ℕ) (d : X) → j < k → k < length xs → p (get_or xs j d) ≡ true → p (get_or xs k d) ≡ true → 2 ≤ count_by p xs
two_counted p [] j k d before within first second = absurd (omega (arith, within))
two_counted p (x ∷ xs) j zero d before within first second = absurd (omega (arith, before))
two_counted p (x ∷ xs) zero (suc k) d before within first second =
    let here : ◌≡◌ {A = ℕ} (if p x then 1 else 0) 1 = cond-true (p x) 1 0 first in
    let rest = one_counted p xs k d (omega (arith, within)) second in
    omega (arith, sum_by-cons (λ y. if p y then 1 else 0) x xs, here, rest)
two_counted p (x ∷ xs) (suc j) (suc k) d before within first second =
    let rest = two_counted p xs j k d (omega (arith, before)) (omega (arith, within)) first second in
    omega (arith, sum_by-cons (λ y. if p y then 1 else 0) x xs, rest)

-- ---- targets

-- a queue on a side is its own target
pub target_is : (specs : List QueueSpec) → AreSides specs → (q : ℕ) → target specs q ≡ q
target_is specs sides q = within (length specs)
  where
    at : (further : ℕ → ℕ) (service : Bool) (next : Option ℕ) → service ≡ is_some next → (if service then q else option_map_or further next q) ≡ q
    at further true next is = refl
    at further false None is = refl
    at further false (Some n) is = absurd (cc)

    within : (steps : ℕ) → target_within steps specs q ≡ q
    within zero = refl
    within (suc steps) = at (target_within steps specs) (spec_at specs q).service (next_of specs q) (sides q)

-- ---- a queue and its next

module _ (specs : List QueueSpec) (lawful : are_lawful specs ≡ true) (q n : ℕ) (next : next_of specs q ≡ Some n) where
  -- the queue exists
  pub hop_within : q < length specs
  hop_within =
      elim (cases_lt q (length specs)) [
        | inl below ↦ below
        | inr past ↦ absurd (none-some n (sym (ap (λ (s : QueueSpec). s.next) (get_or_past specs q no_spec past)) ∙ next))
      ]

  -- the next queue exists, and has a greater number
  pub hop_ahead : IsAhead specs q n
  hop_ahead = next_ahead specs lawful q hop_within n next

  -- it is the next of no other queue
  named_once : times_next specs n ≤ 1
  named_once =
      let number : 0 + q ≡ q = omega arith in
      let here : next_fits specs q (next_of specs q) ≡ true =
      ap (λ k. next_fits specs k (next_of specs q)) (sym number)
      ∙ (λ i. next_fits specs (sym (get_or-enumerate_from 0 specs q (0, no_spec) hop_within) i).0 (sym (get_or-enumerate_from 0 specs q (0, no_spec) hop_within) i).1.next)
      ∙ AllPass-from_list_all (λ (x : ℕ × QueueSpec). next_fits specs x.0 x.1.next) (enumerate_from 0 specs) (nexts_lawful specs lawful) q (0, no_spec) (omega (arith, hop_within, length-enumerate_from 0 specs)) in
      let at : next_fits specs q (Some n) ≡ true = ap (next_fits specs q) (sym next) ∙ here in
      leb-true (times_next specs n) 1 (and_parts (nat_lt n (length specs)) (nat_le (times_next specs n) 1) (and_parts (nat_lt q n) (nat_lt n (length specs) && nat_le (times_next specs n) 1) at).1).1

  names_it : is_some_of n (spec_at specs q).next ≡ true
  names_it = ap (is_some_of n) next ∙ eq-eqb n n refl

  none_before : NoneBehind specs n q
  none_before j before =
      false_from_ne_true _ (λ named.
      let two : 2 ≤ times_next specs n = two_counted (λ s. is_some_of n s.next) specs j q no_spec before hop_within named names_it in
      omega (arith, named_once, two))

  pub behind_is : behind specs n ≡ Some q
  behind_is = behind_found specs n q hop_within none_before names_it

  module _ (sides : AreSides specs) where
    pub hop_serves : (spec_at specs q).service ≡ true
    hop_serves = sides q ∙ ap is_some next

    -- the waker of the next queue is the queue
    pub waker_is : waker specs n ≡ Some q
    waker_is = within (length specs) (omega (arith, hop_within))
      where
        within : (steps : ℕ) → 0 < steps → waker_within steps specs n ≡ Some q
        within zero some = absurd (omega (arith, some))
        within (suc steps) some = ap (waker_from (waker_within steps specs) specs) behind_is ∙ cond-true _ _ _ hop_serves

-- ---- the queue behind

-- the queue behind a queue has it as its next
pub behind_next : (specs : List QueueSpec) (q p : ℕ) → behind specs q ≡ Some p → next_of specs p ≡ Some q
behind_next specs q p is = named (next_of specs p) (position-Some (λ s. is_some_of q s.next) specs p no_spec is).1
  where
    named : (o : Option ℕ) → is_some_of q o ≡ true → o ≡ Some q
    named None is = absurd (false≢true is)
    named (Some n) is = ap Some (eqb-true n q is)

-- a waker has a smaller number than the queue
pub waker_below : (specs : List QueueSpec) → are_lawful specs ≡ true → (q p : ℕ) → waker specs q ≡ Some p → p < q
waker_below specs lawful q p = within (length specs) q
  where
    within : (steps q : ℕ) → waker_within steps specs q ≡ Some p → p < q
    within zero q is = absurd (none-some p is)
    within (suc steps) q is = by_behind (within steps) (behind specs q) refl is
      where
        by_service : ((k : ℕ) → waker_within steps specs k ≡ Some p → p < k) → (r : ℕ) → r < q → (so : Bool) → (if so then Some r else waker_within steps specs r) ≡ Some p → p < q
        by_service below r less true here = omega (arith, less, same_Some r p here)
        by_service below r less false further = let rest = below r further in omega (arith, less, rest)

        by_behind : ((k : ℕ) → waker_within steps specs k ≡ Some p → p < k) → (o : Option ℕ) → behind specs q ≡ o → waker_from (waker_within steps specs) specs o ≡ Some p → p < q
        by_behind below None none found = absurd (none-some p found)
        by_behind below (Some r) some found = by_service below r (hop_ahead specs lawful r q (behind_next specs q r some)).greater (spec_at specs r).service found

-- on sides, a waker has the queue as its next
pub waker_next : (specs : List QueueSpec) → are_lawful specs ≡ true → AreSides specs → (q p : ℕ) → waker specs q ≡ Some p → next_of specs p ≡ Some q
waker_next specs lawful sides q p is = by_behind (behind specs q) refl
  where
    none_within : (steps : ℕ) → behind specs q ≡ None → waker_within steps specs q ≡ None
    none_within zero none = refl
    none_within (suc steps) none = ap (waker_from (waker_within steps specs) specs) none

    by_behind : (o : Option ℕ) → behind specs q ≡ o → next_of specs p ≡ Some q
    by_behind None none = absurd (none-some p (sym (none_within (length specs) none) ∙ is))
    by_behind (Some r) some =
        let next = behind_next specs q r some in
        let same : r ≡ p = same_Some r p (sym (waker_is specs lawful r q next sides) ∙ is) in
        subst (λ k. next_of specs k ≡ Some q) same next
