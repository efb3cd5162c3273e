-- A history that gets longer, or has one desk more; and what desks know that are of it.
use Rattle.std.proofs.Common.{◌≡◌, ◌≢◌, ℕ, suc, ◌+◌, ◌-◌, ◌*◌, ◌/◌, ◌%◌, ◌<◌, ◌≤◌, Bool, true, false, List, [], ◌∷◌, ◌++◌, length, set, get_or, refl, sym, ap, ◌∙◌, subst, inl, inr, arith, length-append, length-set, get_or-set_same, get_or-set_other, eq-eqb, ne_eqb, ◌==◌, if◌then◌else◌}
use Rattle.std.specs.Prelude.{All, Contains}
use Rattle.std.proofs.Math.ListN.{get_or-append}
use Rattle.std.proofs.Math.Seq.{get_or-append_seam}
use Rattle.std.proofs.lemmas.Bool.{cases_lt}
use Rattle.std.proofs.lemmas.Grind.{replicate_next}
use Rattle.std.proofs.lemmas.List.{get_or_default, length-replicate}
use Rattle.std.proofs.lemmas.Nat.{div-mul-add, mod-mul-add}
use Rattle.std.proofs.lemmas.List.Elements.{All-contains_itself, All-head, All-nil, All-push, All-tail, All-weaker, Contains-append_left, Contains-get_or, Contains-push}
use Rattle.strm_mblk.specs.Limits.{most_message_blocks}
use Rattle.strm_pool.specs.Registers.{Entries}
use Rattle.strm_pool.specs.declared.line.Entry.{Entry}
use Rattle.strm_shared.specs.declared.views.History.{History}
use Rattle.strm_shared.specs.declared.views.Known.{Known}
use Rattle.strm_shared.specs.Pairs.{HasStamp, IsPairAfter, Pair, count_in, last_pair, no_pair}
use Rattle.strm_shared.specs.Words.{count_range, pair_of, word_of}
use Rattle.strm_shared.specs.Chronicle.{served_from}
use Rattle.strm_shared.specs.Seats.{IsHistory, IsOf, history_after, history_with_desk, known_after, new_known, no_entries, opening_history, with_pair}
use Rattle.strm_shared.specs.SeatsLayout.{IsNextOf}

-- ---- the word

-- the word tells the pair, where its census counts the blocks of the pool
pub pair_of-word_of : (blocks : ℕ) (p : Pair) → blocks < count_range → count_in p.1 ≡ blocks → pair_of blocks (word_of p) ≡ p
pair_of-word_of blocks p few whole =
    let free : p.1.free < count_range = omega (arith, few, whole) in
    let queued : p.1.queued < count_range = omega (arith, few, whole) in
    let both : word_of p / count_range ≡ p.0 * count_range + p.1.free = div-mul-add (p.0 * count_range + p.1.free) count_range p.1.queued queued in
    let s : word_of p / count_range / count_range ≡ p.0 = ap (λ n. n / count_range) both ∙ div-mul-add p.0 count_range p.1.free free in
    let f : word_of p / count_range % count_range ≡ p.1.free = ap (λ n. n % count_range) both ∙ mod-mul-add p.0 count_range p.1.free free in
    let q : word_of p % count_range ≡ p.1.queued = mod-mul-add (p.0 * count_range + p.1.free) count_range p.1.queued queued in
    let h : blocks - (p.1.free + p.1.queued) ≡ p.1.held = omega (arith, whole) in
    λ i. (s i, record { free = f i; queued = q i; held = (ap (λ n. blocks - n) (λ j. f j + q j) ∙ h) i })

-- ---- pairs

pub last_pair-push : (ps : List Pair) (p : Pair) → last_pair (ps ++ p ∷ []) ≡ p
last_pair-push ps p =
    let here : length (ps ++ p ∷ []) - 1 ≡ length ps = omega (arith, length-append ps (p ∷ [])) in
    ap (λ k. get_or (ps ++ p ∷ []) k no_pair) here ∙ get_or-append_seam ps p [] no_pair

module _ (o : Pair) (h : History) (lawful : IsHistory o h) where
  -- the last pair comes as many calls behind the opening pair as there are entries
  pub last_after : IsPairAfter o (length h.entries) (last_pair h.pairs)
  last_after =
      let here : length h.pairs - 1 ≡ length h.entries = omega (arith, lawful.entered) in
      subst (λ k. IsPairAfter o k (last_pair h.pairs)) here (lawful.rising (length h.pairs - 1) (omega (arith, lawful.entered)))

  pub has_last : Contains h.pairs (last_pair h.pairs)
  has_last = Contains-get_or h.pairs (length h.pairs - 1) no_pair (omega (arith, lawful.entered))

  -- a pair of the history has its place
  pair_there : (p : Pair) → Contains h.pairs p → (k : ℕ) × (k < length h.pairs) × (get_or h.pairs k no_pair ≡ p) × IsPairAfter o k p
  pair_there p has =
      let is : get_or h.pairs has.0 no_pair ≡ p = get_or_default h.pairs has.0 no_pair p has.1 ∙ has.2 in
      (has.0, has.1, is, subst (IsPairAfter o has.0) is (lawful.rising has.0 has.1))

  -- it is no later than the last, and counts the blocks of the pool
  pub pair_before : (p : Pair) → Contains h.pairs p → (p.0 ≤ (last_pair h.pairs).0) × (count_in p.1 ≡ count_in o.1)
  pair_before p has =
      let at = pair_there p has in
      (omega (arith, at.1, at.3.0, last_after.0, lawful.entered), at.3.1)

  -- one stamp has one pair
  pub pair_at_stamp : (p q : Pair) → Contains h.pairs p → Contains h.pairs q → p.0 ≡ q.0 → p ≡ q
  pair_at_stamp p q has_p has_q same =
      let at_p = pair_there p has_p in
      let at_q = pair_there q has_q in
      let place : at_p.0 ≡ at_q.0 = omega (arith, at_p.3.0, at_q.3.0, same) in
      sym at_p.2 ∙ ap (λ k. get_or h.pairs k no_pair) place ∙ at_q.2

-- ---- entries of a desk

abbrev one_served : ℕ → Entry → List (ℕ × Entry)
one_served k e = (k, e) ∷ []

at_place : (k l : ℕ) (e : Entry) → k ≡ l → one_served k e ≡ one_served l e
at_place k l e same = ap (λ n. one_served n e) same

more_entries : (b : Bool) (x : ℕ × Entry) (xs ys more : List (ℕ × Entry)) → ys ≡ xs ++ more → (if b then x ∷ ys else ys) ≡ (if b then x ∷ xs else xs) ++ more
more_entries true x xs ys more is = ap (λ l. x ∷ l) is
more_entries false x xs ys more is = is

same_entries : (b : Bool) (x : ℕ × Entry) (xs ys : List (ℕ × Entry)) → ys ≡ xs → (if b then x ∷ ys else ys) ≡ (if b then x ∷ xs else xs)
same_entries true x xs ys is = ap (λ l. x ∷ l) is
same_entries false x xs ys is = is

-- an entry of the desk more
served_same : (k n : ℕ) (es : List Entry) (e : Entry) → e.desk ≡ n → served_from k n (es ++ e ∷ []) ≡ served_from k n es ++ (k + length es, e) ∷ []
served_same k n [] e is =
    ap (λ (b : Bool). if b then (k, e) ∷ served_from (k + 1) n [] else served_from (k + 1) n []) (eq-eqb e.desk n is) ∙ at_place k (k + 0) e (omega arith)
served_same k n (x ∷ es) e is =
    more_entries (x.desk == n) (k, x) (served_from (k + 1) n es) (served_from (k + 1) n (es ++ e ∷ [])) ((k + suc (length es), e) ∷ [])
    (served_same (k + 1) n es e is ∙ ap (λ l. served_from (k + 1) n es ++ l) (at_place (k + 1 + length es) (k + suc (length es)) e (omega arith)))

-- an entry of another desk more
served_other : (k n : ℕ) (es : List Entry) (e : Entry) → e.desk ≢ n → served_from k n (es ++ e ∷ []) ≡ served_from k n es
served_other k n [] e other = ap (λ (b : Bool). if b then (k, e) ∷ [] else []) (ne_eqb e.desk n other)
served_other k n (x ∷ es) e other =
    same_entries (x.desk == n) (k, x) (served_from (k + 1) n es) (served_from (k + 1) n (es ++ e ∷ [])) (served_other (k + 1) n es e other)

-- a desk was served no more than all were
more_at_most : (b : Bool) (x : ℕ × Entry) (xs : List (ℕ × Entry)) (n : ℕ) → length xs ≤ n → length (if b then x ∷ xs else xs) ≤ suc n
more_at_most true x xs n few = omega (arith, few)
more_at_most false x xs n few = omega (arith, few)

pub length-served_from : (k n : ℕ) (es : List Entry) → length (served_from k n es) ≤ length es
length-served_from k n [] = omega arith
length-served_from k n (e ∷ es) = more_at_most (e.desk == n) (k, e) (served_from (k + 1) n es) (length es) (length-served_from (k + 1) n es)

-- a desk that is not there yet was served none
served_none : (k n : ℕ) (es : List Entry) → All (λ e. e.desk < n) es → served_from k n es ≡ []
served_none k n [] below = refl
served_none k n (e ∷ es) below =
    let here : e.desk < n = All-head (λ (x : Entry). x.desk < n) e es below in
    cc (ne_eqb e.desk n (λ same. omega (arith, here, same)), served_none (k + 1) n es (All-tail (λ (x : Entry). x.desk < n) e es below))

-- the pairs of what a desk was served are there still, once it has seen one more
carried_more : (ps : List Pair) (p : Pair) (ss : List (ℕ × Entry)) → All (λ (s : ℕ × Entry). HasStamp ps s.0) ss → All (λ (s : ℕ × Entry). HasStamp (ps ++ p ∷ []) s.0) ss
carried_more ps p ss all =
    All-weaker (λ (s : ℕ × Entry). HasStamp ps s.0) (λ (s : ℕ × Entry). HasStamp (ps ++ p ∷ []) s.0)
    (λ s has. (has.0, Contains-append_left ps (p ∷ []) has.0 has.1, has.2)) ss all

-- ---- a call more

module _ (o : Pair) (h : History) (p : Pair) (e : Entry) (t : Entries) (lawful : IsHistory o h) (next : IsNextOf o h p) (there : e.desk < h.desks) where
  next_after : IsPairAfter o (length h.pairs) p
  next_after = (omega (arith, next.stamp, (last_after o h lawful).0, lawful.entered), next.whole)

  pub history_more : IsHistory o (history_after p e t h)
  history_more = record {
    few = lawful.few;
    opened = get_or-append h.pairs (p ∷ []) no_pair 0 (omega (arith, lawful.entered)) ∙ lawful.opened;
    rising = λ k within. elim (cases_lt k (length h.pairs)) [
      | inl below ↦ subst (IsPairAfter o k) (sym (get_or-append h.pairs (p ∷ []) no_pair k below)) (lawful.rising k below)
      | inr beyond ↦
          let here : length h.pairs ≡ k = omega (arith, within, beyond, length-append h.pairs (p ∷ [])) in
          subst (λ n. IsPairAfter o n (get_or (h.pairs ++ p ∷ []) n no_pair)) here
          (subst (IsPairAfter o (length h.pairs)) (sym (get_or-append_seam h.pairs p [] no_pair)) next_after)
    ];
    entered = omega (arith, lawful.entered, length-append h.pairs (p ∷ []), length-append h.entries (e ∷ []));
    there = All-push (λ (x : Entry). x.desk < h.desks) h.entries e lawful.there there;
    told = length-set h.tables e.desk t ∙ lawful.told;
  }

  -- a desk of another number
  pub of_other : (d : Known) → d.number ≢ e.desk → IsOf o.0 h d → IsOf o.0 (history_after p e t h) d
  of_other d other is = record {
    below = is.below;
    pairs = All-weaker (Contains h.pairs) (Contains (h.pairs ++ p ∷ [])) (λ q has. Contains-append_left h.pairs (p ∷ []) q has) d.pairs is.pairs;
    served = is.served ∙ sym (served_other (o.0 + 1) d.number h.entries e (λ same. other (sym same)));
    carried = is.carried;
    table = get_or-set_other h.tables e.desk d.number t [] other ∙ is.table;
  }

  -- the desk that was served
  pub of_served : (d : Known) → e.desk ≡ d.number → IsOf o.0 h d → IsOf o.0 (history_after p e t h) (known_after p e t d)
  of_served d same is = record {
    below = is.below;
    pairs =
        All-push (Contains (h.pairs ++ p ∷ [])) d.pairs p
        (All-weaker (Contains h.pairs) (Contains (h.pairs ++ p ∷ [])) (λ q has. Contains-append_left h.pairs (p ∷ []) q has) d.pairs is.pairs) (Contains-push h.pairs p);
    served =
        cc (is.served, at_place p.0 (o.0 + 1 + length h.entries) e (omega (arith, next_after.0, lawful.entered)), served_same (o.0 + 1) d.number h.entries e same);
    carried =
        All-push (λ (s : ℕ × Entry). HasStamp (d.pairs ++ p ∷ []) s.0) d.served (p.0, e)
        (carried_more d.pairs p d.served is.carried) (p, Contains-push d.pairs p, refl);
    table = ap (λ n. get_or (set h.tables n t) d.number []) same ∙ get_or-set_same h.tables d.number t [] (omega (arith, is.below, lawful.told));
  }

-- ---- a pair more

pub of_pair : (first : ℕ) (h : History) (p : Pair) (d : Known) → Contains h.pairs p → IsOf first h d → IsOf first h (with_pair p d)
of_pair first h p d has is = record { below = is.below; pairs = All-push (Contains h.pairs) d.pairs p is.pairs has; served = is.served; carried = carried_more d.pairs p d.served is.carried; table = is.table }

-- ---- a desk more

module _ (o : Pair) (h : History) (lawful : IsHistory o h) where
  pub history_wider : IsHistory o (history_with_desk h)
  history_wider = record {
    few = lawful.few;
    opened = lawful.opened;
    rising = lawful.rising;
    entered = lawful.entered;
    there = All-weaker (λ (e : Entry). e.desk < h.desks) (λ (e : Entry). e.desk < h.desks + 1) (λ e below. omega (arith, below)) h.entries lawful.there;
    told = length-append h.tables (no_entries ∷ []) ∙ ap (λ n. n + 1) lawful.told;
  }

  pub of_wider : (d : Known) → IsOf o.0 h d → IsOf o.0 (history_with_desk h) d
  of_wider d is = record {
    below = omega (arith, is.below);
    pairs = is.pairs;
    served = is.served;
    carried = is.carried;
    table = get_or-append h.tables (no_entries ∷ []) [] d.number (omega (arith, is.below, lawful.told)) ∙ is.table;
  }

  pub of_new : IsOf o.0 (history_with_desk h) (new_known h)
  of_new = record {
    below = omega arith;
    pairs = All-contains_itself h.pairs;
    served = sym (served_none (o.0 + 1) h.desks h.entries lawful.there);
    carried = All-nil (λ (s : ℕ × Entry). HasStamp h.pairs s.0);
    table = ap (λ n. get_or (h.tables ++ no_entries ∷ []) n []) (sym lawful.told) ∙ get_or-append_seam h.tables no_entries [] [];
  }

-- ---- the opening pair

pub history_begins : (o : Pair) (n : ℕ) → count_in o.1 ≤ most_message_blocks → IsHistory o (opening_history o n)
history_begins o n few = record {
  few = few;
  opened = refl;
  rising = λ k within. let first : 0 ≡ k = omega (arith, within) in subst (λ n. IsPairAfter o n (get_or (o ∷ []) n no_pair)) first (omega arith, refl);
  entered = refl;
  there = All-nil (λ (e : Entry). e.desk < n);
  told = length-replicate n no_entries;
}

-- one desk more
pub opening_more : (o : Pair) (n : ℕ) → history_with_desk (opening_history o n) ≡ opening_history o (n + 1)
opening_more o n = ap (λ ts. let h : History = record { pairs = o ∷ []; entries = []; desks = n + 1; tables = ts } in h) (sym (replicate_next n no_entries))
