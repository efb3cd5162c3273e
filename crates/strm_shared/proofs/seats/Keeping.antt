-- Each kind of step keeps the rule.
use Rattle.std.proofs.Common.{◌≡◌, ◌≢◌, ℕ, zero, suc, ◌<◌, ◌≤◌, List, [], ◌∷◌, ◌++◌, map, set, get_or, refl, sym, ap, ◌∙◌, subst, ⊎_elim, arith}
use Rattle.std.specs.Prelude.{All, Contains, nat_lt}
use Rattle.std.proofs.lemmas.Bool.{cond-false, le-ltb}
use Rattle.std.proofs.lemmas.List.{set-get_or}
use Rattle.std.proofs.lemmas.List.Elements.{All-cons, All-head, All-map, All-nil, All-tail, All-weaker}
use mathlib.Core.Option.{none, some, some-injective, some-ne-none}
use lib.ListN.{get_elem?}
use Rattle.atomic_table.specs.Table.{Allows, Joins, Me, Splits, State, keeps, opening, step, stepped}
use Rattle.atomic_table.proofs.Lists.{at_set, at_snoc, set_again, set_else}
use Rattle.strm_links.specs.Counting.{times}
use Rattle.strm_links.proofs.lists.Counting.{times-cons, times_here}
use Rattle.strm_mblk.specs.Limits.{most_message_blocks}
use Rattle.strm_pool.specs.Registers.{Entries}
use Rattle.strm_pool.specs.declared.line.Entry.{Entry}
use Rattle.strm_shared.specs.declared.views.History.{History}
use Rattle.strm_shared.specs.declared.views.Known.{Known}
use Rattle.strm_shared.specs.declared.views.View.{View}
use Rattle.strm_shared.specs.declared.views.View.TheVariants.{Lock, At, Spent}
use Rattle.strm_shared.specs.Pairs.{Pair, count_in, last_pair}
use Rattle.strm_shared.specs.Words.{pair_of, word_of}
use Rattle.strm_shared.specs.Seats.{IsRuled, IsLockView, IsLocks, IsOf, IsViewOf, Loaded, Read, Shows, Stored, desks_of, first_view, guest_of, history_after, history_with_desk, known_after, new_desk_of, new_known, numbers_in, opening_history, view_after, view_with_pair, with_desk, with_guest, with_pair, without_guest}
use Rattle.strm_shared.specs.SeatsLayout.{IsNextOf}
use Rattle.strm_shared.proofs.seats.Histories.{has_last, history_begins, history_more, history_wider, last_after, last_pair-push, of_new, of_other, of_pair, of_served, of_wider, pair_of-word_of}
use Rattle.strm_shared.proofs.seats.Numbers.{below_more, none_numbered, numbers-with_pair, once_at_most, standing-push, standing-set, standing_one, standing_two}

-- ---- the views of all seats

-- a fact of each seat's view, once one view has changed
each_set : (P : ℕ → View → Type 0) (views : List View) (i : ℕ) (w : View) → ((j : ℕ) (u : View) → j ≢ i → get_elem? views j ≡ some u → P j u) → P i w
    → (j : ℕ) (u : View) → get_elem? (set views i w) j ≡ some u → P j u
each_set P views i w others mine j u at =
    ⊎_elim
    (λ (t : (j ≡ i) × (w ≡ u)). subst (λ (x : ℕ × View). P x.0 x.1) (λ k. (sym t.0 k, t.1 k)) mine)
    (λ (t : (j ≢ i) × (get_elem? views j ≡ some u)). others j u t.0 t.1)
    (at_set views i j w u at)

-- and once one more has come
each_push : (P : ℕ → View → Type 0) (views : List View) (w : View) → ((j : ℕ) (u : View) → get_elem? views j ≡ some u → P j u) → ((j : ℕ) → P j w)
    → (j : ℕ) (u : View) → get_elem? (views ++ w ∷ []) j ≡ some u → P j u
each_push P views w before new j u at =
    ⊎_elim (λ (t : get_elem? views j ≡ some u). before j u t) (λ (t : w ≡ u). subst (P j) t (new j)) (at_snoc views w u j at)

-- another seat's view than the lock's is of another history too, if what its desks know is
other_view : {P : Known → Type 0} (first lock : ℕ) (h i : History) (j : ℕ) (u : View) → j ≢ lock → IsLocks lock j u → All P (desks_of u)
    → ((d : Known) → P d → IsOf first h d → IsOf first i d) → IsViewOf first h u → IsViewOf first i u
other_view first lock h i j (Lock l gs) apart here each same is = absurd (apart here)
other_view first lock h i j (At d) apart here each same is = record { history = tt; desks = λ n x within. same (get_or (d ∷ []) n x) (each n x within) (is.desks n x within) }
other_view first lock h i j Spent apart here each same is = record { history = tt; desks = All-nil (IsOf first i) }

-- ---- open

pub begins : (o : Pair) (w : ℕ) → count_in o.1 ≤ most_message_blocks → w ≡ word_of o → IsRuled o (opening (w ∷ []) [] (first_view o))
begins o w few is = record {
  lock = 0;
  history = opening_history o 0;
  lawful = history_begins o 0 few;
  word = ap (λ x. x ∷ []) is;
  alone = only;
  views = each_push (λ j. IsViewOf o.0 (opening_history o 0)) [] (first_view o) (λ j u at. absurd (some-ne-none u (sym at)))
      (λ j. record { history = refl; desks = All-nil (IsOf o.0 (opening_history o 0)) });
  each = λ n. sym (cond-false {A = ℕ} (nat_lt n 0) 1 0 (le-ltb n 0 (omega arith)));
}
  where
    only : (j : ℕ) (u : View) → get_elem? (first_view o ∷ []) j ≡ some u → IsLocks 0 j u
    only zero u at = subst (IsLocks 0 0) (some-injective (first_view o) u at) refl
    only (suc j) u at = absurd (some-ne-none u (sym at))

-- ---- load

locks_with_pair : (p : Pair) (lock seat : ℕ) (v : View) → IsLocks lock seat v → IsLocks lock seat (view_with_pair p v)
locks_with_pair p lock seat (Lock h gs) is = is
locks_with_pair p lock seat (At d) is = is
locks_with_pair p lock seat Spent is = is

numbers_in-with_pair : (p : Pair) (v : View) → numbers_in (view_with_pair p v) ≡ numbers_in v
numbers_in-with_pair p (Lock h gs) = numbers-with_pair p gs
numbers_in-with_pair p (At d) = refl
numbers_in-with_pair p Spent = refl

view_loaded : (first : ℕ) (h : History) (p : Pair) → Contains h.pairs p → (v : View) → IsViewOf first h v → IsViewOf first h (view_with_pair p v)
view_loaded first h p has (Lock l gs) is = record {
  history = is.history;
  desks = All-map (IsOf first h) (with_pair p) gs (All-weaker (IsOf first h) (λ d. IsOf first h (with_pair p d)) (λ d of. of_pair first h p d has of) gs is.desks);
}
view_loaded first h p has (At d) is = record { history = tt; desks = All-cons (IsOf first h) (with_pair p d) [] (of_pair first h p d has (All-head (IsOf first h) d [] is.desks)) (All-nil (IsOf first h)) }
view_loaded first h p has Spent is = record { history = tt; desks = is.desks }

module _ (o : Pair) (slots id : ℕ) (me : Me (Unit {0}) View) where
  -- what a load finds is the last pair
  found : (s : State (Unit {0}) View) (k : IsRuled o s) → pair_of (count_in o.1) (get_or s.words 0 0) ≡ last_pair k.history.pairs
  found s k =
      cc (k.word, pair_of-word_of (count_in o.1) (last_pair k.history.pairs) (let few = k.lawful.few in omega (arith, few)) (last_after o k.history k.lawful).1)

  -- what is shown of a view that is there
  shown : (s : State (Unit {0}) View) (k : IsRuled o s) (v : View) → get_elem? s.views id ≡ some v → Shows o (last_pair k.history.pairs) v
  shown s k v at = record {
    history = k.history;
    lawful = k.lawful;
    last = refl;
    view = k.views id v at;
    apart = λ n. omega (arith, standing_one n s.views id v at, k.each n, once_at_most n k.history.desks);
  }

  -- the load of the lock's seat that changes no view
  pub reads : IsLockView me.0 → Allows (IsRuled o) slots id me 0 (λ n. n) (Read o (step slots 0 0 0 none) me)
  reads lock s k long at fits =
      let same : stepped s 0 (get_or s.words 0 0) id me.1 me.0 keeps ≡ s = λ i. record { words = set-get_or s.words 0 0 i; homes = s.homes; views = set_again s.views id me.0 at i } in
      (me.0, keeps, tt, subst (IsRuled o) (sym same) k, (lock, refl, subst (λ p. Shows o p me.0) (sym (found s k)) (shown s k me.0 at)))

  -- a load by which desks see the pair
  pub loads : Allows (IsRuled o) slots id me 0 (λ n. n) (Loaded o (step slots 0 0 0 none) me)
  loads s k long at fits =
      let p : Pair = last_pair k.history.pairs in
      let v : View = view_with_pair p me.0 in
      let was = shown s k me.0 at in
      let saw = view_loaded o.0 k.history p (has_last o k.history k.lawful) me.0 (k.views id me.0 at) in
      let numbers : (n : ℕ) → times n (numbers_in v) ≡ times n (numbers_in me.0) = λ n. ap (times n) (numbers_in-with_pair p me.0) in
      let kept : IsRuled o (stepped s 0 (get_or s.words 0 0) id me.1 v keeps) = record {
        lock = k.lock;
        history = k.history;
        lawful = k.lawful;
        word = set-get_or s.words 0 0 ∙ k.word;
        alone = each_set (IsLocks k.lock) s.views id v (λ j u apart there. k.alone j u there) (locks_with_pair p k.lock id me.0 (k.alone id me.0 at));
        views = each_set (λ j. IsViewOf o.0 k.history) s.views id v (λ j u apart there. k.views j u there) saw;
        each = λ n. omega (arith, standing-set n s.views id me.0 v at, numbers n, k.each n);
      } in
      let shows : Shows o p v = record { history = k.history; lawful = k.lawful; last = refl; view = saw; apart = λ n. omega (arith, was.apart n, numbers n) } in (
        view_with_pair (pair_of (count_in o.1) (get_or s.words 0 0)) me.0,
        keeps,
        tt,
        subst (λ q. IsRuled o (stepped s 0 (get_or s.words 0 0) id me.1 (view_with_pair q me.0) keeps)) (sym (found s k)) kept,
        (refl, subst (λ q. Shows o q (view_with_pair q me.0)) (sym (found s k)) shows),
      )

-- ---- store

module _ (o : Pair) (slots id : ℕ) (h : History) (g : Known) (c : List (ℕ × Unit {0})) (p : Pair) (e : Entry) (t : Entries) (next : IsNextOf o h p) (mine : e.desk ≡ g.number) where
  pub stores : Allows (IsRuled o) slots id (Lock h (g ∷ []), c) 0 (λ _. word_of p) (λ _. Stored o e t (step slots 0 (word_of p) 0 none) (Lock h (g ∷ []), c) (word_of p))
  stores s k long at fits =
      let v : View = Lock h (g ∷ []) in
      let was = k.views id v at in
      let follows : IsNextOf o k.history p = subst (λ x. IsNextOf o x p) was.history next in
      let of_guest = All-head (IsOf o.0 k.history) g [] was.desks in
      let there : e.desk < k.history.desks = omega (arith, mine, of_guest.below) in
      let i : History = history_after p e t k.history in
      let w : View = view_after p e t v in
      let away : (j : ℕ) (u : View) → j ≢ id → get_elem? s.views j ≡ some u → All (λ d. d.number ≢ e.desk) (desks_of u) =
      λ j u apart at_j. none_numbered e.desk (desks_of u) (omega (
        arith,
        standing_two e.desk s.views id j v u apart at at_j,
        times_here e.desk g.number [] (sym mine),
        k.each e.desk,
        once_at_most e.desk k.history.desks,
      )) in
      let kept : IsRuled o (stepped s 0 (word_of p) id c w keeps) = record {
        lock = k.lock;
        history = i;
        lawful = history_more o k.history p e t k.lawful follows there;
        word = ap (λ ws. set ws 0 (word_of p)) k.word ∙ ap (λ q. word_of q ∷ []) (sym (last_pair-push k.history.pairs p));
        alone = each_set (IsLocks k.lock) s.views id w (λ j u apart at_j. k.alone j u at_j) (k.alone id v at);
        views = each_set (λ j. IsViewOf o.0 i) s.views id w
            (λ j u apart at_j. other_view o.0 k.lock k.history i j u (λ same. apart (same ∙ sym (k.alone id v at))) (k.alone j u at_j)
            (away j u apart at_j) (λ d other of. of_other o k.history p e t k.lawful follows there d other of) (k.views j u at_j))
            (record {
              history = ap (history_after p e t) was.history;
              desks = All-cons (IsOf o.0 i) (known_after p e t g) [] (of_served o k.history p e t k.lawful follows there g mine of_guest) (All-nil (IsOf o.0 i));
            });
        each = λ n. omega (arith, standing-set n s.views id v w at, k.each n);
      } in
      let packed : pair_of (count_in o.1) (word_of p) ≡ p = pair_of-word_of (count_in o.1) p (let few = k.lawful.few in omega (arith, few)) next.whole in (
        view_after (pair_of (count_in o.1) (word_of p)) e t v,
        keeps,
        tt,
        subst (λ q. IsRuled o (stepped s 0 (word_of p) id c (view_after q e t v) keeps)) (sym packed) kept,
        refl,
      )

-- ---- split and join

module _ (o : Pair) (id : ℕ) (h : History) where
  -- the guest leaves
  pub leaves : (g : Known) (gs : List Known) → Splits (IsRuled o) id (Lock h (g ∷ gs)) (Lock h gs) (At g)
  leaves g gs s k at =
      let v : View = Lock h (g ∷ gs) in
      let w : View = Lock h gs in
      let was = k.views id v at in
      let views = set s.views id w in record {
        lock = k.lock;
        history = k.history;
        lawful = k.lawful;
        word = k.word;
        alone = each_push (IsLocks k.lock) views (At g) (each_set (IsLocks k.lock) s.views id w (λ j u apart at_j. k.alone j u at_j) (k.alone id v at)) (λ j. tt);
        views = each_push (λ j. IsViewOf o.0 k.history) views (At g)
            (each_set (λ j. IsViewOf o.0 k.history) s.views id w (λ j u apart at_j. k.views j u at_j)
            (record { history = was.history; desks = All-tail (IsOf o.0 k.history) g gs was.desks }))
            (λ j. record {
              history = tt;
              desks = All-cons (IsOf o.0 k.history) g [] (All-head (IsOf o.0 k.history) g gs was.desks) (All-nil (IsOf o.0 k.history));
            });
        each = λ n. omega (
          arith,
          standing-push n views (At g),
          standing-set n s.views id v w at,
          times-cons n g.number (map (λ d. d.number) gs),
          times-cons n g.number [],
          k.each n,
        );
      }

  -- a desk's seat joins the lock's
  pub visits : (gs : List Known) (other : ℕ) (d : Known) → Joins (IsRuled o) id (Lock h gs) other (At d) (Lock h (d ∷ gs)) Spent
  visits gs other d s k at apart there =
      let v : View = Lock h gs in
      let w : View = Lock h (d ∷ gs) in
      let was = k.views id v at in
      let at_d : get_elem? s.views other ≡ some (At d) = sym (set_else s.views id other w apart) ∙ there in
      let theirs = k.views other (At d) at_d in
      let views = set s.views id w in record {
        lock = k.lock;
        history = k.history;
        lawful = k.lawful;
        word = k.word;
        alone = each_set (IsLocks k.lock) views other Spent (λ j u off. each_set (IsLocks k.lock) s.views id w (λ j u off at_j. k.alone j u at_j) (k.alone id v at) j u) tt;
        views = each_set (λ j. IsViewOf o.0 k.history) views other Spent
            (λ j u off. each_set (λ j. IsViewOf o.0 k.history) s.views id w (λ j u off at_j. k.views j u at_j)
            (record {
              history = was.history;
              desks = All-cons (IsOf o.0 k.history) d gs (All-head (IsOf o.0 k.history) d [] theirs.desks) was.desks;
            }) j u)
            (record { history = tt; desks = All-nil (IsOf o.0 k.history) });
        each = λ n. omega (
          arith,
          standing-set n views other (At d) Spent there,
          standing-set n s.views id v w at,
          times-cons n d.number (map (λ x. x.number) gs),
          times-cons n d.number [],
          k.each n,
        );
      }

  -- the seat of a new desk leaves
  pub opens : (gs : List Known) → Splits (IsRuled o) id (Lock h gs) (Lock (history_with_desk h) gs) (At (new_known h))
  opens gs s k at =
      let v : View = Lock h gs in
      let w : View = Lock (history_with_desk h) gs in
      let was = k.views id v at in
      let i : History = history_with_desk k.history in
      let wider : (d : Known) → IsOf o.0 k.history d → IsOf o.0 i d = of_wider o k.history k.lawful in
      let views = set s.views id w in record {
        lock = k.lock;
        history = i;
        lawful = history_wider o k.history k.lawful;
        word = k.word;
        alone = each_push (IsLocks k.lock) views (At (new_known h)) (each_set (IsLocks k.lock) s.views id w (λ j u apart at_j. k.alone j u at_j) (k.alone id v at)) (λ j. tt);
        views = each_push (λ j. IsViewOf o.0 i) views (At (new_known h))
            (each_set (λ j. IsViewOf o.0 i) s.views id w
            (λ j u apart at_j. other_view {P = λ d. Unit {0}} o.0 k.lock k.history i j u (λ same. apart (same ∙ sym (k.alone id v at))) (k.alone j u at_j)
            (λ n d within. tt) (λ d any of. wider d of) (k.views j u at_j))
            (record { history = ap history_with_desk was.history; desks = All-weaker (IsOf o.0 k.history) (IsOf o.0 i) wider gs was.desks }))
            (λ j. record {
              history = tt;
              desks = All-cons (IsOf o.0 i) (new_known h) [] (subst (λ x. IsOf o.0 i (new_known x)) (sym was.history) (of_new o k.history k.lawful)) (All-nil (IsOf o.0 i));
            });
        each = λ n. omega (
          arith,
          standing-push n views (At (new_known h)),
          standing-set n s.views id v w at,
          below_more n k.history.desks,
          ap (λ x. times n (x.desks ∷ [])) was.history,
          k.each n,
        );
      }

-- ---- the same, of what a seat is known to have

module _ (o : Pair) (id : ℕ) (v : View) (h : History) where
  pub visits_as : (gs : List Known) (other : ℕ) (w : View) (d : Known) → v ≡ Lock h gs → w ≡ At d → Joins (IsRuled o) id v other w (with_guest v w) Spent
  visits_as gs other w d is at = subst (λ (x : View × View). Joins (IsRuled o) id x.0 other x.1 (with_guest x.0 x.1) Spent) (λ i. (sym is i, sym at i)) (visits o id h gs other d)

  pub leaves_as : (g : Known) (gs : List Known) → v ≡ Lock h (g ∷ gs) → Splits (IsRuled o) id v (without_guest v) (guest_of v)
  leaves_as g gs is = subst (λ (x : View). Splits (IsRuled o) id x (without_guest x) (guest_of x)) (sym is) (leaves o id h g gs)

  pub opens_as : (gs : List Known) → v ≡ Lock h gs → Splits (IsRuled o) id v (with_desk v) (new_desk_of v)
  opens_as gs is = subst (λ (x : View). Splits (IsRuled o) id x (with_desk x) (new_desk_of x)) (sym is) (opens o id h gs)

module _ (key o : Pair) (slots id : ℕ) (me : Me (Unit {0}) View) (opened : key ≡ o) where
  pub reads_as : (h : History) (gs : List Known) → me ≡ (Lock h gs, []) → Allows (IsRuled key) slots id me 0 (λ n. n) (Read o (step slots 0 0 0 none) me)
  reads_as h gs is = subst (λ x. Allows (IsRuled key) slots id me 0 (λ n. n) (Read x (step slots 0 0 0 none) me)) opened
      (reads key slots id me (subst (λ (x : Me (Unit {0}) View). IsLockView x.0) (sym is) tt))

  pub loads_as : Allows (IsRuled key) slots id me 0 (λ n. n) (Loaded o (step slots 0 0 0 none) me)
  loads_as = subst (λ x. Allows (IsRuled key) slots id me 0 (λ n. n) (Loaded x (step slots 0 0 0 none) me)) opened (loads key slots id me)

  pub stores_as : (e : Entry) (t : Entries) (h : History) (g : Known) (p : Pair) (w : ℕ) → me ≡ (Lock h (g ∷ []), []) → w ≡ word_of p → IsNextOf o h p → e.desk ≡ g.number
      → Allows (IsRuled key) slots id me 0 (λ _. w) (λ _. Stored o e t (step slots 0 w 0 none) me w)
  stores_as e t h g p w is packed next mine =
      subst (λ (x : Me (Unit {0}) View × ℕ). Allows (IsRuled key) slots id x.0 0 (λ _. x.1) (λ _. Stored o e t (step slots 0 x.1 0 none) x.0 x.1)) (λ i. (sym is i, sym packed i))
      (subst (λ (x : Pair). Allows (IsRuled x) slots id (Lock h (g ∷ []), []) 0 (λ _. word_of p) (λ _. Stored o e t (step slots 0 (word_of p) 0 none) (Lock h (g ∷ []), []) (word_of p))) (sym opened)
      (stores o slots id h g [] p e t next mine))
