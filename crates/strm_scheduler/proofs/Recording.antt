-- Writers and their nodes: what is recorded of an answer, and that no writer waits twice.
use Rattle.std.proofs.Common.{◌≡◌, ℕ, ◌+◌, ◌*◌, ◌/◌, ◌%◌, ◌<◌, ◌≤◌, Bool, true, false, not, ◌||◌, ◌==◌, List, [], ◌∷◌, ◌++◌, map, set, get_or, get_or-set_same, Option, Some, None, Ok, ◌⊎◌, refl, sym, ap, ◌∙◌, inl, inr, arith, if◌then◌else◌, subst}
use Rattle.std.proofs.lemmas.Bool.{and_from, and_parts, cases_eq, cond-false, cond-true, eq-eqb, eqb-true, false_from_ne_true, false≢true, le-ltb, lt-ltb, ne_eqb, or_cases, or_left, or_right}
use Rattle.std.proofs.lemmas.List.Folds.{list_any-append}
use Rattle.std.proofs.lemmas.List.{map-append}
use Rattle.std.proofs.lemmas.List.Elements.{All-map}
use Rattle.std.proofs.lemmas.Option.{none-some, same_Some}
use Rattle.std.proofs.lemmas.Nat.{div-add-mod', div-mul-add, div_below, mod-mul-add, mod_below}
use Rattle.std.specs.List.{find}
use Rattle.std.specs.Prelude.{nat_lt}
use Rattle.strm_links.specs.Rows.{IsApart, IsParting, Reads, Rows, has, holder, list_at}
use Rattle.strm_links.specs.Rows as rows
use Rattle.strm_links.proofs.lists.AllLists.{All-listed, IsApart-list_at, holder_has, holder_none, list_at-map}
use Rattle.strm_links.proofs.lists.OneList.{has_at, without-absent}
use Rattle.strm_queue.specs.Limits.{bands, most_queues}
use Rattle.strm_scheduler.specs.Writers.{AreOnce, AreWithin, StayWaiting, Writer, is_same, let_go, waits, with_answer, with_refused, without}
use Rattle.strm_scheduler.specs.WritersLayout.{HasPlaces, node_of, writer_of, writers_in}

-- ---- the node of a writer

module _ (q band : ℕ) (low : band < bands) where
  -- the writer of a writer's node
  writer_of-node_of : writer_of (node_of q band) ≡ (q, band)
  writer_of-node_of = λ i. (div-mul-add q bands band low i, mod-mul-add q bands band low i)

  -- a node has this writer exactly if it is the writer's
  same_node : (k : ℕ) → is_same (q, band) (writer_of k) ≡ (k == node_of q band)
  same_node k =
      elim (cases_eq k (node_of q band)) [
        | inl same ↦
            let here : writer_of k ≡ (q, band) = ap writer_of same ∙ writer_of-node_of in
            ap (is_same (q, band)) here ∙ and_from _ _ (eq-eqb q q refl) (eq-eqb band band refl) ∙ sym (eq-eqb k (node_of q band) same)
        | inr other ↦
            false_from_ne_true _ (λ is.
            let parts = and_parts _ _ is in
            let high : q ≡ k / bands = eqb-true q (k / bands) parts.0 in
            let rest : band ≡ k % bands = eqb-true band (k % bands) parts.1 in
            other (sym (div-add-mod' k bands) ∙ (λ i. sym high i * bands + sym rest i)))
            ∙ sym (ne_eqb k (node_of q band) other)
      ]

  -- a writer waits exactly if its node is in the list
  pub waits-nodes : (ks : List ℕ) → waits (q, band) (map writer_of ks) ≡ has (node_of q band) ks
  waits-nodes [] = refl
  waits-nodes (k ∷ ks) = λ i. same_node k i || waits-nodes ks i

  -- it no longer waits once its node has left
  pub without-nodes : (ks : List ℕ) → without (q, band) (map writer_of ks) ≡ map writer_of (rows.without (node_of q band) ks)
  without-nodes [] = refl
  without-nodes (k ∷ ks) =
      ap (λ (so : Bool). if not so then writer_of k ∷ without (q, band) (map writer_of ks) else without (q, band) (map writer_of ks)) (same_node k)
      ∙ by_same (k == node_of q band) _ _ (without-nodes ks)
    where
      by_same : (so : Bool) (ws : List Writer) (ns : List ℕ) → ws ≡ map writer_of ns
          → (if not so then writer_of k ∷ ws else ws) ≡ map writer_of (if not so then k ∷ ns else ns)
      by_same true ws ns is = is
      by_same false ws ns is = ap (λ vs. writer_of k ∷ vs) is

-- a node is that of its writer
node_of-writer_of : (k : ℕ) → node_of (k / bands) (k % bands) ≡ k
node_of-writer_of k = div-add-mod' k bands

-- ---- what is recorded of an answer

module _ (r : Rows) (places : HasPlaces r) (q band : ℕ) (low : band < bands) where
  abbrev node : ℕ
  node = node_of q band

  -- the node has left
  pub room-left : writers_in (record r { lists = map (rows.without node) r.lists }) ≡ with_answer q band true (writers_in r)
  room-left = ap (map writer_of) (list_at-map (rows.without node) r.lists 0 refl) ∙ sym (without-nodes q band low (list_at 0 r))

  -- no list had it
  pub room-none : holder node r ≡ None → writers_in r ≡ with_answer q band true (writers_in r)
  room-none none = sym (without-nodes q band low (list_at 0 r) ∙ ap (map writer_of) (without-absent node (list_at 0 r) (holder_none node 0 r none)))

  -- no pool has the queue
  pub past-none : most_queues ≤ q → IsParting r → (room : Bool) → writers_in r ≡ with_answer q band room (writers_in r)
  past-none past parting false = sym (cond-false _ _ _ (le-ltb q most_queues past))
  past-none past parting true =
      let absent : has node (list_at 0 r) ≡ false =
      false_from_ne_true _ (λ there. absurd (omega (arith, past, places.nodes, All-listed (λ k. k < r.nodes) node 0 r.lists parting.within there))) in
      sym (without-nodes q band low (list_at 0 r) ∙ ap (map writer_of) (without-absent node (list_at 0 r) absent))

  module _ (there : q < most_queues) where
    -- the node has joined at the end
    pub refused-joined : holder node r ≡ None → writers_in (record r { lists = set r.lists 0 (list_at 0 r ++ node ∷ []) }) ≡ with_answer q band false (writers_in r)
    refused-joined none =
        ap (map writer_of) (get_or-set_same r.lists 0 (list_at 0 r ++ node ∷ []) [] (omega (arith, places.one)))
        ∙ map-append writer_of (list_at 0 r) (node ∷ [])
        ∙ ap (λ (w : Writer). writers_in r ++ w ∷ []) (writer_of-node_of q band low)
        ∙ sym (cond-false _ _ _ (waits-nodes q band low (list_at 0 r) ∙ holder_none node 0 r none))
        ∙ sym (cond-true _ _ _ (lt-ltb q most_queues there))

    -- the list had it
    pub refused-again : (l : ℕ) → holder node r ≡ Some l → writers_in r ≡ with_answer q band false (writers_in r)
    refused-again l held =
        let found = holder_has node l r held in
        let first : l ≡ 0 = omega (arith, found.0, places.one) in
        sym (cond-true _ _ _ (waits-nodes q band low (list_at 0 r) ∙ ap (λ j. has node (list_at j r)) (sym first) ∙ found.1))
        ∙ sym (cond-true _ _ _ (lt-ltb q most_queues there))

-- a writer that was refused waits
pub refused_waits : (q band : ℕ) (ws : List Writer) → q < most_queues → waits (q, band) (with_answer q band false ws) ≡ true
refused_waits q band ws there =
    ap (waits (q, band)) (cond-true _ _ _ (lt-ltb q most_queues there)) ∙ by_waits (waits (q, band) ws) refl
  where
    by_waits : (so : Bool) → waits (q, band) ws ≡ so → waits (q, band) (if so then ws else ws ++ (q, band) ∷ []) ≡ true
    by_waits true is = is
    by_waits false is =
        list_any-append (is_same (q, band)) ws ((q, band) ∷ [])
        ∙ or_right _ _ (ap (λ so. so || false) (and_from _ _ (eq-eqb q q refl) (eq-eqb band band refl)))

-- ---- who still waits

same_is : (w x : Writer) → is_same w x ≡ true → w ≡ x
same_is w x same =
    let parts = and_parts _ _ same in
    λ i. (eqb-true w.0 x.0 parts.0 i, eqb-true w.1 x.1 parts.1 i)

-- a writer that waits does so without another
stay_without : (w x : Writer) (ws : List Writer) → waits w ws ≡ true → (x ≡ w) ⊎ (waits w (without x ws) ≡ true)
stay_without w x [] waiting = absurd (false≢true waiting)
stay_without w x (y ∷ ws) waiting = by_same (is_same x y) refl (or_cases (is_same w y) (waits w ws) waiting) (stay_without w x ws)
  where
    by_same : (so : Bool) → is_same x y ≡ so → (is_same w y ≡ true) ⊎ (waits w ws ≡ true) → (waits w ws ≡ true → (x ≡ w) ⊎ (waits w (without x ws) ≡ true))
        → (x ≡ w) ⊎ (waits w (if not so then y ∷ without x ws else without x ws) ≡ true)
    by_same true same (inl here) further = inl (same_is x y same ∙ sym (same_is w y here))
    by_same true same (inr there) further = further there
    by_same false other (inl here) further = inr (or_left _ _ here)
    by_same false other (inr there) further = elim (further there) [ inl is ↦ inl is | inr stays ↦ inr (or_right _ _ stays) ]

stay_refused : (w x : Writer) (ws : List Writer) → waits w ws ≡ true → waits w (with_refused x ws) ≡ true
stay_refused w x ws waiting = by_waits (waits x ws)
  where
    by_waits : (so : Bool) → waits w (if so then ws else ws ++ x ∷ []) ≡ true
    by_waits true = waiting
    by_waits false = list_any-append (is_same w) ws (x ∷ []) ∙ or_left _ _ waiting

stay_answered : (q band : ℕ) (room : Bool) (ws : List Writer) → StayWaiting (let_go q band (Ok room)) ws (with_answer q band room ws)
stay_answered q band true ws w waiting = elim (stay_without w (q, band) ws waiting) [ inl is ↦ inl (ap Some is) | inr stays ↦ inr stays ]
stay_answered q band false ws w waiting = inr (by_queue (nat_lt q most_queues))
  where
    by_queue : (so : Bool) → waits w (if so then with_refused (q, band) ws else ws) ≡ true
    by_queue true = stay_refused w (q, band) ws waiting
    by_queue false = waiting

pub stay_recorded : (q band : ℕ) (room : Bool) (old new : List Writer) → new ≡ with_answer q band room old → StayWaiting (let_go q band (Ok room)) old new
stay_recorded q band room old new is = subst (StayWaiting (let_go q band (Ok room)) old) (sym is) (stay_answered q band room old)

-- ---- no writer twice

once : (ks : List ℕ) → IsApart ks → AreOnce (map writer_of ks)
once [] apart = tt
once (k ∷ ks) apart =
    (waits-nodes (k / bands) (k % bands) (mod_below k bands (omega arith)) ks ∙ ap (λ n. has n ks) (node_of-writer_of k) ∙ apart.0, once ks apart.1)

module _ (r : Rows) (places : HasPlaces r) (parting : IsParting r) where
  pub are_once : AreOnce (writers_in r)
  are_once = once (list_at 0 r) (IsApart-list_at 0 r.lists parting.apart)

  pub are_within : AreWithin (writers_in r)
  are_within =
      All-map (λ (w : Writer). (w.0 < most_queues) × (w.1 < bands)) writer_of (list_at 0 r)
      (λ i d inside.
      let k = get_or (list_at 0 r) i d in
      let there : k < r.nodes = All-listed (λ n. n < r.nodes) k 0 r.lists parting.within (has_at (list_at 0 r) i d inside) in
      let below : k < most_queues * bands = omega (arith, there, places.nodes) in
      (div_below k bands most_queues (omega arith) below, mod_below k bands (omega arith)))

-- ---- the first writer that may ask again

module _ (test : Writer → Bool) (step : ℕ → Option ℕ) where
  -- there is none if no node is left
  pub none_left : (at : Option ℕ) (ks : List ℕ) → Reads step at ks → at ≡ None → find test (map writer_of ks) ≡ None
  none_left at [] reads none = refl
  none_left at (k ∷ ks) reads none = absurd (none-some k (sym none ∙ reads.0))

  -- the next node
  pub one_left : (at : Option ℕ) (k : ℕ) (ks : List ℕ) → Reads step at ks → at ≡ Some k
      → (rest : List ℕ) × (ks ≡ k ∷ rest) × Reads step (step k) rest
  one_left at k [] reads some = absurd (none-some k (sym reads ∙ some))
  one_left at k (n ∷ ks) reads some =
      let same : n ≡ k = same_Some n k (sym reads.0 ∙ some) in
      (ks, ap (λ m. m ∷ ks) same, subst (λ m. Reads step (step m) ks) same reads.1)

  -- the first one is ready, or else the rest is left
  pub first_here : (k : ℕ) (ks : List ℕ) (w : Writer) → w ≡ writer_of k → test w ≡ true → Some w ≡ find test (map writer_of (k ∷ ks))
  first_here k ks w is passes = ap Some is ∙ sym (cond-true (test (writer_of k)) _ _ (ap test (sym is) ∙ passes))

  pub first_later : (k : ℕ) (ks : List ℕ) (w : Writer) → w ≡ writer_of k → test w ≡ false → find test (map writer_of (k ∷ ks)) ≡ find test (map writer_of ks)
  first_later k ks w is fails = cond-false (test (writer_of k)) _ _ (ap test (sym is) ∙ fails)
