-- Targets and wakers, and queues settled.
use Rattle.std.proofs.Common.{◌≡◌, ℕ, zero, suc, ◌+◌, ◌<◌, ◌≤◌, Bool, true, false, ◌&&◌, List, length, Option, Some, None, refl, sym, ap, ◌∙◌, arith, inl, inr, ◌≢◌, ◌⊎◌, get_or, set, subst, if◌then◌else◌, get_or-set_other, Ok, length-set, get_or-set_same}
use Rattle.std.specs.Prelude.{nat_eq, nat_le, nat_lt, not}
use Rattle.std.specs.List.{enumerate_from}
use Rattle.std.specs.Option.{option_eq, option_map_or}
use Rattle.std.proofs.lemmas.Bool.{and_parts, cases_lt, cond-false, le-ltb, lt-ltb, ltb-true, ne_eqb, cases_eq, false≢true, leb-false, not-true, lt-leb}
use Rattle.std.proofs.lemmas.List.FromFn.{get_or-enumerate_from, length-enumerate_from}
use Rattle.std.proofs.lemmas.List.Sums.{AllPass-from_list_all, position_or_len_is}
use Rattle.strm_links.specs.Rows.{is_some_of}
use Rattle.strm_mblk.specs.Arena.{Arena, shelf_at}
use Rattle.strm_queue.specs.declared.queue_spec.QueueSpec.{QueueSpec}
use Rattle.strm_queue.specs.Flow.{behind, no_spec, spec_at, target_within, waker_within, Flags, QueueState, band_count, with_enabled, every_band, fills, flags_at, has_band, has_drained, is_relieved, lowat_of, opening_flags, some_relieved, still_wanted, waker, with_flags, AreMarksApart, hiwat_of, with_wanted, with_marks}
use Rattle.strm_queue.specs.QueueSpecs.{are_lawful, next_fits, times_next}
use Rattle.strm_queue.specs.Limits.{bands}
use Rattle.strm_queue.specs.QueueCalls.{count_on, flags_left, has_relieved, with_queue_settled, waker_enabled_where, strqset, with_state}
use Rattle.strm_queue.specs.QueuedBlocks.{Agrees, AreInOrder, AreMarksLawful, QueuedBlocks, QueuesValue, queued_blocks, tally_at, with_tally}
use Rattle.strm_queue.specs.Tallies.{count_of, IsTallyOf, Tally, no_tally, with_full_mark}
use Rattle.strm_queue.specs.declared.marks.Marks.{Marks}
use Rattle.strm_queue.proofs.Laid.{nexts_lawful, lowat_of-same, marks_at-apart, marks_at-other}
use Rattle.strm_queue.proofs.Agreeing.{enabled_alone, in_order_state}
use Rattle.strm_queue.proofs.bands.Bands.{bands_where-same, has_band_where, some_same, wanted_past}
use Rattle.strm_queue.proofs.Shelf.{get_or-map_same}
use Rattle.strm_queue.proofs.Counting.{tally_recounted}
use Rattle.std.proofs.lemmas.Grind.{common_steps}

-- ---- walks along next queues, in search of one with a service procedure

-- the next queue of a lawful queue exists and has a greater number
pub record IsAhead (specs : List QueueSpec) (q p : ℕ) : Type 0 where
  pub greater : q < p
  pub there : p < length specs

pub next_ahead : (specs : List QueueSpec) → are_lawful specs ≡ true → (q : ℕ) → q < length specs → (p : ℕ) → (spec_at specs q).next ≡ Some p → IsAhead specs q p
next_ahead specs lawful q within p is =
    let number : 0 + q ≡ q = omega arith in
    let here : next_fits specs q (spec_at specs q).next ≡ true =
    ap (λ k. next_fits specs k (spec_at specs q).next) (sym number)
    ∙ (λ i. next_fits specs (sym (get_or-enumerate_from 0 specs q (0, no_spec) within) i).0 (sym (get_or-enumerate_from 0 specs q (0, no_spec) within) i).1.next)
    ∙ AllPass-from_list_all (λ (x : ℕ × QueueSpec). next_fits specs x.0 x.1.next) (enumerate_from 0 specs) (nexts_lawful specs lawful) q (0, no_spec) (omega (arith, within, length-enumerate_from 0 specs)) in
    let at : next_fits specs q (Some p) ≡ true = ap (next_fits specs q) (sym is) ∙ here in
    record { greater = ltb-true q p (and_parts (nat_lt q p) (nat_lt p (length specs) && nat_le (times_next specs p) 1) at).0; there = ltb-true p (length specs) (and_parts (nat_lt p (length specs)) (nat_le (times_next specs p) 1) (and_parts (nat_lt q p) (nat_lt p (length specs) && nat_le (times_next specs p) 1) at).1).0 }

-- ---- a walk with a bounded number of steps

-- `found steps q` is the result of a walk from q with at most that number of steps; there are `count` queues
module _ {X : Type 0} (found : ℕ → ℕ → X) (count q n : ℕ) where
  -- after k of n steps the walk is at `at`, and finds from there what it finds from q
  pub record IsOnWay (k at : ℕ) : Type 0 where
    pub there : at < count
    pub left : ℕ
    pub many : left + k ≡ n
    pub same : found left at ≡ found count q

  module _ (k at : ℕ) (way : IsOnWay k at) where
    -- one more step is left
    pub step : k < n → (m : ℕ) × ((m + (k + 1) ≡ n) × (found (suc m) at ≡ found count q))
    step more = one way.left way.many way.same
      where
        one : (left : ℕ) → left + k ≡ n → found left at ≡ found count q → (m : ℕ) × ((m + (k + 1) ≡ n) × (found (suc m) at ≡ found count q))
        one zero many same = absurd (omega (arith, many, more))
        one (suc m) many same = (m, (omega (arith, many), same))

-- ---- ahead

module _ (specs : List QueueSpec) (q n : ℕ) where
  abbrev pub target_found : ℕ → ℕ → ℕ
  target_found steps at = target_within steps specs at

  module _ (k at : ℕ) (way : IsOnWay target_found (length specs) q n k at) where
    module _ (more : k < n) (serves : (spec_at specs at).service ≡ false) where
      pub target_next : are_lawful specs ≡ true → (p : ℕ) → (spec_at specs at).next ≡ Some p → IsOnWay target_found (length specs) q n (k + 1) p
      target_next lawful p is =
          let s = step target_found (length specs) q n k at way more in
          record {
            there = (next_ahead specs lawful at way.there p is).there;
            left = s.0;
            many = s.1.0;
            same = sym (cond-false _ _ _ serves ∙ ap (λ o. option_map_or (target_within s.0 specs) o at) is) ∙ s.1.1;
          }

-- ---- behind

module _ (specs : List QueueSpec) (q : ℕ) where
  abbrev names : QueueSpec → Bool
  names s = is_some_of q s.next

  -- none of the first k queues has q as its next
  abbrev pub NoneBehind : ℕ → Type 0
  NoneBehind k = (j : ℕ) → j < k → is_some_of q (spec_at specs j).next ≡ false

  -- the test in the code, as the definition states it
  pub names_is : (o : Option ℕ) → option_eq nat_eq o (Some q) ≡ is_some_of q o
  names_is None = refl
  names_is (Some p) = refl

  pub behind_found : (k : ℕ) → k < length specs → NoneBehind k → is_some_of q (spec_at specs k).next ≡ true → behind specs q ≡ Some k
  behind_found k within none here = grind (arith, common_steps, position_or_len_is, lt-ltb)

  pub behind_none : are_lawful specs ≡ true → NoneBehind q → q ≤ length specs → behind specs q ≡ None
  behind_none lawful none within =
      let at = position_or_len_is names specs (length specs) no_spec (omega arith) each (λ past. absurd (omega (arith, past))) in
      (λ i. if nat_lt (at i) (length specs) then Some (at i) else None) ∙ cond-false _ _ _ (le-ltb (length specs) (length specs) (omega arith))
    where
      past : (j : ℕ) → j < length specs → q ≤ j → (o : Option ℕ) → (spec_at specs j).next ≡ o → is_some_of q o ≡ false
      past j there from None is = refl
      past j there from (Some p) is = ne_eqb p q (λ same. absurd (omega (arith, same, from, (next_ahead specs lawful j there p is).greater)))

      each : (j : ℕ) → j < length specs → is_some_of q (spec_at specs j).next ≡ false
      each j there =
          elim (cases_lt j q) [
            | inl below ↦ none j below
            | inr from ↦ past j there from (spec_at specs j).next refl
          ]

module _ (specs : List QueueSpec) (q n : ℕ) where
  abbrev pub waker_found : ℕ → ℕ → Option ℕ
  waker_found steps at = waker_within steps specs at

-- ---- wanted marks and water marks: settling a queue, setting a wanted mark, and giving a band other water marks

-- enabling the waker changes only the run list
module _ (so : Bool) (q : ℕ) (s : QueueState) where
  waker_alone : waker_enabled_where so q s ≡ record s { run = (waker_enabled_where so q s).run }
  waker_alone = by_cases so (waker s.specs q)
    where
      by_cases : (so : Bool) (o : Option ℕ) → (let t : QueueState = if so then option_map_or (λ p. with_enabled p s) o s else s in t ≡ record s { run = t.run })
      by_cases true None = refl
      by_cases true (Some p) = enabled_alone true p s
      by_cases false o = refl

-- where one queue gets other flags, wanted marks are lawful if its own are
flags_lawful : (s : QueueState) (a : Arena) (q : ℕ) (f : Flags) → ((p : ℕ) → p ≢ q → AreMarksLawful s a p)
    → ((band : ℕ) → has_band f.wanted band ≡ true → lowat_of s q band < band_count a.store band (shelf_at a q)) → (p : ℕ) → AreMarksLawful (with_flags q f s) a p
flags_lawful s a q f others here p =
    elim (cases_eq p q) [
      | inl same ↦
          subst (AreMarksLawful (with_flags q f s) a) (sym same) (λ band is.
          elim (set_or s.flags q f opening_flags) [
            | inl set ↦ here band (sym (ap (λ (m : Flags). has_band m.wanted band) set) ∙ is)
            | inr past ↦ absurd (false≢true (sym (ap (λ (m : Flags). has_band m.wanted band) past ∙ get_or-map_same every_band false band) ∙ is))
          ])
      | inr other ↦ λ band is. others p other band (sym (ap (λ (m : Flags). has_band m.wanted band) (get_or-set_other s.flags q p f opening_flags other)) ∙ is)
    ]
  where
    -- what is at a place where something was set, if the list has the place
    set_or : (ms : List Flags) (q : ℕ) (m d : Flags) → (get_or (set ms q m) q d ≡ m) ⊎ (get_or (set ms q m) q d ≡ d)
    set_or ms q m d = grind (arith, common_steps)

-- a value that differs only in its state is the old value with the new state
pub alone : (v w : QueuesValue) {s : QueueState} → w ≡ record v { state = s } → w ≡ record v { state = w.state }
alone v w is = is ∙ ap (λ (t : QueueState). record v { state = t }) (sym (ap (λ (x : QueuesValue). x.state) is))

module _ (v : QueuesValue) (a : Arena) (q : ℕ) where
  abbrev both : QueuedBlocks
  both = queued_blocks v a

  abbrev wanted : List Bool
  wanted = (flags_at v.state q).wanted

  abbrev lowat : ℕ → ℕ
  lowat = lowat_of v.state q

  -- the stored byte counts decide which bands are relieved
  module _ (in_order : AreInOrder v a) (within : q < length v.state.specs) where
    abbrev relieved_by : ℕ → Bool
    relieved_by = is_relieved wanted (count_of (tally_at v q)) lowat

    abbrev relieved_state : QueueState
    relieved_state = with_flags q (record (flags_at v.state q) { wanted = still_wanted wanted (count_of (tally_at v q)) lowat }) v.state

    relieved_same : (band : ℕ) → band < bands → relieved_by band ≡ is_relieved wanted (count_on both q) lowat band
    relieved_same band below = ap (λ n. has_band wanted band && has_drained (lowat band) n) ((in_order.true_of q within).counts band below)

    pub settled_by : (so : Bool) → so ≡ some_relieved wanted (count_of (tally_at v q)) lowat → record both { queues = waker_enabled_where so q relieved_state } ≡ with_queue_settled q both
    settled_by so some =
        let so_is = some ∙ some_same relieved_by (is_relieved wanted (count_on both q) lowat) relieved_same in
        let left =
        bands_where-same (λ band. has_band wanted band && not (relieved_by band)) (λ band. has_band wanted band && not (is_relieved wanted (count_on both q) lowat band))
        (λ band within. ap (λ r. has_band wanted band && not r) (relieved_same band within)) in
        λ i. record both { queues = waker_enabled_where (so_is i) q (with_flags q (record (flags_at v.state q) { wanted = left i }) v.state) }

  -- ---- after settling, wanted marks are lawful

  module _ (others : (p : ℕ) → p ≢ q → AreMarksLawful v.state a p) where
    abbrev left : QueueState
    left = with_flags q (flags_left both q) v.state

    -- a band that keeps its wanted mark has more bytes than its low water mark
    above : (w : Bool) (n l : ℕ) → w && not (w && has_drained l n) ≡ true → l < n
    above true n l is = leb-false n l (not-true (has_drained l n) is)
    above false n l is = absurd (false≢true is)

    left_at : (p : ℕ) → AreMarksLawful left a p
    left_at =
        flags_lawful v.state a q (flags_left both q) others (λ band marked.
        elim (cases_lt band bands) [
          | inl within ↦
              above (has_band wanted band) (band_count a.store band (shelf_at a q)) (lowat band)
              (sym (has_band_where (λ band. has_band wanted band && not (is_relieved wanted (count_on both q) lowat band)) band within) ∙ marked)
          | inr past ↦ absurd (false≢true (sym (wanted_past (λ band. has_band wanted band && not (is_relieved wanted (count_on both q) lowat band)) band past) ∙ marked))
        ])

    pub settled_agrees : (s : QueueState) → AreInOrder v a → record both { queues = s } ≡ with_queue_settled q both → Agrees (record v { state = s }) a
    settled_agrees s in_order is =
        let state = ap (λ (x : QueuedBlocks). x.queues) is in
        let alone = state ∙ waker_alone (has_relieved both q) q left in
        let specs = ap (λ (t : QueueState). t.specs) alone in
        let marks = ap (λ (t : QueueState). t.marks) alone in
        let flags = ap (λ (t : QueueState). t.flags) alone in
        record {
          in_order = in_order_state v a s specs marks in_order;
          marks = λ p band here.
              subst (λ low. low band < band_count a.store band (shelf_at a p)) (sym (lowat_of-same v.state s marks p))
              (left_at p band (subst (λ ms. has_band (get_or ms p opening_flags).wanted band ≡ true) flags here));
        }

-- ---- a wanted mark is set on a full band, which is above its low water mark

pub agrees_wanted : (v : QueuesValue) (a : Arena) (p band : ℕ) → AreMarksApart v.state → p < length v.state.specs → band < bands → fills (hiwat_of v.state p band) (band_count a.store band (shelf_at a p)) ≡ true → Agrees v a
    → Agrees (record v { state = with_wanted p band v.state }) a
agrees_wanted v a p band apart within low full agrees = grind (arith, common_steps)

-- ---- a band gets other water marks, and its full mark is stored anew

module _ (v : QueuesValue) (a : Arena) (q band : ℕ) (m : Marks) where
  abbrev marked : QueueState
  marked = with_marks q band m v.state

  abbrev tally : Tally
  tally = with_full_mark (hiwat_of marked q band) band (tally_at v q)

  -- the queues with the new water marks and the new full mark
  abbrev pub with_recounted : QueuesValue
  with_recounted = with_tally q tally (record v { state = marked })

  -- the tallies are true of the new water marks
  pub marked_in_order : AreInOrder v a → q < length v.state.specs → band < bands → AreInOrder with_recounted a
  marked_in_order in_order within low = record {
    shelves = in_order.shelves;
    stored = length-set v.tallies q tally ∙ in_order.stored;
    ordered = in_order.ordered;
    true_of = true_at;
  }
    where
      true_at : (p : ℕ) → p < length v.state.specs → IsTallyOf a.store (hiwat_of marked p) (shelf_at a p) (get_or (set v.tallies q tally) p no_tally)
      true_at p below =
          elim (cases_eq p q) [
            | inl same ↦
                subst (λ k. IsTallyOf a.store (hiwat_of marked k) (shelf_at a k) (get_or (set v.tallies q tally) k no_tally)) (sym same)
                (subst (IsTallyOf a.store (hiwat_of marked q) (shelf_at a q)) (sym (get_or-set_same v.tallies q tally no_tally (omega (arith, within, in_order.stored))))
                (tally_recounted a.store (hiwat_of v.state q) (hiwat_of marked q) (shelf_at a q) (tally_at v q) (in_order.true_of q within) band low
                (λ x other. ap (λ (n : Marks). n.hiwat) (marks_at-other v.state q band m x other))))
            | inr other ↦
                subst (IsTallyOf a.store (hiwat_of marked p) (shelf_at a p)) (sym (get_or-set_other v.tallies q p tally no_tally other))
                (subst (λ high. IsTallyOf a.store high (shelf_at a p) (tally_at v p)) (sym (λ i x. (marks_at-apart v.state q band m p other x i).hiwat)) (in_order.true_of p below))
          ]

  -- wanted marks of other queues stay lawful
  pub marked_others : Agrees v a → (p : ℕ) → p ≢ q → AreMarksLawful marked a p
  marked_others agrees p other x wanted = grind (arith, common_steps)

-- `strqset` of a queue that exists, with a low water mark below the high one
pub strqset_given : (v : QueuedBlocks) (q band hiwat lowat : ℕ) → nat_lt q (length v.queues.specs) ≡ true → lowat < hiwat
    → strqset q band hiwat lowat v ≡ Ok (tt, with_queue_settled q (with_state (with_marks q band (record { hiwat = hiwat; lowat = lowat })) v))
strqset_given v q band hiwat lowat there low = cond-false _ _ _ (ap not there) ∙ cond-false _ _ _ (lt-leb hiwat lowat low)
