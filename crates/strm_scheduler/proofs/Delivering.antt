-- What the laws of sides give: who waits for what, that taking a message wakes who waits for it, and that all is delivered in the end.
use Rattle.std.proofs.Common.{◌≡◌, ◌≢◌, ℕ, inl, inr, Bool, true, false, not, List, [], ◌∷◌, get_or, length, Option, Some, None, Err, refl, sym, ap, ◌∙◌, subst, if◌then◌else◌, zero, suc, ◌+◌, ◌<◌, ◌≤◌, ◌&&◌, ◌||◌, ◌==◌, ◌++◌, arith}
use Rattle.std.specs.Prelude.{is_some}
use Rattle.std.proofs.lemmas.Bool.{and_from, and_parts, cases_lt, cond-false, false≢true, le-leb, lt-ltb, ne_eqb, not-true}
use Rattle.strm_data.specs.declared.refusal.Refusal.TheVariants.{NoSuchQueue}
use Rattle.strm_mblk.specs.Block.{Message}
use Rattle.strm_mblk.specs.Given.{Given, value_after}
use Rattle.strm_queue.specs.declared.queue_spec.QueueSpec.{QueueSpec}
use Rattle.strm_queue.specs.Flow.{QueueState, band_count, every_band, has_band, is_relieved, lowat_of, spec_at, waker, with_enabled, with_flags, with_read}
use Rattle.strm_queue.specs.QueueCalls.{count_on, flags_left, flags_of, get_first, getq, has_queue, has_relieved, messages_on, waker_enabled_where, with_got, with_queue_settled, with_state}
use Rattle.strm_queue.specs.QueuedBlocks.{AreMarksLawful, QueuedBlocks}
use Rattle.strm_queue.specs.Rank.{rank_of}
use Rattle.strm_scheduler.specs.Laws.{AreAllEmpty, AreEndsEmpty, AreWaiting, IsAwaited, IsAwake, IsWoken, is_awake, may_rest, take}
use Rattle.strm_scheduler.specs.declared.need.Need.{Need}
use Rattle.strm_scheduler.specs.Sides.{AreSides, need_at, next_of}
use Rattle.strm_scheduler.proofs.Keeping.{run_or_rest}
use Rattle.strm_scheduler.proofs.Settling.{AreBanded, wanted_below}
use Rattle.std.specs.Option.{option_map_or}
use Rattle.std.proofs.lemmas.List.{get_or_past}
use Rattle.std.proofs.lemmas.List.Folds.{list_any-append, list_any_at}
use Rattle.strm_links.specs.Rows as rows
use Rattle.strm_queue.specs.Limits.{high_rank}
use Rattle.strm_queue.specs.QueueSpecs.{are_lawful}
use Rattle.strm_queue.proofs.bands.Bands.{get_or-every_band, length_every_band}
use Rattle.strm_scheduler.proofs.Hops.{hop_ahead, hop_serves, waker_is, waker_next}

-- ---- who waits

-- each queue with a next queue is awake, unless it waits for blocks
abbrev pub AreAwakeUnlessShort : List (Option Need) → QueuedBlocks → Type 0
AreAwakeUnlessShort waits v = (q n : ℕ) → next_of v.queues.specs q ≡ Some n → need_at waits q ≡ None → is_awake v q n ≡ true

-- what a queue waits for that has messages and is not on the run list
module _ (v : QueuedBlocks) (marks : (q : ℕ) → AreMarksLawful v.queues v.arena q) where
  awaited : (read : Bool) (n : ℕ) (ms : List Message) → 0 < length ms → may_rest v.arena.store read (flags_of v n).wanted ms ≡ true → IsAwaited v n (rank_of v.arena.store (get_or ms 0 []))
  awaited read n [] some rest = absurd (omega (arith, some))
  awaited read n (m ∷ ms) some rest =
      let band = rank_of v.arena.store m in
      let parts = and_parts (not (band == high_rank)) (has_band (flags_of v n).wanted band) rest in
      record { ordinary = not-true (band == high_rank) parts.0; wanted = parts.1; full = marks n band parts.1 }

  pub waiting : (waits : List (Option Need)) → AreAwakeUnlessShort waits v → AreWaiting waits v
  waiting waits awake q n next some off none =
      elim (run_or_rest v q n (awake q n next none)) [
        | inl on ↦ absurd (false≢true (sym off ∙ on))
        | inr rest ↦ awaited (flags_of v q).read n (messages_on v q) some rest
      ]

module _ (v : QueuedBlocks) (lawful : are_lawful v.queues.specs ≡ true) (shelved : length v.arena.shelves ≡ length v.queues.specs)
    (marks : (q : ℕ) → AreMarksLawful v.queues v.arena q) (awake : IsAwake v) (idle : v.queues.run ≡ []) where
  -- a queue waits only for a next queue that has messages
  waits_not : (q n : ℕ) → messages_on v n ≡ [] → (ms : List Message) → may_rest v.arena.store (flags_of v q).read (flags_of v n).wanted ms ≡ true → ms ≡ []
  waits_not q n empty [] rest = refl
  waits_not q n empty (m ∷ ms) rest =
      let band = rank_of v.arena.store m in
      let above = (awaited v marks (flags_of v q).read n (m ∷ ms) (omega arith) rest).full in
      let none : band_count v.arena.store band (messages_on v n) ≡ 0 = ap (band_count v.arena.store band) empty in
      absurd (omega (arith, above, none))

  -- so it has none if its next queue has none
  empty_behind : (q n : ℕ) → next_of v.queues.specs q ≡ Some n → messages_on v n ≡ [] → messages_on v q ≡ []
  empty_behind q n next empty =
      elim (run_or_rest v q n (awake q n next)) [
        | inl on ↦ absurd (false≢true (sym (ap (rows.has q) idle) ∙ on))
        | inr rest ↦ waits_not q n empty (messages_on v q) rest
      ]

  module _ (ends : AreEndsEmpty v) where
    -- by the number of queues from q on
    step : (count q : ℕ) → ((n : ℕ) → length v.queues.specs ≤ count + n → messages_on v n ≡ []) → length v.queues.specs ≤ suc count + q → messages_on v q ≡ []
    step count q further few =
        elim (cases_lt q (length v.queues.specs)) [
          | inl below ↦ by_next below (next_of v.queues.specs q) refl
          | inr past ↦ get_or_past v.arena.shelves q [] (omega (arith, past, shelved))
        ]
      where
        by_next : q < length v.queues.specs → (o : Option ℕ) → next_of v.queues.specs q ≡ o → messages_on v q ≡ []
        by_next below None last = ends q below last
        by_next below (Some n) next = empty_behind q n next (further n (omega (arith, few, (hop_ahead v.queues.specs lawful q n next).greater)))

    empty_from : (count q : ℕ) → length v.queues.specs ≤ count + q → messages_on v q ≡ []
    empty_from zero q few = get_or_past v.arena.shelves q [] (omega (arith, few, shelved))
    empty_from (suc count) q few = step count q (empty_from count) few

    pub all_empty : AreAllEmpty v
    all_empty q = empty_from (length v.queues.specs) q (omega arith)

-- ---- a message is taken off the last queue of a side

or_none : (b : Bool) → (b || false) ≡ b
or_none true = refl
or_none false = refl

-- enabling a queue puts no other one on the run list
pub other_enabled : (p r : ℕ) (s : QueueState) → r ≢ p → rows.has p (with_enabled r s).run ≡ rows.has p s.run
other_enabled p r s other = by_case ((spec_at s.specs r).service && not (rows.has r s.run))
  where
    by_case : (so : Bool) → (let t : QueueState = if so then record s { run = s.run ++ r ∷ [] } else s in rows.has p t.run ≡ rows.has p s.run)
    by_case true = list_any-append (λ x. x == p) s.run (r ∷ []) ∙ ap (λ b. rows.has p s.run || (b || false)) (ne_eqb r p other) ∙ or_none (rows.has p s.run)
    by_case false = refl

module _ (specs : List QueueSpec) (lawful : are_lawful specs ≡ true) (sides : AreSides specs) (q : ℕ) where
  other_woken : (so : Bool) (p : ℕ) (s : QueueState) → s.specs ≡ specs → next_of specs p ≢ Some q → rows.has p (waker_enabled_where so q s).run ≡ rows.has p s.run
  other_woken false p s same other = refl
  other_woken true p s same other = by_waker (waker s.specs q) refl
    where
      by_waker : (o : Option ℕ) → waker s.specs q ≡ o → rows.has p (option_map_or (λ r. with_enabled r s) o s).run ≡ rows.has p s.run
      by_waker None none = refl
      by_waker (Some r) some =
          let next = waker_next specs lawful sides q r (ap (λ (sp : List QueueSpec). waker sp q) (sym same) ∙ some) in
          other_enabled p r s (λ is. other (subst (λ k. next_of specs k ≡ Some q) is next))

  -- the queue behind comes last on the run list, if it was not there
  next_woken : (p : ℕ) (s : QueueState) → s.specs ≡ specs → next_of specs p ≡ Some q → rows.has p s.run ≡ false → (waker_enabled_where true q s).run ≡ s.run ++ p ∷ []
  next_woken p s same next off =
      ap (λ o. (option_map_or (λ r. with_enabled r s) o s).run) (ap (λ (sp : List QueueSpec). waker sp q) same ∙ waker_is specs lawful p q next sides)
      ∙ ap (λ (b : Bool). (let t : QueueState = if b then record s { run = s.run ++ p ∷ [] } else s in t.run)) serves
    where
      serves : ((spec_at s.specs p).service && not (rows.has p s.run)) ≡ true
      serves = (λ i. (spec_at (same i) p).service && not (off i)) ∙ ap (λ b. b && true) (hop_serves specs lawful p q next sides)

module _ (v : QueuedBlocks) (lawful : are_lawful v.queues.specs ≡ true) (sides : AreSides v.queues.specs) (banded : AreBanded v)
    (marks : (q : ℕ) → AreMarksLawful v.queues v.arena q) (waits : List (Option Need)) (awake : AreAwakeUnlessShort waits v) (q : ℕ) where
  module _ (m : Message) (ms : List Message) where
    abbrev got : QueuedBlocks
    got = with_got q m ms v

    abbrev settled : QueuedBlocks
    settled = with_queue_settled q got

    abbrev left : QueueState
    left = with_flags q (flags_left got q) v.queues

    -- a wanted band that has drained is relieved
    relieved : (band : ℕ) → has_band (flags_of v q).wanted band ≡ true → count_on got q band ≤ lowat_of v.queues q band → has_relieved got q ≡ true
    relieved band wanted few =
        let below = wanted_below (flags_of v q).wanted (banded q) band wanted in
        let there : band < length every_band = omega (arith, below, length_every_band) in
        let test = is_relieved (flags_of v q).wanted (count_on got q) (lowat_of v.queues q) in
        list_any_at test every_band band 0 there
        (ap test (get_or-every_band band below) ∙ and_from (has_band (flags_of v q).wanted band) _ wanted (le-leb (count_on got q band) (lowat_of v.queues q band) few))

    taken_wakes : (p : ℕ) → next_of v.queues.specs p ≡ Some q → 0 < length (messages_on v p) → rows.has p v.queues.run ≡ false → need_at waits p ≡ None
        → (let band = rank_of v.arena.store (get_or (messages_on v p) 0 []) in count_on got q band ≤ lowat_of v.queues q band) → settled.queues.run ≡ v.queues.run ++ p ∷ []
    taken_wakes p next some off none few =
        let awaits = waiting v marks waits awake p q next some off none in
        let drained = relieved (rank_of v.arena.store (get_or (messages_on v p) 0 [])) awaits.wanted few in
        ap (λ so. (waker_enabled_where so q left).run) drained ∙ next_woken v.queues.specs lawful sides q p left refl next off

    pub woken_some : IsWoken waits q v (with_state (with_read q false) settled)
    woken_some = record {
      wakes = taken_wakes;
      alone = λ p other. other_woken v.queues.specs lawful sides q (has_relieved got q) p left refl other;
    }

  -- if there is none, no queue waits for it
  woken_none : messages_on v q ≡ [] → IsWoken waits q v (with_state (with_read q true) v)
  woken_none empty = record {
    wakes = λ p next some off idle few.
        let above = (waiting v marks waits awake p q next some off idle).full in
        let none : band_count v.arena.store (rank_of v.arena.store (get_or (messages_on v p) 0 [])) (messages_on v q) ≡ 0 = ap (band_count v.arena.store (rank_of v.arena.store (get_or (messages_on v p) 0 []))) empty in
        absurd (omega (arith, above, none));
    alone = λ p other. refl;
  }

  woken_first : (ms : List Message) → messages_on v q ≡ ms → IsWoken waits q v (value_after v (get_first q ms v))
  woken_first [] none = woken_none none
  woken_first (m ∷ ms) some = woken_some m ms

  -- a queue that does not exist has none behind it
  woken_nowhere : has_queue v q ≡ false → IsWoken waits q v v
  woken_nowhere none = record {
    wakes = λ p next some off idle few. absurd (false≢true (sym none ∙ lt-ltb q (length v.queues.specs) (hop_ahead v.queues.specs lawful p q next).there));
    alone = λ p other. refl;
  }

  woken_if : (there : Bool) → has_queue v q ≡ there → IsWoken waits q v (value_after v (if there then get_first q (messages_on v q) v else Err NoSuchQueue))
  woken_if true is = woken_first (messages_on v q) refl
  woken_if false is = woken_nowhere is

  pub woken_by : next_of v.queues.specs q ≡ None → IsWoken waits q v (value_after v (take q v))
  woken_by last =
      subst (λ (g : Given QueuedBlocks (Option ℕ)). IsWoken waits q v (value_after v g)) (sym (cond-false (is_some (next_of v.queues.specs q)) (Err NoSuchQueue) (getq q v) (ap is_some last)))
      (woken_if (has_queue v q) refl)
