-- Queues that wait for blocks are woken when their wait is over. What that leaves, and what the calls that may free blocks do.
use Rattle.std.proofs.Common.{◌≡◌, ◌≢◌, ◌⊎◌, ℕ, zero, suc, ◌+◌, ◌<◌, ◌≤◌, inl, inr, Bool, true, false, ◌||◌, List, [], ◌∷◌, length, map, Option, Some, None, refl, sym, ap, ◌∙◌, subst, arith, if◌then◌else◌}
use Rattle.std.specs.Prelude.{is_some}
use Rattle.std.proofs.lemmas.Bool.{cases_eq, cases_lt, false≢true, or_parts}
use Rattle.std.proofs.lemmas.List.{get_or_past, length-map}
use Rattle.std.proofs.lemmas.Option.{none-some, same_Some}
use Rattle.strm_links.specs.Rows as rows
use Rattle.strm_mblk.specs.Arena.{Arena}
use Rattle.strm_pool.specs.PoolValue.{PoolValue, queued_blocks_of}
use Rattle.strm_queue.specs.declared.queue_spec.QueueSpec.{QueueSpec}
use Rattle.strm_queue.specs.Flow.{QueueState, enabled_where, flags_at, spec_at}
use Rattle.strm_scheduler.specs.declared.need.Need.{Need}
use Rattle.strm_scheduler.specs.Laws.{AreKept, AreKeptAwake, IsAwakeOrShort, KeepsQueued, is_awake}
use Rattle.strm_scheduler.specs.Needs.{are_free}
use Rattle.strm_scheduler.specs.Sides.{AreSides, KeepsOrder, NoneWaits, SidesValue, need_at, next_of, side_of}
use Rattle.strm_scheduler.specs.Waits.{IsReadyWoken, ThenWakes, is_over, unless_over, with_all_woken, with_queue_woken, with_queues_woken, with_ready_woken, with_woken}
use Rattle.strm_scheduler.proofs.Delivering.{AreAwakeUnlessShort, other_enabled}
use Rattle.strm_scheduler.proofs.Keeping.{Grows, awake_grown, awake_on_run, enabled_on, enabled_where_grows, grows_same}
use Rattle.strm_scheduler.proofs.Unchanged.{awake_same}

grows_joined : (s t u : QueueState) → Grows s t → Grows t u → Grows s u
grows_joined s t u one two = record {
  alone = two.alone ∙ (λ i. record (one.alone i) { run = u.run });
  more = λ q is. two.more q (one.more q is);
}

-- ---- the table

-- a queue that waits has an entry
pub entry_within : (waits : List (Option Need)) (q : ℕ) → is_some (need_at waits q) ≡ true → q < length waits
entry_within waits q some =
    elim (cases_lt q (length waits)) [
      | inl below ↦ below
      | inr past ↦ absurd (false≢true (sym (ap is_some (get_or_past waits q None past)) ∙ some))
    ]

module _ (all : Bool) (a : Arena) where
  -- what is left of an entry
  pub entry_left : (waits : List (Option Need)) (q : ℕ) → need_at (map (unless_over all a) waits) q ≡ unless_over all a (need_at waits q)
  entry_left [] q = refl
  entry_left (o ∷ waits) zero = refl
  entry_left (o ∷ waits) (suc q) = entry_left waits q

  left_not_over : (over : Bool) (need wanted : Need) → (all || are_free need a) ≡ over → (let o : Option Need = if over then None else Some need in o ≡ Some wanted) → are_free wanted a ≡ false
  left_not_over true need wanted is some = absurd (none-some wanted some)
  left_not_over false need wanted is some = sym (ap (λ n. are_free n a) (same_Some need wanted some)) ∙ (or_parts all (are_free need a) is).1

  -- what a queue waits for still is not free
  pub left_short : (o : Option Need) (wanted : Need) → unless_over all a o ≡ Some wanted → are_free wanted a ≡ false
  left_short None wanted some = absurd (none-some wanted some)
  left_short (Some need) wanted some = left_not_over (all || are_free need a) need wanted refl some

  -- where no queue waits, none is woken
  pub none_left : (waits : List (Option Need)) → NoneWaits waits → map (unless_over all a) waits ≡ waits
  none_left [] none = refl
  none_left (o ∷ waits) none = λ i. (ap (unless_over all a) (none 0) ∙ sym (none 0)) i ∷ none_left waits (λ q. none (suc q)) i

pub none_woken : (all : Bool) (waits : List (Option Need)) (v : PoolValue) → NoneWaits waits → (k : ℕ) → with_queues_woken all waits k v ≡ v
none_woken all waits v none zero = refl
none_woken all waits v none (suc k) =
    ap (λ o. with_queue_woken (is_over all v.arena o) k (with_queues_woken all waits k v)) (none k) ∙ none_woken all waits v none k

all_over : (a : Arena) (o : Option Need) → unless_over true a o ≡ None
all_over a None = refl
all_over a (Some need) = refl

-- a table with the same entries
pub same_table : (xs ys : List (Option Need)) → length xs ≡ length ys → ((q : ℕ) → need_at xs q ≡ need_at ys q) → xs ≡ ys
same_table [] [] long same = refl
same_table [] (y ∷ ys) long same = absurd (omega (arith, long))
same_table (x ∷ xs) [] long same = absurd (omega (arith, long))
same_table (x ∷ xs) (y ∷ ys) long same = λ i. same 0 i ∷ same_table xs ys (omega (arith, long)) (λ q. same (suc q)) i

-- the entries below this number are what is left of them, and the others are as they were
pub record AreWokenBelow (all : Bool) (a : Arena) (k : ℕ) (old new : List (Option Need)) : Type 0 where
  pub done : (q : ℕ) → q < k → need_at new q ≡ unless_over all a (need_at old q)
  pub rest : (q : ℕ) → k ≤ q → need_at new q ≡ need_at old q

pub below_none : (all : Bool) (a : Arena) (waits : List (Option Need)) → AreWokenBelow all a 0 waits waits
below_none all a waits = record { done = λ q below. absurd (omega (arith, below)); rest = λ q past. refl }

-- by its place: the last one, or before it
pub last_or_before : (q k : ℕ) → q < k + 1 → (q ≡ k) ⊎ ((q ≢ k) × (q < k))
last_or_before q k below =
    elim (cases_lt q k) [
      | inl less ↦ inr ((λ same. omega (arith, less, same)), less)
      | inr past ↦ inl (omega (arith, below, past))
    ]

module _ (all : Bool) (a : Arena) (k : ℕ) (old now new : List (Option Need)) (before : AreWokenBelow all a k old now)
    (here : need_at new k ≡ unless_over all a (need_at now k)) (others : (q : ℕ) → q ≢ k → need_at new q ≡ need_at now q) where
  -- one more entry is what is left of it
  pub below_more : AreWokenBelow all a (k + 1) old new
  below_more = record {
    done = λ q below.
        elim (last_or_before q k below) [
          | inl same ↦
              subst (λ j. need_at new j ≡ unless_over all a (need_at old j)) (sym same) (here ∙ ap (unless_over all a) (before.rest k (omega arith)))
          | inr less ↦ others q less.0 ∙ before.done q less.1
        ];
    rest = λ q past. others q (λ same. omega (arith, past, same)) ∙ before.rest q (omega (arith, past));
  }

  -- if it waits no longer, and no queue before it does, none up to it does
  pub none_more : (any here_waits any_then : Bool) → here_waits ≡ is_some (need_at new k) → any_then ≡ (any || here_waits) → (any ≡ false → (q : ℕ) → q < k → need_at now q ≡ None)
      → any_then ≡ false → (q : ℕ) → q < k + 1 → need_at new q ≡ None
  none_more any here_waits any_then left is none off q below =
      let neither = or_parts any here_waits (sym is ∙ off) in
      elim (last_or_before q k below) [
        | inl same ↦ subst (λ j. need_at new j ≡ None) (sym same) (none_of (need_at new k) (sym left ∙ neither.1))
        | inr less ↦ others q less.0 ∙ none neither.0 q less.1
      ]
    where
      none_of : (o : Option Need) → is_some o ≡ false → o ≡ None
      none_of None is = refl
      none_of (Some need) is = absurd (false≢true (sym is))

-- in the end all entries are
pub below_all : (all : Bool) (a : Arena) (k : ℕ) (old new : List (Option Need)) → AreWokenBelow all a k old new → length new ≡ length old → length old ≤ k → new ≡ map (unless_over all a) old
below_all all a k old new before long past = same_table new (map (unless_over all a) old) (long ∙ sym (length-map old (unless_over all a))) each
  where
    each : (q : ℕ) → need_at new q ≡ need_at (map (unless_over all a) old) q
    each q =
        elim (cases_lt q k) [
          | inl below ↦ before.done q below ∙ sym (entry_left all a old q)
          | inr out ↦
              get_or_past new q None (omega (arith, out, past, long))
              ∙ sym (get_or_past (map (unless_over all a) old) q None (omega (arith, out, past, length-map old (unless_over all a))))
        ]

-- no queue waits
pub none_below : (k : ℕ) (waits : List (Option Need)) → length waits ≤ k → ((q : ℕ) → q < k → need_at waits q ≡ None) → NoneWaits waits
none_below k waits past none q =
    elim (cases_lt q k) [
      | inl below ↦ none q below
      | inr out ↦ get_or_past waits q None (omega (arith, out, past))
    ]

-- ---- the queues

module _ (all : Bool) (waits : List (Option Need)) (v : PoolValue) where
  pub woken_arena : (k : ℕ) → (with_queues_woken all waits k v).arena ≡ v.arena
  woken_arena zero = refl
  woken_arena (suc k) = woken_arena k

  pub woken_wishes : (k : ℕ) → (with_queues_woken all waits k v).wishes ≡ v.wishes
  woken_wishes zero = refl
  woken_wishes (suc k) = woken_wishes k

  pub woken_grows : (k : ℕ) → Grows v.queues (with_queues_woken all waits k v).queues
  woken_grows zero = grows_same v.queues
  woken_grows (suc k) =
      let before : PoolValue = with_queues_woken all waits k v in
      let so : Bool = is_over all v.arena (need_at waits k) in
      grows_joined v.queues before.queues (enabled_where so k before.queues) (woken_grows k) (enabled_where_grows so k before.queues)

  -- the last one
  woken_last : (k : ℕ) → is_over all v.arena (need_at waits k) ≡ true → (spec_at v.queues.specs k).service ≡ true → rows.has k (with_queues_woken all waits (suc k) v).queues.run ≡ true
  woken_last k over serves =
      let before : PoolValue = with_queues_woken all waits k v in
      ap (λ so. rows.has k (enabled_where so k before.queues).run) over
      ∙ enabled_on k before.queues (ap (λ (s : QueueState). (spec_at s.specs k).service) (woken_grows k).alone ∙ serves)

  -- a queue whose wait is over is on the run list then
  pub woken_on : (k q : ℕ) → q < k → is_over all v.arena (need_at waits q) ≡ true → (spec_at v.queues.specs q).service ≡ true → rows.has q (with_queues_woken all waits k v).queues.run ≡ true
  woken_on zero q below over serves = absurd (omega (arith, below))
  woken_on (suc k) q below over serves =
      let before : PoolValue = with_queues_woken all waits k v in
      let so : Bool = is_over all v.arena (need_at waits k) in
      elim (cases_lt q k) [
        | inl less ↦ (enabled_where_grows so k before.queues).more q (woken_on k q less over serves)
        | inr past ↦
            let same : q ≡ k = omega (arith, below, past) in
            subst (λ j. rows.has j (with_queues_woken all waits (suc k) v).queues.run ≡ true) (sym same)
            (woken_last k (ap (λ j. is_over all v.arena (need_at waits j)) (sym same) ∙ over) (ap (λ j. (spec_at v.queues.specs j).service) (sym same) ∙ serves))
      ]

-- a queue whose wait is not over is on the run list only if it was before
module _ (all : Bool) (waits : List (Option Need)) (v : PoolValue) (q : ℕ) (over_not : is_over all v.arena (need_at waits q) ≡ false) where
  woken_other : (so : Bool) (k : ℕ) (s : QueueState) → k ≢ q → rows.has q (enabled_where so k s).run ≡ rows.has q s.run
  woken_other true k s other = other_enabled q k s other
  woken_other false k s other = refl

  pub woken_off : (k : ℕ) → rows.has q (with_queues_woken all waits k v).queues.run ≡ rows.has q v.queues.run
  woken_off zero = refl
  woken_off (suc k) =
      let before : PoolValue = with_queues_woken all waits k v in
      elim (cases_eq k q) [
        | inl same ↦ ap (λ so. rows.has q (enabled_where so k before.queues).run) (ap (λ j. is_over all v.arena (need_at waits j)) same ∙ over_not) ∙ woken_off k
        | inr other ↦ woken_other (is_over all v.arena (need_at waits k)) k before.queues other ∙ woken_off k
      ]

-- ---- one more queue is woken

module _ (all : Bool) (v x : PoolValue) (k : ℕ) (old now : List (Option Need)) (below : AreWokenBelow all v.arena k old now) (is : x ≡ with_queues_woken all old k v) where
  arena_then : x.arena ≡ v.arena
  arena_then = ap (λ (p : PoolValue). p.arena) is ∙ woken_arena all old v k

  pub more_here : (o : Option Need) → o ≡ unless_over all x.arena (need_at now k) → o ≡ unless_over all v.arena (need_at now k)
  more_here o here = here ∙ ap (λ a. unless_over all a (need_at now k)) arena_then

  pub more_woken : (y : PoolValue) → y ≡ with_queue_woken (is_over all x.arena (need_at now k)) k x → y ≡ with_queues_woken all old (k + 1) v
  more_woken y after =
      let next : k + 1 ≡ suc k = omega arith in
      after
      ∙ (λ i. with_queue_woken (is_over all (arena_then i) (below.rest k (omega arith) i)) k (is i))
      ∙ sym (ap (λ n. with_queues_woken all old n v) next)

-- ---- all queues are awake, or wait still

module _ (all : Bool) (v : PoolValue) (waits : List (Option Need)) (sides : AreSides v.queues.specs)
    (kept : (q n : ℕ) → next_of v.queues.specs q ≡ Some n → IsAwakeOrShort (record { pool = v; waits = waits }) q n) where
  abbrev woken : SidesValue
  woken = with_woken all (record { pool = v; waits = waits })

  grows : Grows v.queues woken.pool.queues
  grows = woken_grows all waits v (length waits)

  arena_is : woken.pool.arena ≡ v.arena
  arena_is = woken_arena all waits v (length waits)

  woken_specs : woken.pool.queues.specs ≡ v.queues.specs
  woken_specs = ap (λ (s : QueueState). s.specs) grows.alone

  awake_still : (q n : ℕ) → is_awake (queued_blocks_of v) q n ≡ true → is_awake (queued_blocks_of woken.pool) q n ≡ true
  awake_still q n awake =
      ap (λ (a : Arena). is_awake (record { queues = woken.pool.queues; arena = a }) q n) arena_is ∙ awake_grown (queued_blocks_of v) woken.pool.queues grows q n awake

  off_still : (q : ℕ) → (flags_at woken.pool.queues q).noenable ≡ (flags_at v.queues q).noenable
  off_still q = ap (λ (s : QueueState). (flags_at s q).noenable) grows.alone

  -- by whether its wait is over
  waited : (q n : ℕ) → next_of v.queues.specs q ≡ Some n → (flags_at v.queues q).noenable ≡ false → is_some (need_at waits q) ≡ true → (over : Bool) → is_over all v.arena (need_at waits q) ≡ over
      → IsAwakeOrShort woken q n
  waited q n next off some true over =
      inl (awake_on_run (queued_blocks_of woken.pool) q n (off_still q ∙ off) (woken_on all waits v (length waits) q (entry_within waits q some) over (sides q ∙ ap is_some next)))
  waited q n next off some false over =
      inr (
        off_still q ∙ off,
        ap is_some (entry_left all v.arena waits q ∙ ap (λ (b : Bool). (let o : Option Need = if b then None else need_at waits q in o)) over) ∙ some,
      )

  pub woken_kept : AreKept woken
  woken_kept = record {
    sides = subst AreSides (sym woken_specs) sides;
    awake = λ q n is.
        let next : next_of v.queues.specs q ≡ Some n = sym (ap (λ (s : List QueueSpec). next_of s q) woken_specs) ∙ is in
        elim (kept q n next) [
          | inl awake ↦ inl (awake_still q n awake)
          | inr short ↦ waited q n next short.0 short.1 (is_over all v.arena (need_at waits q)) refl
        ];
    short = λ q need is. ap (are_free need) arena_is ∙ left_short all v.arena (need_at waits q) need (sym (entry_left all v.arena waits q) ∙ is);
  }

-- where no queue waits, all are awake
pub none_short : (v : SidesValue) → NoneWaits v.waits → AreKept v → AreKeptAwake v.pool
none_short v none kept = record {
  sides = kept.sides;
  awake = λ q n next.
      elim (kept.awake q n next) [
        | inl awake ↦ awake
        | inr short ↦ absurd (false≢true (sym (ap is_some (none q)) ∙ short.1))
      ];
}

pub awake_kept : (v : PoolValue) (waits : List (Option Need)) → NoneWaits waits → AreKeptAwake v → AreKept (record { pool = v; waits = waits })
awake_kept v waits none kept = record {
  sides = kept.sides;
  awake = λ q n next. inl (kept.awake q n next);
  short = λ q need is. absurd (none-some need (sym (none q) ∙ is));
}

-- a call left the pool x: exactly the queues are woken whose blocks are free
module _ (v x : PoolValue) (waits : List (Option Need)) (keeps : KeepsQueued v x) (sides : AreSides v.queues.specs) (q n : ℕ) (next : next_of v.queues.specs q ≡ Some n) where
  serves_then : (spec_at x.queues.specs q).service ≡ true
  serves_then = ap (λ (s : QueueState). (spec_at s.specs q).service) keeps.queues ∙ sides q ∙ ap is_some next

  never_free : (o : Option Need) → ((need : Need) → o ≡ Some need → are_free need x.arena ≡ false) → is_over false x.arena o ≡ false
  never_free None none = refl
  never_free (Some need) none = none need refl

  pub ready_woken : IsReadyWoken q x waits (with_ready_woken (record { pool = x; waits = waits }))
  ready_woken = record {
    wakes = λ need is free.
        let over : is_over false x.arena (need_at waits q) ≡ true = ap (is_over false x.arena) is ∙ free in (
          woken_on false waits x (length waits) q (entry_within waits q (ap is_some is)) over serves_then,
          entry_left false x.arena waits q ∙ ap (λ (b : Bool). (let o : Option Need = if b then None else need_at waits q in o)) over,
        );
    alone = λ none.
        let over_not = never_free (need_at waits q) none in (
          woken_off false waits x q over_not (length waits),
          entry_left false x.arena waits q ∙ ap (λ (b : Bool). (let o : Option Need = if b then None else need_at waits q in o)) over_not,
        );
  }

-- ---- for the calls

-- once all queues that wait are enabled, all are awake
module _ (v : PoolValue) (waits : List (Option Need)) (kept : AreKept (record { pool = v; waits = waits })) where
  all_none : NoneWaits (with_all_woken (record { pool = v; waits = waits })).waits
  all_none q = entry_left true v.arena waits q ∙ all_over v.arena (need_at waits q)

  module _ (x : PoolValue) (pool : x ≡ with_queues_woken true waits (length waits) v) where
    pub begun_awake : AreKeptAwake x
    begun_awake = subst AreKeptAwake (sym pool) (none_short (with_all_woken (record { pool = v; waits = waits })) all_none (woken_kept true v waits kept.sides kept.awake))

    -- what the run keeps is as it was before
    pub begun_order : (w : PoolValue) → KeepsOrder x w → KeepsOrder v w
    begun_order w order end rank last there =
        let arena : x.arena ≡ v.arena = ap (λ (p : PoolValue). p.arena) pool ∙ woken_arena true waits v (length waits) in
        let specs : x.queues.specs ≡ v.queues.specs = ap (λ (p : PoolValue). p.queues.specs) pool ∙ ap (λ (s : QueueState). s.specs) (woken_grows true waits v (length waits)).alone in
        subst (λ (s : List QueueSpec). next_of s end ≡ None → end < length s → side_of s w.arena rank end ≡ side_of s v.arena rank end) specs
        (subst (λ (a : Arena). next_of x.queues.specs end ≡ None → end < length x.queues.specs → side_of x.queues.specs w.arena rank end ≡ side_of x.queues.specs a rank end) arena (order end rank)) last there

    pub begun_wishes : x.wishes ≡ v.wishes
    begun_wishes = ap (λ (p : PoolValue). p.wishes) pool ∙ woken_wishes true waits v (length waits)

  pub begun_none : (left : List (Option Need)) → left ≡ map (unless_over true v.arena) waits → NoneWaits left
  begun_none left is = subst NoneWaits (sym is) all_none

-- a call left the queues
queued_short : (v x : PoolValue) (waits : List (Option Need)) → KeepsQueued v x → AreKept (record { pool = v; waits = waits }) → (q n : ℕ) → next_of x.queues.specs q ≡ Some n
    → IsAwakeOrShort (record { pool = x; waits = waits }) q n
queued_short v x waits keeps kept q n is =
    elim (kept.awake q n (ap (λ (s : QueueState). next_of s.specs q) (sym keeps.queues) ∙ is)) [
      | inl awake ↦ inl (awake_same v x keeps q n ∙ awake)
      | inr short ↦ inr (ap (λ (s : QueueState). (flags_at s q).noenable) keeps.queues ∙ short.0, short.1)
    ]

-- then the queues were woken whose blocks are free
changed_kept : (v x : PoolValue) (waits : List (Option Need)) → KeepsQueued v x → AreKept (record { pool = v; waits = waits }) → AreKept (with_ready_woken (record { pool = x; waits = waits }))
changed_kept v x waits keeps kept =
    woken_kept false x waits (subst (λ (s : QueueState). AreSides s.specs) (sym keeps.queues) kept.sides) (queued_short v x waits keeps kept)

pub awake_unless_short : (v : PoolValue) (waits : List (Option Need)) → AreKept (record { pool = v; waits = waits }) → AreAwakeUnlessShort waits (queued_blocks_of v)
awake_unless_short v waits kept q n next none =
    elim (kept.awake q n next) [
      | inl awake ↦ awake
      | inr short ↦ absurd (false≢true (sym (ap is_some none) ∙ short.1))
    ]

-- Of sides with the pool v and these waits, a call left the pool x. Then queues were woken: the pool is w, and they wait for these.
module _ (v x w : PoolValue) (waits left : List (Option Need)) (pool : w ≡ with_queues_woken false waits (length waits) x) (rest : left ≡ map (unless_over false x.arena) waits) where
  woken_is : record { pool = w; waits = left } ≡ with_ready_woken (record { pool = x; waits = waits })
  woken_is = λ i. record { pool = pool i; waits = rest i }

  pub woken_after : KeepsQueued v x → AreKept (record { pool = v; waits = waits }) → AreKept (record { pool = w; waits = left })
  woken_after keeps kept = subst AreKept (sym woken_is) (changed_kept v x waits keeps kept)

-- what the call did is said of the sides as they were
pub wakes_after : (does : PoolValue → PoolValue → Type 0) (v x w : PoolValue) (waits left : List (Option Need)) → w ≡ with_queues_woken false waits (length waits) x → left ≡ map (unless_over false x.arena) waits
    → does v x → (old : SidesValue) → record { pool = v; waits = waits } ≡ old → ThenWakes (does old.pool) old (record { pool = w; waits = left })
wakes_after does v x w waits left pool rest done old is =
    subst (λ (o : SidesValue). ThenWakes (does o.pool) o (record { pool = w; waits = left })) is (x, done, woken_is v x w waits left pool rest)

-- a call left the queues, and freed no block
pub held_kept : (v x : PoolValue) (waits : List (Option Need)) → KeepsQueued v x → ((need : Need) → are_free need x.arena ≡ are_free need v.arena) → AreKept (record { pool = v; waits = waits }) → AreKept (record { pool = x; waits = waits })
held_kept v x waits keeps free kept = record {
  sides = subst (λ (s : QueueState). AreSides s.specs) (sym keeps.queues) kept.sides;
  awake = queued_short v x waits keeps kept;
  short = λ q need is. free need ∙ kept.short q need is;
}
