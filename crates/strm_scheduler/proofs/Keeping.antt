-- A queue stays awake where a call leaves its run list, flags and messages, or only adds to them, as enabling does.
use Rattle.std.proofs.Common.{◌≡◌, ℕ, Bool, true, false, not, ◌&&◌, ◌==◌, [], ◌∷◌, ◌++◌, Option, Some, None, refl, ap, ◌∙◌, if◌then◌else◌, ◌≢◌, zero, suc, ◌⊎◌, inl, inr, ◌||◌, List, get_or, set, get_or-set_other}
use Rattle.std.specs.Option.{option_map_or}
use Rattle.std.proofs.lemmas.Bool.{and_from, and_parts, eq-eqb, not-true, not_from_false, or_cases, or_left, or_right}
use Rattle.std.proofs.lemmas.List.Folds.{list_any-append}
use Rattle.strm_links.specs.Rows as rows
use Rattle.strm_queue.specs.Flow.{Flags, QueueState, enabled_where, flags_at, has_band, opening_flags, spec_at, waker, with_enabled, with_read, with_wanted}
use Rattle.strm_queue.specs.QueueCalls.{flags_of, messages_on, waker_enabled_where, with_state}
use Rattle.strm_data.specs.DataStore.{DataStore}
use Rattle.strm_mblk.specs.Arena.{Arena}
use Rattle.strm_mblk.specs.Block.{Message}
use Rattle.strm_queue.specs.Limits.{high_rank}
use Rattle.strm_queue.specs.QueuedBlocks.{QueuedBlocks}
use Rattle.strm_queue.specs.Rank.{rank_of}
use Rattle.strm_scheduler.specs.Laws.{is_awake, may_rest}

-- only the run list changes, and no queue leaves it
pub record Grows (s t : QueueState) : Type 0 where
  pub alone : t ≡ record s { run = t.run }
  pub more : (q : ℕ) → rows.has q s.run ≡ true → rows.has q t.run ≡ true

pub grows_same : (s : QueueState) → Grows s s
grows_same s = record { alone = refl; more = λ q is. is }

-- ---- one queue is enabled

appended : (q : ℕ) (s : QueueState) (so : Bool) → Grows s (if so then record s { run = s.run ++ q ∷ [] } else s)
appended q s true = record { alone = refl; more = λ r is. list_any-append (λ x. x == r) s.run (q ∷ []) ∙ or_left (rows.has r s.run) _ is }
appended q s false = grows_same s

pub enabled_grows : (q : ℕ) (s : QueueState) → Grows s (with_enabled q s)
enabled_grows q s = appended q s ((spec_at s.specs q).service && not (rows.has q s.run))

-- it is on the run list then, if it has a service procedure
pub enabled_on : (q : ℕ) (s : QueueState) → (spec_at s.specs q).service ≡ true → rows.has q (with_enabled q s).run ≡ true
enabled_on q s serves = on (spec_at s.specs q).service (rows.has q s.run) refl serves
  where
    on : (service here : Bool) → rows.has q s.run ≡ here → service ≡ true → (let t : QueueState = if service && not here then record s { run = s.run ++ q ∷ [] } else s in rows.has q t.run ≡ true)
    on true true is serves = is
    on true false is serves = list_any-append (λ x. x == q) s.run (q ∷ []) ∙ or_right (rows.has q s.run) _ (or_left (q == q) false (eq-eqb q q refl))
    on false here is serves = absurd (cc)

pub enabled_where_grows : (so : Bool) (q : ℕ) (s : QueueState) → Grows s (enabled_where so q s)
enabled_where_grows true q s = enabled_grows q s
enabled_where_grows false q s = grows_same s

-- ---- the waker of a queue is enabled

pub woken_grows : (so : Bool) (q : ℕ) (s : QueueState) → Grows s (waker_enabled_where so q s)
woken_grows true q s = by_waker (waker s.specs q)
  where
    by_waker : (o : Option ℕ) → Grows s (option_map_or (λ p. with_enabled p s) o s)
    by_waker None = grows_same s
    by_waker (Some p) = enabled_grows p s
woken_grows false q s = grows_same s

pub woken_on : (q p : ℕ) (s : QueueState) → waker s.specs q ≡ Some p → (spec_at s.specs p).service ≡ true → rows.has p (waker_enabled_where true q s).run ≡ true
woken_on q p s is serves = ap (λ (o : Option ℕ). rows.has p (option_map_or (λ r. with_enabled r s) o s).run) is ∙ enabled_on p s serves

-- ---- what keeps a queue awake

-- ---- resting

-- more wanted bands are no reason to wake
pub rest_grown : (s : DataStore) (read : Bool) (w x : List Bool) (ms : List Message) → ((band : ℕ) → has_band w band ≡ true → has_band x band ≡ true) → may_rest s read w ms ≡ true → may_rest s read x ms ≡ true
rest_grown s read w x [] more is = is
rest_grown s read w x (m ∷ ms) more is =
    let parts = and_parts (not (rank_of s m == high_rank)) (has_band w (rank_of s m)) is in
    and_from (not (rank_of s m == high_rank)) (has_band x (rank_of s m)) parts.0 (more (rank_of s m) parts.1)

-- ---- the parts of `is_awake`

module _ (v : QueuedBlocks) (q n : ℕ) where
  abbrev rests : Bool
  rests = may_rest v.arena.store (flags_of v q).read (flags_of v n).wanted (messages_on v q)

  module _ (awake : is_awake v q n ≡ true) where
    pub enabling_on : (flags_of v q).noenable ≡ false
    enabling_on = not-true (flags_of v q).noenable (and_parts (not (flags_of v q).noenable) (rows.has q v.queues.run || rests) awake).0

    pub run_or_rest : (rows.has q v.queues.run ≡ true) ⊎ (may_rest v.arena.store (flags_of v q).read (flags_of v n).wanted (messages_on v q) ≡ true)
    run_or_rest = or_cases (rows.has q v.queues.run) rests (and_parts (not (flags_of v q).noenable) (rows.has q v.queues.run || rests) awake).1

  module _ (enabling : (flags_of v q).noenable ≡ false) where
    pub awake_on_run : rows.has q v.queues.run ≡ true → is_awake v q n ≡ true
    awake_on_run on = and_from (not (flags_of v q).noenable) (rows.has q v.queues.run || rests) (not_from_false (flags_of v q).noenable enabling) (or_left (rows.has q v.queues.run) rests on)

    pub awake_at_rest : may_rest v.arena.store (flags_of v q).read (flags_of v n).wanted (messages_on v q) ≡ true → is_awake v q n ≡ true
    awake_at_rest rest = and_from (not (flags_of v q).noenable) (rows.has q v.queues.run || rests) (not_from_false (flags_of v q).noenable enabling) (or_right (rows.has q v.queues.run) rests rest)

-- ---- what a call leaves

-- what keeps queue q awake, whose next is queue n
pub record Leaves (q n : ℕ) (v w : QueuedBlocks) : Type 0 where
  pub off : (flags_of w q).noenable ≡ (flags_of v q).noenable
  pub read : (flags_of w q).read ≡ (flags_of v q).read
  pub wanted : (band : ℕ) → has_band (flags_of v n).wanted band ≡ true → has_band (flags_of w n).wanted band ≡ true
  pub run : rows.has q v.queues.run ≡ true → rows.has q w.queues.run ≡ true
  pub messages : messages_on w q ≡ messages_on v q
  pub store : w.arena.store ≡ v.arena.store

pub kept : (q n : ℕ) (v w : QueuedBlocks) → Leaves q n v w → is_awake v q n ≡ true → is_awake w q n ≡ true
kept q n v w left awake =
    let enabling = left.off ∙ enabling_on v q n awake in
    elim (run_or_rest v q n awake) [
      | inl on ↦ awake_on_run w q n enabling (left.run on)
      | inr rest ↦
          awake_at_rest w q n enabling
          ((λ i. may_rest (left.store i) (left.read i) (flags_of w n).wanted (left.messages i))
          ∙ rest_grown v.arena.store (flags_of v q).read (flags_of v n).wanted (flags_of w n).wanted (messages_on v q) left.wanted rest)
    ]

-- the run list grows
pub awake_grown : (v : QueuedBlocks) (t : QueueState) → Grows v.queues t → (q n : ℕ) → is_awake v q n ≡ true → is_awake (record v { queues = t }) q n ≡ true
awake_grown v t grows q n =
    kept q n v (record v { queues = t })
    (record {
      off = ap (λ (x : QueueState). (flags_at x q).noenable) grows.alone;
      read = ap (λ (x : QueueState). (flags_at x q).read) grows.alone;
      wanted = λ band is. ap (λ (x : QueueState). has_band (flags_at x n).wanted band) grows.alone ∙ is;
      run = grows.more q;
      messages = refl;
      store = refl;
    })

-- another queue gets other messages
pub awake_shelved : (v : QueuedBlocks) (b : Arena) (c : ℕ) (ms : List Message) → b.store ≡ v.arena.store → b.shelves ≡ set v.arena.shelves c ms → (q n : ℕ) → q ≢ c
    → is_awake v q n ≡ true → is_awake (record v { arena = b }) q n ≡ true
awake_shelved v b c ms store shelves q n other =
    kept q n v (record v { arena = b })
    (record {
      off = refl;
      read = refl;
      wanted = λ band is. is;
      run = λ on. on;
      messages = ap (λ (ss : List (List Message)). get_or ss q []) shelves ∙ get_or-set_other v.arena.shelves c q ms [] other;
      store = store;
    })

-- ---- flags

-- what relates the old flags of a queue to its new ones, and any flags to themselves, relates those of each queue
pub flags_related : (R : Flags → Flags → Type 0) → ((f : Flags) → R f f) → (fs : List Flags) (c : ℕ) (f : Flags) → R (get_or fs c opening_flags) f → (q : ℕ)
    → R (get_or fs q opening_flags) (get_or (set fs c f) q opening_flags)
flags_related R same [] c f is q = same opening_flags
flags_related R same (x ∷ fs) zero f is zero = is
flags_related R same (x ∷ fs) zero f is (suc q) = same (get_or fs q opening_flags)
flags_related R same (x ∷ fs) (suc c) f is zero = same x
flags_related R same (x ∷ fs) (suc c) f is (suc q) = flags_related R same fs c f is q

-- a set with one more band
set_more : (w : List Bool) (i band : ℕ) → has_band w band ≡ true → has_band (set w i true) band ≡ true
set_more [] i band is = is
set_more (x ∷ w) zero zero is = refl
set_more (x ∷ w) zero (suc band) is = is
set_more (x ∷ w) (suc i) zero is = is
set_more (x ∷ w) (suc i) (suc band) is = set_more w i band is

-- the flags that keep a queue awake
abbrev pub SameOff : Flags → Flags → Type 0
SameOff f g = g.noenable ≡ f.noenable

abbrev pub SameRead : Flags → Flags → Type 0
SameRead f g = g.read ≡ f.read

abbrev pub MoreWanted : Flags → Flags → Type 0
MoreWanted f g = (band : ℕ) → has_band f.wanted band ≡ true → has_band g.wanted band ≡ true

-- a band is wanted
pub awake_wanted : (v : QueuedBlocks) (c band : ℕ) (q n : ℕ) → is_awake v q n ≡ true → is_awake (with_state (with_wanted c band) v) q n ≡ true
awake_wanted v c band q n =
    let old : Flags = flags_of v c in
    let new : Flags = record old { wanted = set old.wanted band true } in
    kept q n v (with_state (with_wanted c band) v)
    (record {
      off = flags_related SameOff (λ f. refl) v.queues.flags c new refl q;
      read = flags_related SameRead (λ f. refl) v.queues.flags c new refl q;
      wanted = flags_related MoreWanted (λ f b is. is) v.queues.flags c new (λ b is. set_more old.wanted band b is) n;
      run = λ on. on;
      messages = refl;
      store = refl;
    })

-- another queue gets or loses its want-to-read mark
pub awake_read : (v : QueuedBlocks) (c : ℕ) (read : Bool) (q n : ℕ) → q ≢ c → is_awake v q n ≡ true → is_awake (with_state (with_read c read) v) q n ≡ true
awake_read v c read q n other =
    let new : Flags = record (flags_of v c) { read = read } in
    kept q n v (with_state (with_read c read) v)
    (record {
      off = flags_related SameOff (λ f. refl) v.queues.flags c new refl q;
      read = ap (λ (f : Flags). f.read) (get_or-set_other v.queues.flags c q new opening_flags other);
      wanted = flags_related MoreWanted (λ f b is. is) v.queues.flags c new (λ b is. is) n;
      run = λ on. on;
      messages = refl;
      store = refl;
    })
