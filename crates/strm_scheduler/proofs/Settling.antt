-- Settling a queue keeps all queues awake: where it clears a wanted mark, it enables the queue behind.
use Rattle.std.proofs.Common.{◌≡◌, ℕ, zero, suc, ◌<◌, inl, inr, Bool, true, false, not, ◌&&◌, List, [], ◌∷◌, length, get_or, set, Some, refl, sym, ap, ◌∙◌, subst, arith, get_or-set_other}
use Rattle.std.specs.List.{list_any}
use Rattle.std.proofs.lemmas.Bool.{and_from, cases_eq, cases_lt, false_from_ne_true, false≢true, not_from_false}
use Rattle.std.proofs.lemmas.List.Folds.{list_any_at}
use Rattle.strm_queue.specs.Flow.{Flags, QueueState, every_band, flags_at, has_band, is_relieved, lowat_of, opening_flags, still_wanted, with_flags}
use Rattle.strm_queue.specs.Limits.{bands}
use Rattle.strm_queue.specs.QueueCalls.{count_on, flags_left, flags_of, has_relieved, waker_enabled_where, with_queue_settled}
use Rattle.strm_queue.specs.QueuedBlocks.{QueuedBlocks}
use Rattle.strm_queue.specs.QueueSpecs.{are_lawful}
use Rattle.strm_queue.proofs.bands.Bands.{get_or-every_band, has_band_where, length-bands_where, length_every_band, unmarked_past}
use Rattle.strm_scheduler.specs.Laws.{is_awake}
use Rattle.strm_scheduler.specs.Sides.{AreSides, next_of}
use Rattle.strm_scheduler.proofs.Hops.{hop_serves, waker_is}
use Rattle.strm_scheduler.proofs.Keeping.{MoreWanted, SameOff, SameRead, awake_grown, awake_on_run, enabling_on, flags_related, kept, woken_grows, woken_on}

-- each queue has a wanted mark for each band
abbrev pub AreBanded : QueuedBlocks → Type 0
AreBanded v = (q : ℕ) → length (flags_of v q).wanted ≡ bands

-- ---- wanted bands

-- a wanted band is a band
pub wanted_below : (w : List Bool) → length w ≡ bands → (band : ℕ) → has_band w band ≡ true → band < bands
wanted_below w long band is =
    elim (cases_lt band bands) [
      | inl below ↦ below
      | inr past ↦ absurd (false≢true (sym (unmarked_past w (long ∙ sym length_every_band) band past) ∙ is))
    ]

module _ (w : List Bool) (counts lowat : ℕ → ℕ) where
  -- if no wanted band is relieved, each one is not
  none_relieved : list_any (is_relieved w counts lowat) every_band ≡ false → (band : ℕ) → band < bands → is_relieved w counts lowat band ≡ false
  none_relieved none band below =
      false_from_ne_true (is_relieved w counts lowat band) (λ relieved.
      let there : band < length every_band = omega (arith, below, length_every_band) in
      false≢true (sym none ∙ list_any_at (is_relieved w counts lowat) every_band band 0 there (ap (is_relieved w counts lowat) (get_or-every_band band below) ∙ relieved)))

  -- then all stay wanted
  still_all : length w ≡ bands → list_any (is_relieved w counts lowat) every_band ≡ false → (band : ℕ) → has_band w band ≡ true → has_band (still_wanted w counts lowat) band ≡ true
  still_all long none band is =
      let below = wanted_below w long band is in
      has_band_where (λ b. has_band w b && not (is_relieved w counts lowat b)) band below
      ∙ and_from (has_band w band) (not (is_relieved w counts lowat band)) is (not_from_false (is_relieved w counts lowat band) (none_relieved none band below))

-- ---- settling

module _ (v : QueuedBlocks) (lawful : are_lawful v.queues.specs ≡ true) (sides : AreSides v.queues.specs) (banded : AreBanded v) (c : ℕ) where
  -- the queues without the wanted marks of bands that have drained
  abbrev left : QueueState
  left = with_flags c (flags_left v c) v.queues

  abbrev marked : QueuedBlocks
  marked = record v { queues = left }

  off_left : (q : ℕ) → (flags_at left q).noenable ≡ (flags_of v q).noenable
  off_left q = flags_related SameOff (λ f. refl) v.queues.flags c (flags_left v c) refl q

  read_left : (q : ℕ) → (flags_at left q).read ≡ (flags_of v q).read
  read_left q = flags_related SameRead (λ f. refl) v.queues.flags c (flags_left v c) refl q

  -- where queue n keeps its wanted marks, the queue behind stays awake
  marks_kept : (q n : ℕ) → MoreWanted (flags_of v n) (flags_at left n) → is_awake v q n ≡ true → is_awake marked q n ≡ true
  marks_kept q n more =
      kept q n v marked (record { off = off_left q; read = read_left q; wanted = more; run = λ on. on; messages = refl; store = refl })

  -- where it does not, the queue behind is enabled
  settled_here : (so : Bool) → has_relieved v c ≡ so → (q : ℕ) → next_of v.queues.specs q ≡ Some c → is_awake v q c ≡ true
      → is_awake (record v { queues = waker_enabled_where so c left }) q c ≡ true
  settled_here true some q next awake =
      let grows = woken_grows true c left in
      let off = ap (λ (s : QueueState). (flags_at s q).noenable) grows.alone ∙ off_left q ∙ enabling_on v q c awake in
      awake_on_run (record v { queues = waker_enabled_where true c left }) q c off
      (woken_on c q left (waker_is v.queues.specs lawful q c next sides) (hop_serves v.queues.specs lawful q c next sides))
  settled_here false none q next awake =
      marks_kept q c
      (flags_related MoreWanted (λ f b is. is) v.queues.flags c (flags_left v c) (still_all (flags_of v c).wanted (count_on v c) (lowat_of v.queues c) (banded c) none) c)
      awake

  pub awake_settled : (q n : ℕ) → next_of v.queues.specs q ≡ Some n → is_awake v q n ≡ true → is_awake (with_queue_settled c v) q n ≡ true
  awake_settled q n next awake =
      elim (cases_eq n c) [
        | inl same ↦
            subst (λ k. is_awake (with_queue_settled c v) q k ≡ true) (sym same)
            (settled_here (has_relieved v c) refl q (next ∙ ap Some same) (subst (λ k. is_awake v q k ≡ true) same awake))
        | inr other ↦
            awake_grown marked (waker_enabled_where (has_relieved v c) c left) (woken_grows (has_relieved v c) c left) q n
            (marks_kept q n (λ band is. ap (λ (f : Flags). has_band f.wanted band) (get_or-set_other v.queues.flags c n (flags_left v c) opening_flags other) ∙ is) awake)
      ]

-- ---- what else it leaves

module _ (v : QueuedBlocks) (c : ℕ) where
  pub settled_specs : (with_queue_settled c v).queues.specs ≡ v.queues.specs
  settled_specs = ap (λ (s : QueueState). s.specs) (woken_grows (has_relieved v c) c (with_flags c (flags_left v c) v.queues)).alone

  pub settled_flags : (with_queue_settled c v).queues.flags ≡ set v.queues.flags c (flags_left v c)
  settled_flags = ap (λ (s : QueueState). s.flags) (woken_grows (has_relieved v c) c (with_flags c (flags_left v c) v.queues)).alone

-- ---- each queue keeps a mark for each band

-- what holds of the new flags and of all old ones holds of all
pub flags_all : (P : Flags → Type 0) (fs : List Flags) (c : ℕ) (f : Flags) → P f → ((q : ℕ) → P (get_or fs q opening_flags)) → (q : ℕ) → P (get_or (set fs c f) q opening_flags)
flags_all P [] c f here all q = all q
flags_all P (x ∷ fs) zero f here all zero = here
flags_all P (x ∷ fs) zero f here all (suc q) = all (suc q)
flags_all P (x ∷ fs) (suc c) f here all zero = all zero
flags_all P (x ∷ fs) (suc c) f here all (suc q) = flags_all P fs c f here (λ k. all (suc k)) q

pub banded_left : (v : QueuedBlocks) (c : ℕ) → length (flags_left v c).wanted ≡ bands
banded_left v c = length-bands_where _ ∙ length_every_band
