-- Each call that `Sides` offers keeps all queues awake.
use Rattle.std.proofs.Common.{◌≡◌, ℕ, ◌<◌, inl, inr, Bool, true, false, not, ◌&&◌, List, [], ◌∷◌, length, get_or, set, Some, refl, sym, ap, ◌∙◌, subst, arith, ◌≢◌, ◌≤◌, ◌||◌, ◌==◌, None, if◌then◌else◌, get_or-set_same}
use Rattle.std.specs.List.{list_any}
use Rattle.std.proofs.lemmas.Bool.{cases_eq, cond-true, false≢true, le-leb, ltb-false, or_left, or_parts}
use Rattle.strm_queue.specs.Flow.{Flags, QueueState, enabled_where, enables_put, flags_at, with_marks, with_wanted}
use Rattle.strm_queue.specs.Limits.{high_rank}
use Rattle.strm_queue.specs.QueueCalls.{ask_for_room, flags_of, get_first, is_full, messages_on, with_got, with_queue_settled, with_state}
use Rattle.strm_queue.specs.QueuedBlocks.{QueuedBlocks}
use Rattle.strm_queue.specs.QueueSpecs.{are_lawful}
use Rattle.strm_scheduler.specs.Laws.{is_awake, may_rest}
use Rattle.strm_scheduler.specs.Sides.{AreSides, next_of}
use Rattle.strm_scheduler.proofs.Hops.{hop_serves, hop_within}
use Rattle.strm_scheduler.proofs.Keeping.{awake_at_rest, awake_grown, awake_on_run, awake_read, awake_shelved, awake_wanted, enabled_on, enabled_where_grows, enabling_on, run_or_rest}
use Rattle.std.specs.Prelude.{nat_le, nat_lt}
use Rattle.std.proofs.lemmas.Option.{none-some}
use Rattle.strm_data.specs.DataStore.{DataStore}
use Rattle.strm_mblk.specs.Arena.{Arena}
use Rattle.strm_mblk.specs.Block.{Message}
use Rattle.strm_mblk.specs.Given.{value_after}
use Rattle.strm_queue.specs.Rank.{put_behind, rank_of}
use Rattle.strm_scheduler.proofs.Settling.{AreBanded, awake_settled}

-- ---- a message is put on a queue

-- a message that does not enable the queue goes behind its first message, or there is none and the queue has no want-to-read
-- mark
rest_put : (s : DataStore) (f : Flags) (r : ℕ) (x : Message) (wanted : List Bool) (ms : List Message) → f.noenable ≡ false → r ≡ rank_of s x → enables_put f r ≡ false
    → may_rest s f.read wanted ms ≡ true → may_rest s f.read wanted (put_behind (rank_of s) x ms) ≡ true
rest_put s f r x wanted ms enabling is none rest = by_messages ms rest
  where
    asked : not f.noenable && (f.read || nat_lt 0 r) ≡ false
    asked = (or_parts (r == high_rank) (not f.noenable && (f.read || nat_lt 0 r)) none).1

    neither : (f.read || nat_lt 0 r) ≡ false
    neither = sym (ap (λ off. not off && (f.read || nat_lt 0 r)) enabling) ∙ asked

    low : r ≡ 0
    low = let most : r ≤ 0 = ltb-false 0 r (or_parts f.read (nat_lt 0 r) neither).1 in omega arith

    by_messages : (ms : List Message) → may_rest s f.read wanted ms ≡ true → may_rest s f.read wanted (put_behind (rank_of s) x ms) ≡ true
    by_messages [] rest = absurd (false≢true (sym (or_parts f.read (nat_lt 0 r) neither).0 ∙ rest))
    by_messages (m ∷ ms) rest =
        let least : nat_le (rank_of s x) (rank_of s m) ≡ true = le-leb (rank_of s x) (rank_of s m) (omega (arith, is, low)) in
        ap (may_rest s f.read wanted) (cond-true (list_any (λ y. nat_le (rank_of s x) (rank_of s y)) (m ∷ ms)) (m ∷ put_behind (rank_of s) x ms) (x ∷ m ∷ ms) (or_left (nat_le (rank_of s x) (rank_of s m)) (list_any (λ y. nat_le (rank_of s x) (rank_of s y)) ms) least))
        ∙ rest

module _ (v : QueuedBlocks) (lawful : are_lawful v.queues.specs ≡ true) (sides : AreSides v.queues.specs) (c r : ℕ) (x : Message) (is : r ≡ rank_of v.arena.store x)
    (b : Arena) (store : b.store ≡ v.arena.store) (shelves : b.shelves ≡ set v.arena.shelves c (put_behind (rank_of v.arena.store) x (messages_on v c))) where
  -- the queues once the message is put
  abbrev put_on : Bool → QueuedBlocks
  put_on so = record v { queues = enabled_where so c v.queues; arena = b }

  module _ (n : ℕ) (next : next_of v.queues.specs c ≡ Some n) (within : c < length v.arena.shelves) where
    messages_then : get_or b.shelves c [] ≡ put_behind (rank_of v.arena.store) x (messages_on v c)
    messages_then = ap (λ (ss : List (List Message)). get_or ss c []) shelves ∙ get_or-set_same v.arena.shelves c _ [] within

    put_here : (so : Bool) → enables_put (flags_of v c) r ≡ so → is_awake v c n ≡ true → is_awake (put_on so) c n ≡ true
    put_here true so awake =
        let grows = enabled_where_grows true c v.queues in
        awake_on_run (put_on true) c n (ap (λ (s : QueueState). (flags_at s c).noenable) grows.alone ∙ enabling_on v c n awake) (enabled_on c v.queues (hop_serves v.queues.specs lawful c n next sides))
    put_here false so awake =
        elim (run_or_rest v c n awake) [
          | inl on ↦ awake_on_run (put_on false) c n (enabling_on v c n awake) on
          | inr rest ↦
              awake_at_rest (put_on false) c n (enabling_on v c n awake)
              ((λ i. may_rest (store i) (flags_of v c).read (flags_of v n).wanted (messages_then i))
              ∙ rest_put v.arena.store (flags_of v c) r x (flags_of v n).wanted (messages_on v c) (enabling_on v c n awake) is so rest)
        ]

  pub awake_put : length v.arena.shelves ≡ length v.queues.specs → (q n : ℕ) → next_of v.queues.specs q ≡ Some n → is_awake v q n ≡ true
      → is_awake (record v { queues = enabled_where (enables_put (flags_of v c) r) c v.queues; arena = b }) q n ≡ true
  awake_put shelved q n next awake =
      elim (cases_eq q c) [
        | inl same ↦
            let hop : next_of v.queues.specs c ≡ Some n = subst (λ k. next_of v.queues.specs k ≡ Some n) same next in
            subst (λ k. is_awake (put_on (enables_put (flags_of v c) r)) k n ≡ true) (sym same)
            (put_here n hop (omega (arith, shelved, hop_within v.queues.specs lawful c n hop)) (enables_put (flags_of v c) r) refl (subst (λ k. is_awake v k n ≡ true) same awake))
        | inr other ↦
            awake_grown (record v { arena = b }) (enabled_where (enables_put (flags_of v c) r) c v.queues) (enabled_where_grows (enables_put (flags_of v c) r) c v.queues) q n
            (awake_shelved v b c _ store shelves q n other awake)
      ]

-- ---- a message is taken off the last queue of a side

module _ (v : QueuedBlocks) (lawful : are_lawful v.queues.specs ≡ true) (sides : AreSides v.queues.specs) (banded : AreBanded v) (c : ℕ) where
  -- a queue that is not the last has another number
  not_last : next_of v.queues.specs c ≡ None → (q n : ℕ) → next_of v.queues.specs q ≡ Some n → q ≢ c
  not_last last q n next same = none-some n (sym last ∙ subst (λ k. next_of v.queues.specs k ≡ Some n) same next)

  pub awake_taken : next_of v.queues.specs c ≡ None → (ms : List Message) → (q n : ℕ) → next_of v.queues.specs q ≡ Some n → is_awake v q n ≡ true
      → is_awake (value_after v (get_first c ms v)) q n ≡ true
  awake_taken last [] q n next awake = awake_read v c true q n (not_last last q n next) awake
  awake_taken last (m ∷ ms) q n next awake =
      let got : QueuedBlocks = with_got c m ms v in
      awake_read (with_queue_settled c got) c false q n (not_last last q n next)
      (awake_settled got lawful sides banded c q n next (awake_shelved v got.arena c ms refl refl q n (not_last last q n next) awake))

  -- ---- water marks

  pub awake_marked : (band hiwat lowat : ℕ) → (q n : ℕ) → next_of v.queues.specs q ≡ Some n → is_awake v q n ≡ true
      → is_awake (with_queue_settled c (with_state (with_marks c band (record { hiwat = hiwat; lowat = lowat })) v)) q n ≡ true
  awake_marked band hiwat lowat q n next awake =
      awake_settled (with_state (with_marks c band (record { hiwat = hiwat; lowat = lowat })) v) lawful sides banded c q n next awake

-- ---- asking for room

pub awake_asked : (v : QueuedBlocks) (p band : ℕ) (q n : ℕ) → is_awake v q n ≡ true → is_awake (ask_for_room p band v).1 q n ≡ true
awake_asked v p band q n awake = by_room (is_full v p band)
  where
    by_room : (full : Bool) → (let asked : Bool × QueuedBlocks = if full then (false, with_state (λ s. with_wanted p band s) v) else (true, v) in is_awake asked.1 q n ≡ true)
    by_room true = awake_wanted v p band q n awake
    by_room false = awake
