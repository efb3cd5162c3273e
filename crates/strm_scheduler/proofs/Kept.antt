-- Each call that `Sides` offers keeps the laws of sides.
use Rattle.std.proofs.Common.{◌≡◌, ◌≢◌, ℕ, inl, inr, Bool, true, false, not, List, [], ◌∷◌, get_or, length, set, Option, Some, None, Ok, Err, refl, sym, ap, ◌∙◌, subst, if◌then◌else◌}
use Rattle.std.specs.Prelude.{Result, is_some, nat_le, nat_lt}
use Rattle.std.proofs.lemmas.Bool.{cases_eq, cond-true, false≢true}
use Rattle.strm_data.specs.declared.refusal.Refusal.TheVariants.{BadMarks, NoSuchQueue}
use Rattle.strm_mblk.specs.declared.rejected.Rejected.{Rejected}
use Rattle.strm_mblk.specs.declared.token.TokenValue.{TokenValue}
use Rattle.strm_mblk.specs.Arena.{held_at, message_at, with_shelf, without_held}
use Rattle.strm_mblk.specs.Block.{Message}
use Rattle.strm_mblk.specs.Calls.{Puts}
use Rattle.strm_mblk.specs.Frame.{LeavesOthers}
use Rattle.strm_mblk.specs.Given.{Given, and_then, answer_of, or_rejected, value_after}
use Rattle.strm_pool.specs.Lawful.{IsLawful}
use Rattle.strm_pool.specs.PoolValue.{PoolValue, arena, on_queues, queued_blocks_of, with_queued}
use Rattle.strm_queue.specs.declared.queue_spec.QueueSpec.{QueueSpec}
use Rattle.strm_queue.specs.Flow.{Flags, QueueState, enabled_where, enables_put, enables_put_back, flags_at, opening_flags, spec_at, target, with_enabled, with_marks, with_wanted}
use Rattle.strm_queue.specs.QueueCalls.{ask_for_room, bcanput, flags_left, flags_of, get_first, getq, has_queue, is_full, message_put, messages_on, putbq, putq, qenable, rank_put, strqset, with_got, with_put, with_queue_settled, with_state}
use Rattle.strm_queue.specs.QueueLooks as looks
use Rattle.strm_queue.specs.QueuedBlocks.{QueuedBlocks}
use Rattle.strm_queue.specs.Rank.{put_ahead, put_behind, rank_of}
use Rattle.strm_queue.proofs.order.Order.{rank_of-queued}
use Rattle.strm_scheduler.specs.Laws.{AreKept, AreKeptAwake, hold, is_awake}
use Rattle.strm_scheduler.specs.declared.need.Need.{Need}
use Rattle.strm_scheduler.specs.Needs.{are_free}
use Rattle.strm_scheduler.specs.Sides.{AreSides, next_of}
use Rattle.strm_scheduler.specs.Steps.{with_queue_enabled}
use Rattle.strm_scheduler.proofs.Keeping.{SameOff, awake_grown, awake_on_run, awake_shelved, enabled_grows, enabled_on, enabled_where_grows, enabling_on, flags_related}
use Rattle.strm_scheduler.proofs.Calls.{awake_asked, awake_marked, awake_put, awake_taken}
use Rattle.strm_scheduler.proofs.Settling.{settled_flags, settled_specs}
use Rattle.strm_scheduler.proofs.PoolLaws.{banded_of}
use Rattle.strm_scheduler.proofs.Beginning.{okay}

-- ---- what keeps queues awake

-- Each queue that was awake is awake, and enabling of each is as before. The same blocks are free.
pub record KeepsAwake (v x : PoolValue) : Type 0 where
  pub specs : x.queues.specs ≡ v.queues.specs
  pub awake : (q n : ℕ) → next_of v.queues.specs q ≡ Some n → is_awake (queued_blocks_of v) q n ≡ true → is_awake (queued_blocks_of x) q n ≡ true
  pub off : (q : ℕ) → (flags_at x.queues q).noenable ≡ (flags_at v.queues q).noenable
  pub free : (need : Need) → are_free need x.arena ≡ are_free need v.arena

keeps_awake_same : (v : PoolValue) → KeepsAwake v v
keeps_awake_same v = record { specs = refl; awake = λ q n next awake. awake; off = λ q. refl; free = λ need. refl }

pub still_awake : (v x : PoolValue) → KeepsAwake v x → AreKeptAwake v → AreKeptAwake x
still_awake v x keeps kept = record {
  sides = subst AreSides (sym keeps.specs) kept.sides;
  awake = λ q n next.
      let next_then : next_of v.queues.specs q ≡ Some n = ap (λ (s : List QueueSpec). next_of s q) (sym keeps.specs) ∙ next in
      keeps.awake q n next_then (kept.awake q n next_then);
}

pub still_kept : (v x : PoolValue) (waits : List (Option Need)) → KeepsAwake v x → AreKept (record { pool = v; waits = waits }) → AreKept (record { pool = x; waits = waits })
still_kept v x waits keeps kept = record {
  sides = subst AreSides (sym keeps.specs) kept.sides;
  awake = λ q n next.
      let next_then : next_of v.queues.specs q ≡ Some n = ap (λ (s : List QueueSpec). next_of s q) (sym keeps.specs) ∙ next in
      elim (kept.awake q n next_then) [
        | inl awake ↦ inl (keeps.awake q n next_then awake)
        | inr waits ↦ inr (keeps.off q ∙ waits.0, waits.1)
      ];
  short = λ q need is. keeps.free need ∙ kept.short q need is;
}

module _ (v : PoolValue) (law : IsLawful v) (sides : AreSides v.queues.specs) where
  -- ---- put

  module _ (c h : ℕ) where
    put_kept : (there : Bool) → (let given : Given QueuedBlocks (Unit {0}) = if there then Ok (tt, with_state (λ s. enabled_where (enables_put (flags_of (queued_blocks_of v) c) (rank_put h (queued_blocks_of v))) c s) (with_put c h (put_behind (rank_of v.arena.store) (message_put h (queued_blocks_of v)) (messages_on (queued_blocks_of v) c)) (queued_blocks_of v))) else Err NoSuchQueue in KeepsAwake v (value_after v (on_queues v given)))
    put_kept true = record {
      specs = ap (λ (s : QueueState). s.specs) (enabled_where_grows (enables_put (flags_of (queued_blocks_of v) c) (rank_put h (queued_blocks_of v))) c v.queues).alone;
      awake = λ q n next.
          awake_put (queued_blocks_of v) law.lawful_queues sides c (rank_put h (queued_blocks_of v)) (message_put h (queued_blocks_of v)) (sym (rank_of-queued v.arena.store (message_at v.arena h)))
          (with_shelf c (put_behind (rank_of v.arena.store) (message_put h (queued_blocks_of v)) (messages_on (queued_blocks_of v) c)) (without_held h v.arena)) refl refl law.shelves q n next;
      off = λ q. ap (λ (s : QueueState). (flags_at s q).noenable) (enabled_where_grows (enables_put (flags_of (queued_blocks_of v) c) (rank_put h (queued_blocks_of v))) c v.queues).alone;
      free = λ need. refl;
    }
    put_kept false = keeps_awake_same v

    pub putq_kept : (w : PoolValue) → w ≡ value_after v (on_queues v (putq c h (queued_blocks_of v))) → KeepsAwake v w
    putq_kept w after = subst (λ (x : PoolValue). KeepsAwake v x) (sym after) (put_kept (has_queue (queued_blocks_of v) c))

  -- ---- taken off the last queue

  module _ (c : ℕ) where
    settled_off : (x : QueuedBlocks) (q : ℕ) → (flags_of (with_queue_settled c x) q).noenable ≡ (flags_of x q).noenable
    settled_off x q = ap (λ (fs : List Flags). (get_or fs q opening_flags).noenable) (settled_flags x c) ∙ flags_related SameOff (λ f. refl) x.queues.flags c (flags_left x c) refl q

    first_specs : (ms : List Message) → (value_after (queued_blocks_of v) (get_first c ms (queued_blocks_of v))).queues.specs ≡ v.queues.specs
    first_specs [] = refl
    first_specs (m ∷ ms) = settled_specs (with_got c m ms (queued_blocks_of v)) c

    first_given : (ms : List Message) → value_after v (on_queues v (get_first c ms (queued_blocks_of v))) ≡ with_queued v (value_after (queued_blocks_of v) (get_first c ms (queued_blocks_of v)))
    first_given [] = refl
    first_given (m ∷ ms) = refl

    first_off : (ms : List Message) (q : ℕ) → (flags_of (value_after (queued_blocks_of v) (get_first c ms (queued_blocks_of v))) q).noenable ≡ (flags_at v.queues q).noenable
    first_off [] q = flags_related SameOff (λ f. refl) v.queues.flags c (record (flags_at v.queues c) { read = true }) refl q
    first_off (m ∷ ms) q =
        let got : QueuedBlocks = with_got c m ms (queued_blocks_of v) in
        let settled : QueuedBlocks = with_queue_settled c got in
        flags_related SameOff (λ f. refl) settled.queues.flags c (record (flags_of settled c) { read = false }) refl q ∙ settled_off got q

    first_free : (ms : List Message) (need : Need) → are_free need (value_after (queued_blocks_of v) (get_first c ms (queued_blocks_of v))).arena ≡ are_free need v.arena
    first_free [] need = refl
    first_free (m ∷ ms) need = refl

    first_kept : next_of v.queues.specs c ≡ None → (there : Bool) → KeepsAwake v (value_after v (on_queues v (if there then get_first c (messages_on (queued_blocks_of v) c) (queued_blocks_of v) else Err NoSuchQueue)))
    first_kept last true =
        subst (λ (x : PoolValue). KeepsAwake v x) (sym (first_given (messages_on (queued_blocks_of v) c)))
        (record {
          specs = first_specs (messages_on (queued_blocks_of v) c);
          awake = λ q n next. awake_taken (queued_blocks_of v) law.lawful_queues sides (banded_of v law) c last (messages_on (queued_blocks_of v) c) q n next;
          off = first_off (messages_on (queued_blocks_of v) c);
          free = first_free (messages_on (queued_blocks_of v) c);
        })
    first_kept last false = keeps_awake_same v

    none_from : (o : Option ℕ) → false ≡ is_some o → o ≡ None
    none_from None is = refl
    none_from (Some n) is = absurd (false≢true is)

    -- the spec that was read is that of the queue, so it is the last of its side
    last_is : (spec : QueueSpec) → okay spec ≡ looks.queue_spec c (queued_blocks_of v) → false ≡ is_some spec.next → next_of v.queues.specs c ≡ None
    last_is spec is none = by_there (has_queue (queued_blocks_of v) c) is
      where
        by_there : (there : Bool) → okay spec ≡ (if there then Ok (spec_at v.queues.specs c) else Err NoSuchQueue) → next_of v.queues.specs c ≡ None
        by_there true same = let equal : spec ≡ spec_at v.queues.specs c = cc in sym (ap (λ (s : QueueSpec). s.next) equal) ∙ none_from spec.next none
        by_there false same = absurd (cc)

    pub getq_kept : (spec : QueueSpec) → okay spec ≡ looks.queue_spec c (queued_blocks_of v) → false ≡ is_some spec.next → (w : PoolValue) → w ≡ value_after v (on_queues v (getq c (queued_blocks_of v)))
        → KeepsAwake v w
    getq_kept spec is none w after = subst (λ (x : PoolValue). KeepsAwake v x) (sym after) (first_kept (last_is spec is none) (has_queue (queued_blocks_of v) c))

    -- ---- asked for room

    asked_specs : (p band : ℕ) → (ask_for_room p band (queued_blocks_of v)).1.queues.specs ≡ v.queues.specs
    asked_specs p band = by_room (is_full (queued_blocks_of v) p band)
      where
        by_room : (full : Bool) → (let asked : Bool × QueuedBlocks = if full then (false, with_state (λ s. with_wanted p band s) (queued_blocks_of v)) else (true, queued_blocks_of v) in asked.1.queues.specs ≡ v.queues.specs)
        by_room true = refl
        by_room false = refl

    asked_off : (p band q : ℕ) → (flags_of (ask_for_room p band (queued_blocks_of v)).1 q).noenable ≡ (flags_at v.queues q).noenable
    asked_off p band q = by_room (is_full (queued_blocks_of v) p band)
      where
        by_room : (full : Bool) → (let asked : Bool × QueuedBlocks = if full then (false, with_state (λ s. with_wanted p band s) (queued_blocks_of v)) else (true, queued_blocks_of v) in (flags_of asked.1 q).noenable ≡ (flags_at v.queues q).noenable)
        by_room true = flags_related SameOff (λ f. refl) v.queues.flags p (record (flags_at v.queues p) { wanted = set (flags_at v.queues p).wanted band true }) refl q
        by_room false = refl

    asked_arena : (p band : ℕ) → (ask_for_room p band (queued_blocks_of v)).1.arena ≡ v.arena
    asked_arena p band = by_room (is_full (queued_blocks_of v) p band)
      where
        by_room : (full : Bool) → (let asked : Bool × QueuedBlocks = if full then (false, with_state (λ s. with_wanted p band s) (queued_blocks_of v)) else (true, queued_blocks_of v) in asked.1.arena ≡ v.arena)
        by_room true = refl
        by_room false = refl

    asked_kept : (band : ℕ) (there : Bool) → KeepsAwake v (value_after v (on_queues v (if there then Ok (ask_for_room (target v.queues.specs c) band (queued_blocks_of v)) else Err NoSuchQueue)))
    asked_kept band true = record {
      specs = asked_specs (target v.queues.specs c) band;
      awake = λ q n next. awake_asked (queued_blocks_of v) (target v.queues.specs c) band q n;
      off = asked_off (target v.queues.specs c) band;
      free = λ need. ap (are_free need) (asked_arena (target v.queues.specs c) band);
    }
    asked_kept band false = keeps_awake_same v

    pub bcanput_kept : (band : ℕ) (w : PoolValue) → w ≡ value_after v (on_queues v (bcanput c band (queued_blocks_of v))) → KeepsAwake v w
    bcanput_kept band w after = subst (λ (x : PoolValue). KeepsAwake v x) (sym after) (asked_kept band (has_queue (queued_blocks_of v) c))

    -- ---- water marks

    marked_kept : (band hiwat lowat : ℕ) (there meet : Bool)
        → (let given : Given QueuedBlocks (Unit {0}) = if not there then Err NoSuchQueue else (if meet then Err BadMarks else Ok (tt, with_queue_settled c (with_state (λ s. with_marks c band (record { hiwat = hiwat; lowat = lowat }) s) (queued_blocks_of v)))) in KeepsAwake v (value_after v (on_queues v given)))
    marked_kept band hiwat lowat false meet = keeps_awake_same v
    marked_kept band hiwat lowat true true = keeps_awake_same v
    marked_kept band hiwat lowat true false =
        let marked : QueuedBlocks = with_state (with_marks c band (record { hiwat = hiwat; lowat = lowat })) (queued_blocks_of v) in
        record {
          specs = settled_specs marked c;
          awake = λ q n next. awake_marked (queued_blocks_of v) law.lawful_queues sides (banded_of v law) c band hiwat lowat q n next;
          off = settled_off marked;
          free = λ need. refl;
        }

    pub strqset_kept : (band hiwat lowat : ℕ) (w : PoolValue) → w ≡ value_after v (on_queues v (strqset c band hiwat lowat (queued_blocks_of v))) → KeepsAwake v w
    strqset_kept band hiwat lowat w after = subst (λ (x : PoolValue). KeepsAwake v x) (sym after) (marked_kept band hiwat lowat (has_queue (queued_blocks_of v) c) (nat_le hiwat lowat))

-- ---- put back, and enabled

module _ (v : PoolValue) (law : IsLawful v) (c : ℕ) (t : TokenValue) where
  abbrev before : QueuedBlocks
  before = queued_blocks_of v

  -- the messages of the queue with this one, and what `putbq` leaves
  abbrev joined : List Message
  joined = put_ahead (rank_of v.arena.store) (message_put t.head before) (messages_on before c)

  abbrev so : Bool
  so = enables_put_back (flags_of before c) (rank_put t.head before)

  abbrev back : QueuedBlocks
  back = with_state (enabled_where so c) (with_put c t.head joined before)

  abbrev back_from : Bool → Given QueuedBlocks (Unit {0})
  back_from there = if there then Ok (tt, back) else Err NoSuchQueue

  abbrev IsBack : (there : Bool) → PoolValue → Result (Unit {0}) Rejected → Type 0
  IsBack there x r = Puts arena t (on_queues v (back_from there)) v x r

  abbrev IsHeld : (there : Bool) → PoolValue → Result (Unit {0}) Rejected → Type 0
  IsHeld there w r = Puts arena t (on_queues v (and_then (λ put. qenable c put.1) (back_from there))) v w r

  specs_back : back.queues.specs ≡ v.queues.specs
  specs_back = ap (λ (s : QueueState). s.specs) (enabled_where_grows so c v.queues).alone

  module _ (x : PoolValue) (rejected : Rejected) where
    refused_from : (there : Bool) → IsBack there x (Err rejected) → IsHeld there x (Err rejected)
    refused_from true put = let answer = put.answer in absurd (cc)
    refused_from false put = put

    pub back_refused : Puts arena t (on_queues v (putbq c t.head before)) v x (Err rejected) → Puts arena t (on_queues v (hold c t.head before)) v x (Err rejected)
    back_refused put = refused_from (has_queue before c) put

  -- once the message is back, the queue is enabled
  abbrev back_enabled : QueuedBlocks
  back_enabled = record back { queues = with_enabled c back.queues }

  given_is : has_queue before c ≡ true → hold c t.head before ≡ Ok (tt, back_enabled)
  given_is there =
      ap (λ h. and_then (λ put. qenable c put.1) (back_from h)) there
      ∙ cond-true (has_queue back c) _ _ (ap (λ (s : List QueueSpec). nat_lt c (length s)) specs_back ∙ there)

  module _ (x : PoolValue) where
    there_from : (there : Bool) → IsBack there x (Ok tt) → (there ≡ true) × (x ≡ with_queued v back)
    there_from true put = (refl, put.after)
    there_from false put = let answer = put.answer in absurd (cc)

    module _ (put : Puts arena t (on_queues v (putbq c t.head before)) v x (Ok tt)) where
      there_is : has_queue before c ≡ true
      there_is = (there_from (has_queue before c) put).0

      after_is : x ≡ with_queued v back
      after_is = (there_from (has_queue before c) put).1

      pub back_there : has_queue (queued_blocks_of x) c ≡ true
      back_there = ap (λ (p : PoolValue). has_queue (queued_blocks_of p) c) after_is ∙ ap (λ (s : List QueueSpec). nat_lt c (length s)) specs_back ∙ there_is

      pub back_held : (w : PoolValue) → w ≡ with_queue_enabled c x → Puts arena t (on_queues v (hold c t.head before)) v w (Ok tt)
      back_held w enabled = record {
        after = enabled ∙ ap (with_queue_enabled c) after_is ∙ sym (ap (λ g. value_after v (on_queues v g)) (given_is there_is));
        answer = sym (ap (λ g. or_rejected t (answer_of (on_queues v g))) (given_is there_is));
        gone = ap (λ (p : PoolValue). held_at p.arena t.head) enabled ∙ put.gone;
        others = subst (λ (p : PoolValue). LeavesOthers (t.head ∷ []) v.arena p.arena) (sym enabled) put.others;
      }

  -- all queues stay awake
  module _ (sides : AreSides v.queues.specs) where
    others_awake : (p n : ℕ) → p ≢ c → is_awake before p n ≡ true → is_awake back_enabled p n ≡ true
    others_awake p n other awake =
        awake_grown back (with_enabled c back.queues) (enabled_grows c back.queues) p n
        (awake_grown (record before { arena = back.arena }) (enabled_where so c v.queues) (enabled_where_grows so c v.queues) p n (awake_shelved before back.arena c joined refl refl p n other awake))

    enabled_off : (q : ℕ) → (flags_of back_enabled q).noenable ≡ (flags_of before q).noenable
    enabled_off q =
        ap (λ (s : QueueState). (flags_at s q).noenable) (enabled_grows c back.queues).alone ∙ ap (λ (s : QueueState). (flags_at s q).noenable) (enabled_where_grows so c v.queues).alone

    own_awake : (n : ℕ) → next_of v.queues.specs c ≡ Some n → is_awake before c n ≡ true → is_awake back_enabled c n ≡ true
    own_awake n next awake =
        awake_on_run back_enabled c n (enabled_off c ∙ enabling_on before c n awake)
        (enabled_on c back.queues (ap (λ (s : List QueueSpec). (spec_at s c).service) specs_back ∙ sides c ∙ ap is_some next))

    enabled_kept : KeepsAwake v (with_queued v back_enabled)
    enabled_kept = record {
      specs = ap (λ (s : QueueState). s.specs) (enabled_grows c back.queues).alone ∙ specs_back;
      awake = λ p n next awake.
          elim (cases_eq p c) [
            | inl same ↦
                subst (λ k. is_awake back_enabled k n ≡ true) (sym same)
                (own_awake n (subst (λ k. next_of v.queues.specs k ≡ Some n) same next) (subst (λ k. is_awake before k n ≡ true) same awake))
            | inr other ↦ others_awake p n other awake
          ];
      off = enabled_off;
      free = λ need. refl;
    }

    held_from : (there : Bool) → has_queue before c ≡ there → KeepsAwake v (value_after v (on_queues v (hold c t.head before)))
    held_from true there = subst (λ (g : Given QueuedBlocks (Unit {0})). KeepsAwake v (value_after v (on_queues v g))) (sym (given_is there)) enabled_kept
    held_from false none =
        subst (λ h. KeepsAwake v (value_after v (on_queues v (and_then (λ put. qenable c put.1) (back_from h))))) (sym none) (keeps_awake_same v)

    pub hold_kept : (w : PoolValue) → w ≡ value_after v (on_queues v (hold c t.head before)) → KeepsAwake v w
    hold_kept w after = subst (λ (x : PoolValue). KeepsAwake v x) (sym after) (held_from (has_queue before c) refl)
