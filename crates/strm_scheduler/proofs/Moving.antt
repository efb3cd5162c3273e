-- What taking the first message off a queue, and putting it on another or back, leave.
use Rattle.std.proofs.Common.{◌≡◌, ◌≢◌, ℕ, ◌<◌, inl, inr, Bool, true, false, ◌==◌, List, [], ◌∷◌, drop, length, get_or, set, Option, Some, None, Ok, refl, sym, ap, ◌∙◌, subst, arith, if◌then◌else◌, get_or-set_other, get_or-set_same}
use Rattle.std.specs.Prelude.{nat_le, nat_lt, option_map}
use Rattle.std.specs.List.{list_all}
use Rattle.std.specs.Option.{option_map_or}
use Rattle.std.proofs.lemmas.Bool.{and_parts, cases_lt, cond-true, ltb-true, or_parts}
use Rattle.std.proofs.lemmas.List.{set-get_or, set-set, set_past}
use Rattle.strm_data.specs.DataStore.{DataStore}
use Rattle.strm_data.specs.MsgType.{is_high_priority}
use Rattle.strm_mblk.specs.declared.token.TokenValue.{TokenValue}
use Rattle.strm_mblk.specs.Arena.{Arena, has, held_at, is_of_length, message_at, shelf_at, token_of, with_held, with_shelf, without_held}
use Rattle.strm_mblk.specs.Block.{Message, head_of, kind_of}
use Rattle.strm_mblk.specs.Messages.{blocks_of}
use Rattle.strm_mblk.specs.Given.{answer_map, answer_of, value_after}
use Rattle.strm_pool.specs.PoolValue.{PoolValue, has_queue, on_queues, queued_blocks_of}
use Rattle.strm_queue.specs.declared.queue_spec.QueueSpec.{QueueSpec}
use Rattle.strm_queue.specs.Flow.{Flags, QueueState, enabled_where, enables_put, flags_at, opening_flags, waker, with_enabled, with_flags}
use Rattle.strm_queue.specs.Limits.{high_rank}
use Rattle.strm_queue.specs.QueueCalls.{flags_left, flags_of, get_first, getq, has_relieved, putbq, putq, rank_put, waker_enabled_where, with_got}
use Rattle.strm_queue.specs.QueuedBlocks.{QueuedBlocks}
use Rattle.strm_queue.specs.Rank.{as_queued, is_ordered, put_ahead, rank_of}
use Rattle.strm_queue.proofs.Agreeing.{enabled_alone}
use Rattle.strm_scheduler.specs.Forwarding.{Goes, HandsOn, KeepsRest, Stays, hand_first, has_leave, may_go, with_first_off, with_leave_asked, with_one_placed, with_one_put, with_one_put_back, with_put, with_put_back, with_put_either}

-- ---- the state of the queues

pub record KeepsState (old new : QueueState) : Type 0 where
  pub specs : new.specs ≡ old.specs
  pub marks : new.marks ≡ old.marks

pub enabling_keeps : (so : Bool) (q : ℕ) (s : QueueState) → KeepsState s (enabled_where so q s)
enabling_keeps so q s = record { specs = ap (λ (t : QueueState). t.specs) (enabled_alone so q s); marks = ap (λ (t : QueueState). t.marks) (enabled_alone so q s) }

waking_keeps : (so : Bool) (q : ℕ) (s : QueueState) → KeepsState s (waker_enabled_where so q s)
waking_keeps so q s = by_cases so (waker s.specs q)
  where
    by_cases : (so : Bool) (o : Option ℕ) → KeepsState s (if so then option_map_or (λ p. with_enabled p s) o s else s)
    by_cases true None = record { specs = refl; marks = refl }
    by_cases true (Some p) = enabling_keeps true p s
    by_cases false o = record { specs = refl; marks = refl }

-- ---- off a queue

-- the first message of queue q is held, by this token
pub record IsGot (q : ℕ) (t : TokenValue) (v w : PoolValue) : Type 0 where
  pub message : Message
  pub behind : List Message
  pub first : shelf_at v.arena q ≡ message ∷ behind
  pub head : t.head ≡ head_of message
  pub arena : w.arena ≡ with_held message (with_shelf q behind v.arena)
  pub state : w.queues ≡ (with_first_off q behind (queued_blocks_of v)).queues
  pub rest : KeepsRest v w

module _ (v w : PoolValue) (q : ℕ) (there : has_queue v q ≡ true) (after : w ≡ value_after v (on_queues v (getq q (queued_blocks_of v)))) where
  abbrev first_taken : List Message → Type 0
  first_taken ms = w ≡ value_after v (on_queues v (get_first q ms (queued_blocks_of v)))

  taken_after : first_taken (shelf_at v.arena q)
  taken_after = after ∙ ap (λ g. value_after v (on_queues v g)) (cond-true _ _ _ there)

  module _ (t : TokenValue) where
    by_first : (ms : List Message) → shelf_at v.arena q ≡ ms → first_taken ms → Ok (Some t) ≡ answer_map (option_map (token_of w.arena)) (answer_of (on_queues v (get_first q ms (queued_blocks_of v)))) → IsGot q t v w
    by_first [] is after given = absurd (cc)
    by_first (m ∷ ms) is after given =
        let given_is : t ≡ token_of w.arena (head_of m) = cc in
        let kept = waking_keeps (has_relieved (with_got q m ms (queued_blocks_of v)) q) q (with_flags q (flags_left (with_got q m ms (queued_blocks_of v)) q) v.queues) in
        record {
          message = m;
          behind = ms;
          first = is;
          head = ap (λ (x : TokenValue). x.head) given_is;
          arena = ap (λ (x : PoolValue). x.arena) after;
          state = ap (λ (x : PoolValue). x.queues) after;
          rest = record {
            specs = ap (λ (x : PoolValue). x.queues.specs) after ∙ kept.specs;
            marks = ap (λ (x : PoolValue). x.queues.marks) after ∙ kept.marks;
            wishes = ap (λ (x : PoolValue). x.wishes) after;
          };
        }

    pub got : Ok (Some t) ≡ answer_map (option_map (token_of w.arena)) (answer_of (on_queues v (getq q (queued_blocks_of v)))) → IsGot q t v w
    got given = by_first (shelf_at v.arena q) refl taken_after (given ∙ ap (λ g. answer_map (option_map (token_of w.arena)) (answer_of (on_queues v g))) (cond-true _ _ _ there))

  module _ (to : ℕ) (flagged : q < length v.queues.flags) where
    none_first : (ms : List Message) → shelf_at v.arena q ≡ ms → first_taken ms → Ok None ≡ answer_map (option_map (token_of w.arena)) (answer_of (on_queues v (get_first q ms (queued_blocks_of v)))) → Stays q to v w
    none_first [] is after given = record {
      leave = λ some. absurd (omega (arith, some, ap length is));
      reads = λ none. ap (λ (x : PoolValue). (flags_at x.queues q).read) after ∙ ap (λ (f : Flags). f.read) (get_or-set_same v.queues.flags q _ opening_flags flagged);
      messages = ap (λ (x : PoolValue). x.arena) after;
      rest = record {
        specs = ap (λ (x : PoolValue). x.queues.specs) after;
        marks = ap (λ (x : PoolValue). x.queues.marks) after;
        wishes = ap (λ (x : PoolValue). x.wishes) after;
      };
    }
    none_first (m ∷ ms) is after given = absurd (cc)

    pub none_got : Ok None ≡ answer_map (option_map (token_of w.arena)) (answer_of (on_queues v (getq q (queued_blocks_of v)))) → Stays q to v w
    none_got given = none_first (shelf_at v.arena q) refl taken_after (given ∙ ap (λ g. answer_map (option_map (token_of w.arena)) (answer_of (on_queues v g))) (cond-true _ _ _ there))

    none_whole_first : (ms : List Message) → shelf_at v.arena q ≡ ms → first_taken ms → Ok None ≡ answer_map (option_map (token_of w.arena)) (answer_of (on_queues v (get_first q ms (queued_blocks_of v))))
        → hand_first q to (shelf_at v.arena q) (queued_blocks_of v) ≡ (false, queued_blocks_of w)
    none_whole_first [] is after given = ap (λ ms. hand_first q to ms (queued_blocks_of v)) is ∙ sym (ap (λ (x : PoolValue). (false, queued_blocks_of x)) after)
    none_whole_first (m ∷ ms) is after given = absurd (cc)

    pub none_whole : Ok None ≡ answer_map (option_map (token_of w.arena)) (answer_of (on_queues v (getq q (queued_blocks_of v)))) → hand_first q to (shelf_at v.arena q) (queued_blocks_of v) ≡ (false, queued_blocks_of w)
    none_whole given = none_whole_first (shelf_at v.arena q) refl taken_after (given ∙ ap (λ g. answer_map (option_map (token_of w.arena)) (answer_of (on_queues v g))) (cond-true _ _ _ there))

-- ---- held

-- a message is held where it was put, if one is
held_there : (held : List (Option Message)) (h n : ℕ) (m : Message) → get_or held h None ≡ None → is_of_length n (get_or (set held h (Some m)) h None) ≡ true → get_or (set held h (Some m)) h None ≡ Some m
held_there held h n m unheld has =
    elim (cases_lt h (length held)) [
      | inl below ↦ get_or-set_same held h (Some m) None below
      | inr past ↦ absurd (cc (ap (is_of_length n) (ap (λ (xs : List (Option Message)). get_or xs h None) (set_past held h (Some m) past) ∙ unheld), has))
    ]

-- and nothing is, once it is gone
held_again : (held : List (Option Message)) (h : ℕ) (m : Message) → get_or held h None ≡ None → set (set held h (Some m)) h None ≡ held
held_again held h m unheld = set-set held h (Some m) None ∙ ap (set held h) (sym unheld) ∙ set-get_or held h None

-- ---- onto a queue

-- what is put back before its equals, where it was the first, is the first
ahead_first : (rank : Message → ℕ) (m : Message) (ms : List Message) → is_ordered rank (m ∷ ms) ≡ true → put_ahead rank m ms ≡ m ∷ ms
ahead_first rank m [] ordered = refl
ahead_first rank m (x ∷ xs) ordered =
    let below : Message → Bool = λ y. nat_le (rank y) (rank m) in
    cond-true (below x) (m ∷ x ∷ xs) (x ∷ put_ahead rank m xs) (and_parts (below x) (list_all below xs) (and_parts (list_all below (x ∷ xs)) (is_ordered rank (x ∷ xs)) ordered).0).0

-- a queue has a message without high priority as it is
queued_same : (s : DataStore) (m : Message) → (rank_of s m == high_rank) ≡ false → as_queued s m ≡ m
queued_same s [] low = refl
queued_same s (b ∷ bs) low = by_kind (is_high_priority (kind_of s b)) low
  where
    by_kind : (high : Bool) → ((if high then high_rank else b.band) == high_rank) ≡ false → (if high then record b { band = 0 } else b) ∷ bs ≡ b ∷ bs
    by_kind true low = absurd (cc)
    by_kind false low = refl

-- ---- one message that was taken off, and placed

module _ (from to : ℕ) (apart : from ≢ to) (v x : PoolValue) (t : TokenValue) (g : IsGot from t v x) where
  abbrev a : Arena
  a = v.arena

  -- the message blocks without the message, and with it held
  abbrev off : Arena
  off = with_shelf from g.behind a

  abbrev lifted : Arena
  lifted = with_held g.message off

  module _ (unheld : held_at a t.head ≡ None) (had : has x.arena t ≡ true) where
    held_now : held_at lifted t.head ≡ Some g.message
    held_now =
        let at_head = λ (h : ℕ). get_or (set a.held h (Some g.message)) t.head None in
        let had_there : is_of_length t.blocks (at_head (head_of g.message)) ≡ true = (and_parts _ _ (subst (λ z. has z t ≡ true) g.arena had)).1 in
        ap at_head (sym g.head) ∙ held_there a.held t.head t.blocks g.message unheld (subst (λ h. is_of_length t.blocks (at_head h) ≡ true) (sym g.head) had_there)

    pub message_is : message_at x.arena t.head ≡ g.message
    message_is = ap (λ z. message_at z t.head) g.arena ∙ ap blocks_of held_now

    gone : set (set a.held (head_of g.message) (Some g.message)) t.head None ≡ a.held
    gone = ap (λ h. set (set a.held h (Some g.message)) t.head None) (sym g.head) ∙ held_again a.held t.head g.message unheld

    -- what a call is asked of the message while it is held is asked of the first one of the queue
    pub leave_same : has_leave to x.queues x.arena (message_at x.arena t.head) ≡ may_go from to v.queues a
    leave_same =
        ap (λ m. has_leave to x.queues x.arena m) message_is
        ∙ ap (λ z. has_leave to x.queues z g.message) g.arena
        ∙ (λ i. has_leave to (record x.queues { specs = g.rest.specs i; marks = g.rest.marks i }) lifted g.message)
        ∙ sym (ap (λ ms. has_leave to v.queues (with_shelf from (drop 1 ms) a) (get_or ms 0 [])) g.first)

    module _ (w : PoolValue) (rest : KeepsRest x w) where
      rest_kept : KeepsRest v w
      rest_kept = record { specs = rest.specs ∙ g.rest.specs; marks = rest.marks ∙ g.rest.marks; wishes = rest.wishes ∙ g.rest.wishes }

      module _ (below : from < length a.shelves) (leave : true ≡ has_leave to x.queues x.arena (message_at x.arena t.head)) (messages : w.arena ≡ with_put_either from to t.head true x.arena) where
        pub put_is : w.arena ≡ with_put to g.message off
        put_is =
            messages ∙ ap (λ m. with_put to m (without_held t.head x.arena)) message_is
            ∙ ap (λ z. with_put to g.message (without_held t.head z)) g.arena
            ∙ ap (λ hs. with_put to g.message (record off { held = hs })) gone

        pub went : Goes from to v w
        went = record {
          some = omega (arith, ap length g.first);
          leave = sym leave_same ∙ sym leave;
          messages = put_is ∙ sym (ap (λ ms. with_put to (get_or ms 0 []) (with_shelf from (drop 1 ms) a)) g.first);
          left =
              ap (λ z. shelf_at z from) put_is ∙ get_or-set_other off.shelves to from _ [] apart ∙ get_or-set_same a.shelves from g.behind [] below
              ∙ sym (ap (drop 1) g.first);
          rest = rest_kept;
        }

      module _ (below : from < length a.shelves) (ordered : is_ordered (rank_of a.store) (shelf_at a from) ≡ true) (leave : false ≡ has_leave to x.queues x.arena (message_at x.arena t.head))
          (messages : w.arena ≡ with_put_either from to t.head false x.arena) where
        stays_off : may_go from to v.queues a ≡ false
        stays_off = sym leave_same ∙ sym leave

        low : (rank_of a.store g.message == high_rank) ≡ false
        low = (or_parts _ _ (sym (ap (λ ms. has_leave to v.queues (with_shelf from (drop 1 ms) a) (get_or ms 0 [])) g.first) ∙ stays_off)).0

        back : put_ahead (rank_of a.store) (as_queued a.store g.message) (shelf_at off from) ≡ shelf_at a from
        back =
            (λ i. put_ahead (rank_of a.store) (queued_same a.store g.message low i) (get_or-set_same a.shelves from g.behind [] below i))
            ∙ ahead_first (rank_of a.store) g.message g.behind (subst (λ ms. is_ordered (rank_of a.store) ms ≡ true) g.first ordered) ∙ sym g.first

        pub put_back_on : w.arena ≡ with_put_back from g.message off
        put_back_on =
            messages ∙ ap (λ m. with_put_back from m (without_held t.head x.arena)) message_is
            ∙ ap (λ z. with_put_back from g.message (without_held t.head z)) g.arena
            ∙ ap (λ hs. with_put_back from g.message (record off { held = hs })) gone

        put_back_is : w.arena ≡ a
        put_back_is =
            put_back_on
            ∙ ap (λ ms. with_shelf from ms off) back
            ∙ ap (λ s. record a { shelves = s }) (set-set a.shelves from g.behind (shelf_at a from) ∙ set-get_or a.shelves from [])

        pub stayed : Stays from to v w
        stayed = record {
          leave = λ some. stays_off;
          reads = λ none. absurd (omega (arith, none, ap length g.first));
          messages = put_back_is;
          rest = rest_kept;
        }

      pub handed : from < length a.shelves → is_ordered (rank_of a.store) (shelf_at a from) ≡ true → (went : Bool) → went ≡ has_leave to x.queues x.arena (message_at x.arena t.head)
          → w.arena ≡ with_put_either from to t.head went x.arena → HandsOn from to v went w
      handed below ordered true leave messages = went below leave messages
      handed below ordered false leave messages = stayed below ordered leave messages

      -- and queues and message blocks are as handing on leaves them
      module _ (below : from < length a.shelves) (ordered : is_ordered (rank_of a.store) (shelf_at a from) ≡ true) where
        abbrev taken : QueuedBlocks
        taken = with_first_off from g.behind (queued_blocks_of v)

        leave_taken : has_leave to x.queues x.arena (message_at x.arena t.head) ≡ has_leave to taken.queues off g.message
        leave_taken = ap (λ m. has_leave to x.queues x.arena m) message_is ∙ (λ i. has_leave to (g.state i) (g.arena i) g.message)

        state_taken : (went : Bool) → (with_one_placed from to (message_at x.arena t.head) went (queued_blocks_of x)).queues
            ≡ (with_one_placed from to g.message went (record { queues = taken.queues; arena = lifted })).queues
        state_taken went = λ i. (with_one_placed from to (message_is i) went (record { queues = g.state i; arena = g.arena i })).queues

        first_taken_is : (goes : Bool) → goes ≡ has_leave to x.queues x.arena (message_at x.arena t.head)
            → hand_first from to (shelf_at a from) (queued_blocks_of v) ≡ (goes, with_one_placed from to g.message goes taken)
        first_taken_is goes leave =
            ap (λ ms. hand_first from to ms (queued_blocks_of v)) g.first
            ∙ ap (λ b. (b, with_one_placed from to g.message b taken)) (sym leave_taken ∙ sym leave)

        pub handed_whole : (went : Bool) → went ≡ has_leave to x.queues x.arena (message_at x.arena t.head) → w.arena ≡ with_put_either from to t.head went x.arena
            → w.queues ≡ (with_one_placed from to (message_at x.arena t.head) went (queued_blocks_of x)).queues
            → hand_first from to (shelf_at a from) (queued_blocks_of v) ≡ (went, queued_blocks_of w)
        handed_whole true leave messages state =
            let state_is = sym (state ∙ state_taken true) in
            let arena_is = sym (put_is below leave messages) in
            first_taken_is true leave ∙ (λ i. (true, record { queues = state_is i; arena = arena_is i }))
        handed_whole false leave messages state =
            let state_is = sym (state ∙ state_taken false) in
            let arena_is = sym (put_back_on below ordered leave messages) in
            first_taken_is false leave ∙ (λ i. (false, record { queues = state_is i; arena = arena_is i }))

-- ---- for the calls

-- a queue that is there has a shelf, and flags
pub within : (v : PoolValue) (q n : ℕ) → has_queue v q ≡ true → n ≡ length v.queues.specs → q < n
within v q n there is = omega (arith, ltb-true q (length v.queues.specs) there, is)

-- and is there still where what queues were made with stays
pub there_still : (v w : PoolValue) (q : ℕ) → KeepsRest v w → has_queue v q ≡ true → has_queue w q ≡ true
there_still v w q rest there = subst (λ (specs : List QueueSpec). nat_lt q (length specs) ≡ true) (sym rest.specs) there

-- what putting leaves of the message blocks
pub put_leaves : (v w : PoolValue) (q h : ℕ) → has_queue v q ≡ true → w ≡ value_after v (on_queues v (putq q h (queued_blocks_of v))) → w.arena ≡ with_put q (message_at v.arena h) (without_held h v.arena)
put_leaves v w q h there after = ap (λ (x : PoolValue). x.arena) (after ∙ ap (λ g. value_after v (on_queues v g)) (cond-true _ _ _ there))

pub put_back_leaves : (v w : PoolValue) (q h : ℕ) → has_queue v q ≡ true → w ≡ value_after v (on_queues v (putbq q h (queued_blocks_of v))) → w.arena ≡ with_put_back q (message_at v.arena h) (without_held h v.arena)
put_back_leaves v w q h there after = ap (λ (x : PoolValue). x.arena) (after ∙ ap (λ g. value_after v (on_queues v g)) (cond-true _ _ _ there))

-- what putting leaves of the queues
pub put_state : (v w : PoolValue) (q h : ℕ) → has_queue v q ≡ true → w ≡ value_after v (on_queues v (putq q h (queued_blocks_of v)))
    → w.queues ≡ (with_one_put q (message_at v.arena h) (queued_blocks_of v)).queues
put_state v w q h there after = ap (λ (x : PoolValue). x.queues) (after ∙ ap (λ g. value_after v (on_queues v g)) (cond-true _ _ _ there))

pub put_keeps : (v w : PoolValue) (q h : ℕ) → has_queue v q ≡ true → w ≡ value_after v (on_queues v (putq q h (queued_blocks_of v))) → KeepsRest v w
put_keeps v w q h there after =
    let state = put_state v w q h there after in
    let kept = enabling_keeps (enables_put (flags_of (queued_blocks_of v) q) (rank_put h (queued_blocks_of v))) q v.queues in
    record {
      specs = ap (λ (s : QueueState). s.specs) state ∙ kept.specs;
      marks = ap (λ (s : QueueState). s.marks) state ∙ kept.marks;
      wishes = ap (λ (x : PoolValue). x.wishes) (after ∙ ap (λ g. value_after v (on_queues v g)) (cond-true _ _ _ there));
    }

pub put_back_state : (v w : PoolValue) (q h : ℕ) → has_queue v q ≡ true → w ≡ value_after v (on_queues v (putbq q h (queued_blocks_of v)))
    → w.queues ≡ (with_one_put_back q (message_at v.arena h) (queued_blocks_of v)).queues
put_back_state v w q h there after = ap (λ (x : PoolValue). x.queues) (after ∙ ap (λ g. value_after v (on_queues v g)) (cond-true _ _ _ there))

-- and the queues are those that placing leaves, where leave was asked before
module _ (from to h : ℕ) (v asked w : PoolValue) (arena : asked.arena ≡ v.arena) where
  abbrev Asked : Bool → Type 0
  Asked goes = asked.queues ≡ (with_leave_asked to (message_at v.arena h) goes (queued_blocks_of v)).queues

  pub placed_on : (goes : Bool) → goes ≡ true → Asked goes → w.queues ≡ (with_one_put to (message_at asked.arena h) (queued_blocks_of asked)).queues
      → w.queues ≡ (with_one_placed from to (message_at v.arena h) goes (queued_blocks_of v)).queues
  placed_on true is state after = after ∙ (λ i. (with_one_put to (message_at (arena i) h) (record { queues = state i; arena = arena i })).queues)
  placed_on false is state after = absurd (cc)

  pub placed_back : (goes : Bool) → goes ≡ false → Asked goes → w.queues ≡ (with_one_put_back from (message_at asked.arena h) (queued_blocks_of asked)).queues
      → w.queues ≡ (with_one_placed from to (message_at v.arena h) goes (queued_blocks_of v)).queues
  placed_back true is state after = absurd (cc)
  placed_back false is state after = after ∙ (λ i. (with_one_put_back from (message_at (arena i) h) (record { queues = state i; arena = arena i })).queues)
