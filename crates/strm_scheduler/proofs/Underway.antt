-- Serving a queue keeps all queues awake. While the queue is served, all others are awake.
use Rattle.std.proofs.Common.{◌≡◌, ◌≢◌, ℕ, zero, suc, ◌<◌, inl, inr, Bool, true, false, not, ◌==◌, List, [], ◌∷◌, length, get_or, set, Some, refl, sym, ap, ◌∙◌, subst, arith, get_or-set_other, get_or-set_same, length-set}
use Rattle.std.specs.Prelude.{nat_le}
use Rattle.std.specs.List.{list_all}
use Rattle.std.proofs.lemmas.Bool.{and_from, and_parts, cases_eq, cond-true, eqb-false, leb-true, not_from_false, or_parts}
use Rattle.std.proofs.lemmas.List.{set-get_or, set-set}
use Rattle.std.proofs.lemmas.Option.{same_Some}
use Rattle.strm_scheduler.specs.Forwarding.{all_forwarded, forwarded, go_on, hand_first, handed_on, has_leave, with_first_off, with_one_placed, with_one_put, with_one_put_back, with_put, with_put_back}
use Rattle.strm_mblk.specs.Arena.{with_shelf}
use Rattle.strm_mblk.specs.Block.{Message}
use Rattle.strm_queue.specs.declared.queue_spec.QueueSpec.{QueueSpec}
use Rattle.strm_queue.specs.Flow.{Flags, QueueState, enabled_where, enables_put, enables_put_back, flags_at, has_band, opening_flags, with_read, with_wanted}
use Rattle.strm_queue.specs.Limits.{bands, high_rank}
use Rattle.strm_queue.specs.QueueCalls.{flags_left, flags_of, messages_on, with_queue_settled, with_state}
use Rattle.strm_queue.specs.QueuedBlocks.{QueuedBlocks}
use Rattle.strm_queue.specs.QueueSpecs.{are_lawful}
use Rattle.strm_queue.specs.Rank.{as_queued, is_ordered, put_ahead, rank_of}
use Rattle.strm_queue.proofs.order.Order.{low_queued, rank_of-queued}
use Rattle.strm_scheduler.specs.Laws.{is_awake, may_rest}
use Rattle.strm_scheduler.specs.Sides.{AreSides, next_of}
use Rattle.strm_scheduler.proofs.Hops.{hop_ahead, hop_within, target_is}
use Rattle.strm_scheduler.proofs.Keeping.{SameOff, awake_at_rest, awake_grown, awake_read, awake_shelved, awake_wanted, enabled_where_grows, flags_related}
use Rattle.strm_scheduler.proofs.Settling.{AreBanded, awake_settled, banded_left, flags_all, settled_flags, settled_specs}
use Rattle.strm_scheduler.proofs.Calls.{awake_put}

-- the first of these is not of lower rank than the others, so it is the first again once it is put back
put_first : (rank : Message → ℕ) (m : Message) (ms : List Message) → is_ordered rank (m ∷ ms) ≡ true → put_ahead rank m ms ≡ m ∷ ms
put_first rank m [] ordered = refl
put_first rank m (x ∷ xs) ordered =
    let below : Message → Bool = λ y. nat_le (rank y) (rank m) in
    cond-true (below x) (m ∷ x ∷ xs) (x ∷ put_ahead rank m xs) (and_parts (below x) (list_all below xs) (and_parts (list_all below (x ∷ xs)) (is_ordered rank (x ∷ xs)) ordered).0).0

module _ (specs : List QueueSpec) (lawful : are_lawful specs ≡ true) (sides : AreSides specs) (q n : ℕ) (next : next_of specs q ≡ Some n) where
  q_within : q < length specs
  q_within = hop_within specs lawful q n next

  ahead : q < n
  ahead = (hop_ahead specs lawful q n next).greater

  n_within : n < length specs
  n_within = (hop_ahead specs lawful q n next).there

  -- each queue with a next queue is awake
  abbrev pub AllAwake : QueuedBlocks → Type 0
  AllAwake v = (p t : ℕ) → next_of specs p ≡ Some t → is_awake v p t ≡ true

  -- queue q is served, and all others are awake
  pub record IsUnderway (v : QueuedBlocks) : Type 0 where
    pub same : v.queues.specs ≡ specs
    pub banded : AreBanded v
    pub flagged : length v.queues.flags ≡ length specs
    pub shelved : length v.arena.shelves ≡ length specs
    pub ordered : is_ordered (rank_of v.arena.store) (messages_on v q) ≡ true
    pub low : list_all (λ m. nat_le (rank_of v.arena.store m) high_rank) (messages_on v q) ≡ true
    pub off : (flags_of v q).noenable ≡ false
    pub others : (p t : ℕ) → p ≢ q → next_of specs p ≡ Some t → is_awake v p t ≡ true

  module _ (v : QueuedBlocks) (on : IsUnderway v) where
    lawful_on : are_lawful v.queues.specs ≡ true
    lawful_on = ap are_lawful on.same ∙ lawful

    sides_on : AreSides v.queues.specs
    sides_on = subst AreSides (sym on.same) sides

    next_on : (p t : ℕ) → next_of specs p ≡ Some t → next_of v.queues.specs p ≡ Some t
    next_on p t is = ap (λ (s : List QueueSpec). next_of s p) on.same ∙ is

    -- ---- no message is left

    pub ended_awake : messages_on v q ≡ [] → AllAwake (with_state (with_read q true) v)
    ended_awake empty p t is =
        elim (cases_eq p q) [
          | inl same ↦ subst (λ k. is_awake w k t ≡ true) (sym same) (awake_at_rest w q t off_then (λ i. may_rest v.arena.store (read_then i) (flags_of w t).wanted (empty i)))
          | inr other ↦ awake_read v q true p t other (on.others p t other is)
        ]
      where
        w : QueuedBlocks
        w = with_state (with_read q true) v

        new : Flags
        new = record (flags_of v q) { read = true }

        off_then : (flags_of (with_state (with_read q true) v) q).noenable ≡ false
        off_then = flags_related SameOff (λ f. refl) v.queues.flags q (record (flags_of v q) { read = true }) refl q ∙ on.off

        read_then : (flags_of (with_state (with_read q true) v) q).read ≡ true
        read_then = ap (λ (f : Flags). f.read) (get_or-set_same v.queues.flags q (record (flags_of v q) { read = true }) opening_flags (omega (arith, q_within, on.flagged)))

    -- ---- the first message is taken off

    module _ (m : Message) (ms : List Message) (first : messages_on v q ≡ m ∷ ms) where
      -- the queues without the message, before they are settled, and afterwards
      abbrev shelf_off : QueuedBlocks
      shelf_off = record v { arena = with_shelf q ms v.arena }

      abbrev settled : QueuedBlocks
      settled = with_queue_settled q shelf_off

      abbrev off : QueuedBlocks
      off = with_first_off q ms v

      messages_off : messages_on off q ≡ ms
      messages_off = get_or-set_same v.arena.shelves q ms [] (omega (arith, q_within, on.shelved))

      ordered_all : is_ordered (rank_of v.arena.store) (m ∷ ms) ≡ true
      ordered_all = subst (λ xs. is_ordered (rank_of v.arena.store) xs ≡ true) first on.ordered

      low_all : list_all (λ x. nat_le (rank_of v.arena.store x) high_rank) (m ∷ ms) ≡ true
      low_all = subst (λ xs. list_all (λ x. nat_le (rank_of v.arena.store x) high_rank) xs ≡ true) first on.low

      low_parts : (nat_le (rank_of v.arena.store m) high_rank ≡ true) × (list_all (λ x. nat_le (rank_of v.arena.store x) high_rank) ms ≡ true)
      low_parts = and_parts (nat_le (rank_of v.arena.store m) high_rank) (list_all (λ x. nat_le (rank_of v.arena.store x) high_rank) ms) low_all

      banded_settled : (p : ℕ) → length (flags_at settled.queues p).wanted ≡ bands
      banded_settled p =
          ap (λ (fs : List Flags). length (get_or fs p opening_flags).wanted) (settled_flags shelf_off q)
          ∙ flags_all (λ f. length f.wanted ≡ bands) v.queues.flags q (flags_left shelf_off q) (banded_left shelf_off q) on.banded p

      off_settled : (flags_at settled.queues q).noenable ≡ false
      off_settled =
          ap (λ (fs : List Flags). (get_or fs q opening_flags).noenable) (settled_flags shelf_off q)
          ∙ flags_related SameOff (λ f. refl) v.queues.flags q (flags_left shelf_off q) refl q ∙ on.off

      pub underway_off : IsUnderway off
      underway_off = record {
        same = settled_specs shelf_off q ∙ on.same;
        banded = flags_all (λ f. length f.wanted ≡ bands) settled.queues.flags q (record (flags_at settled.queues q) { read = false }) (banded_settled q) banded_settled;
        flagged = length-set settled.queues.flags q _ ∙ ap length (settled_flags shelf_off q) ∙ length-set v.queues.flags q _ ∙ on.flagged;
        shelved = length-set v.arena.shelves q ms ∙ on.shelved;
        ordered =
            ap (is_ordered (rank_of v.arena.store)) messages_off
            ∙ (and_parts (list_all (λ y. nat_le (rank_of v.arena.store y) (rank_of v.arena.store m)) ms) (is_ordered (rank_of v.arena.store) ms) ordered_all).1;
        low = ap (list_all (λ x. nat_le (rank_of v.arena.store x) high_rank)) messages_off ∙ low_parts.1;
        off = flags_related SameOff (λ f. refl) settled.queues.flags q (record (flags_at settled.queues q) { read = false }) refl q ∙ off_settled;
        others = λ p t other is.
            awake_read settled q false p t other
            (awake_settled shelf_off lawful_on sides_on on.banded q p t (next_on p t is) (awake_shelved v (with_shelf q ms v.arena) q ms refl refl p t other (on.others p t other is)));
      }

  -- ---- the message is put on the next queue

  module _ (off : QueuedBlocks) (on : IsUnderway off) (m : Message) where
    abbrev so : Bool
    so = enables_put (flags_of off n) (rank_of off.arena.store m)

    abbrev put : QueuedBlocks
    put = with_one_put n m off

    alone : put.queues ≡ record off.queues { run = put.queues.run }
    alone = (enabled_where_grows so n off.queues).alone

    pub messages_put : messages_on put q ≡ messages_on off q
    messages_put = get_or-set_other off.arena.shelves n q _ [] (λ same. absurd (omega (arith, ahead, same)))

    pub underway_put : IsUnderway put
    underway_put = record {
      same = ap (λ (s : QueueState). s.specs) alone ∙ on.same;
      banded = λ p. ap (λ (s : QueueState). length (flags_at s p).wanted) alone ∙ on.banded p;
      flagged = ap (λ (s : QueueState). length s.flags) alone ∙ on.flagged;
      shelved = length-set off.arena.shelves n _ ∙ on.shelved;
      ordered = ap (is_ordered (rank_of off.arena.store)) messages_put ∙ on.ordered;
      low = ap (list_all (λ x. nat_le (rank_of off.arena.store x) high_rank)) messages_put ∙ on.low;
      off = ap (λ (s : QueueState). (flags_at s q).noenable) alone ∙ on.off;
      others = λ p t other is.
          awake_put off (lawful_on off on) (sides_on off on) n (rank_of off.arena.store m) (as_queued off.arena.store m) (sym (rank_of-queued off.arena.store m)) (with_put n m off.arena) refl refl
          (on.shelved ∙ ap length (sym on.same)) p t (next_on off on p t is) (on.others p t other is);
    }

    -- ---- or back

    module _ (ms : List Message) (behind : messages_on off q ≡ ms) (ordered : is_ordered (rank_of off.arena.store) (m ∷ ms) ≡ true) (low : nat_le (rank_of off.arena.store m) high_rank ≡ true)
        (ordinary : (rank_of off.arena.store m == high_rank) ≡ false) where
      rank : ℕ
      rank = rank_of off.arena.store m

      abbrev marked : QueuedBlocks
      marked = with_state (with_wanted n (rank_of off.arena.store m)) off

      abbrev back : QueuedBlocks
      back = with_one_put_back q m marked

      abbrev so_back : Bool
      so_back = enables_put_back (flags_of marked q) (rank_of off.arena.store m)

      is_band : rank_of off.arena.store m < bands
      is_band = omega (arith, leb-true (rank_of off.arena.store m) high_rank low, eqb-false (rank_of off.arena.store m) high_rank ordinary)

      alone_back : back.queues ≡ record marked.queues { run = back.queues.run }
      alone_back = (enabled_where_grows so_back q marked.queues).alone

      off_back : (flags_of back q).noenable ≡ false
      off_back =
          ap (λ (s : QueueState). (flags_at s q).noenable) alone_back
          ∙ flags_related SameOff (λ f. refl) off.queues.flags n (record (flags_of off n) { wanted = set (flags_of off n).wanted (rank_of off.arena.store m) true }) refl q ∙ on.off

      messages_back : messages_on back q ≡ m ∷ ms
      messages_back =
          get_or-set_same off.arena.shelves q _ [] (omega (arith, q_within, on.shelved))
          ∙ (λ i. put_ahead (rank_of off.arena.store) (low_queued off.arena.store m (eqb-false (rank_of off.arena.store m) high_rank ordinary) i) (behind i))
          ∙ put_first (rank_of off.arena.store) m ms ordered

      wanted_back : has_band (flags_of back n).wanted (rank_of off.arena.store m) ≡ true
      wanted_back =
          ap (λ (s : QueueState). has_band (flags_at s n).wanted (rank_of off.arena.store m)) alone_back
          ∙ ap (λ (f : Flags). has_band f.wanted (rank_of off.arena.store m)) (get_or-set_same off.queues.flags n _ opening_flags (omega (arith, n_within, on.flagged)))
          ∙ get_or-set_same (flags_of off n).wanted (rank_of off.arena.store m) true false (omega (arith, is_band, on.banded n))

      rests_back : may_rest back.arena.store (flags_of back q).read (flags_of back n).wanted (messages_on back q) ≡ true
      rests_back =
          ap (may_rest off.arena.store (flags_of back q).read (flags_of back n).wanted) messages_back
          ∙ and_from (not (rank_of off.arena.store m == high_rank)) _ (not_from_false _ ordinary) wanted_back

      back_awake : AllAwake back
      back_awake p t is =
          elim (cases_eq p q) [
            | inl same ↦
                let there : n ≡ t = same_Some n t (sym next ∙ ap (next_of specs) (sym same) ∙ is) in
                subst (λ k. is_awake back p k ≡ true) there (subst (λ k. is_awake back k n ≡ true) (sym same) (awake_at_rest back q n off_back rests_back))
            | inr other ↦
                awake_grown (record marked { arena = with_put_back q m off.arena }) (enabled_where so_back q marked.queues) (enabled_where_grows so_back q marked.queues) p t
                (awake_shelved marked (with_put_back q m off.arena) q _ refl refl p t other (awake_wanted off n (rank_of off.arena.store m) p t (on.others p t other is)))
          ]

      -- the wanted mark is set at the target of the next queue, which is that queue
      pub placed_back_awake : AllAwake (with_one_placed q n m false off)
      placed_back_awake =
          subst (λ k. AllAwake (with_one_put_back q m (with_state (with_wanted k (rank_of off.arena.store m)) off)))
          (sym (target_is off.queues.specs (sides_on off on) n)) back_awake

  -- ---- one message is handed on

  -- a message that went leaves one less; otherwise the service ends
  abbrev pub Hands : ℕ → Bool → QueuedBlocks → Type 0
  Hands count true w = IsUnderway w × (suc (length (messages_on w q)) ≡ count)
  Hands count false w = AllAwake w

  module _ (v : QueuedBlocks) (on : IsUnderway v) where
    hands_first : (ms : List Message) → messages_on v q ≡ ms → Hands (length ms) (hand_first q n ms v).0 (hand_first q n ms v).1
    hands_first [] first = ended_awake v on first
    hands_first (m ∷ ms) first = by_leave (has_leave n off.queues off.arena m) refl
      where
        off : QueuedBlocks
        off = with_first_off q ms v

        by_leave : (goes : Bool) → has_leave n (with_first_off q ms v).queues (with_first_off q ms v).arena m ≡ goes → Hands (suc (length ms)) goes (with_one_placed q n m goes (with_first_off q ms v))
        by_leave true goes = (
          underway_put (with_first_off q ms v) (underway_off v on m ms first) m,
          ap (λ (xs : List Message). suc (length xs)) (messages_put (with_first_off q ms v) (underway_off v on m ms first) m ∙ messages_off v on m ms first),
        )
        by_leave false stays =
            placed_back_awake (with_first_off q ms v) (underway_off v on m ms first) m ms (messages_off v on m ms first) (ordered_all v on m ms first) (low_parts v on m ms first).0
            (or_parts (rank_of v.arena.store m == high_rank) _ stays).0

    pub hands_on : Hands (length (messages_on v q)) (handed_on q n v).0 (handed_on q n v).1
    unfolding handed_on
    hands_on = hands_first (messages_on v q) refl

  -- a service that ends leaves all messages where they were
  module _ (v : QueuedBlocks) (on : IsUnderway v) where
    first_shelves : (ms : List Message) → messages_on v q ≡ ms → (hand_first q n ms v).0 ≡ false → (hand_first q n ms v).1.arena.shelves ≡ v.arena.shelves
    first_shelves [] first stays = refl
    first_shelves (m ∷ ms) first stays =
        ap (λ goes. (with_one_placed q n m goes (with_first_off q ms v)).arena.shelves) stays
        ∙ ap (set (set v.arena.shelves q ms) q)
        ((λ i. put_ahead (rank_of v.arena.store) (low_queued v.arena.store m (eqb-false (rank_of v.arena.store m) high_rank (or_parts (rank_of v.arena.store m == high_rank) _ stays).0) i) (messages_off v on m ms first i))
        ∙ put_first (rank_of v.arena.store) m ms (ordered_all v on m ms first))
        ∙ set-set v.arena.shelves q ms (m ∷ ms) ∙ ap (set v.arena.shelves q) (sym first) ∙ set-get_or v.arena.shelves q []

    pub hand_shelves : (handed_on q n v).0 ≡ false → (handed_on q n v).1.arena.shelves ≡ v.arena.shelves
    unfolding handed_on
    hand_shelves = first_shelves (messages_on v q) refl

    pub hand_store : (handed_on q n v).1.arena.store ≡ v.arena.store
    unfolding handed_on
    hand_store = by_first (messages_on v q)
      where
        by_leave : (m : Message) (goes : Bool) (x : QueuedBlocks) → (with_one_placed q n m goes x).arena.store ≡ x.arena.store
        by_leave m true x = refl
        by_leave m false x = refl

        by_first : (ms : List Message) → (hand_first q n ms v).1.arena.store ≡ v.arena.store
        by_first [] = refl
        by_first (m ∷ ms) = by_leave m (has_leave n (with_first_off q ms v).queues (with_first_off q ms v).arena m) (with_first_off q ms v)

  -- ---- all messages that may go

  further_awake : (attempts : ℕ) → ((w : QueuedBlocks) → IsUnderway w → length (messages_on w q) < attempts → AllAwake (forwarded attempts q n w).1) → (count : ℕ) → count < suc attempts
      → (goes : Bool) (w : QueuedBlocks) → Hands count goes w → AllAwake (go_on (forwarded attempts q n) (goes, w)).1
  further_awake attempts further count few true w hands = further w hands.0 (omega (arith, few, hands.1))
  further_awake attempts further count few false w hands = hands

  pub forwarded_awake : (attempts : ℕ) (v : QueuedBlocks) → IsUnderway v → length (messages_on v q) < attempts → AllAwake (forwarded attempts q n v).1
  unfolding forwarded
  forwarded_awake zero v on few = absurd (omega (arith, few))
  forwarded_awake (suc attempts) v on few =
      further_awake attempts (forwarded_awake attempts) (length (messages_on v q)) few (handed_on q n v).0 (handed_on q n v).1 (hands_on v on)

  pub all_forwarded_awake : (v : QueuedBlocks) → IsUnderway v → AllAwake (all_forwarded q n v).1
  all_forwarded_awake v on = forwarded_awake (suc (length (messages_on v q))) v on (omega arith)
