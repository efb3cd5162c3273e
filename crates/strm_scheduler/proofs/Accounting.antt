-- Each message that joins a queue is there, is taken or is freed, once, and those of a rank in order.
use Rattle.std.proofs.Common.{◌≡◌, ◌≢◌, ℕ, zero, suc, ◌+◌, ◌<◌, inl, inr, Bool, true, false, not, ◌==◌, ◌++◌, filter, List, [], ◌∷◌, length, get_or, set, None, refl, sym, ap, ◌∙◌, subst, arith, append-nil, append_assoc, if◌then◌else◌, get_or-set_other, get_or-set_same, length-set}
use Rattle.std.specs.Prelude.{count_by, nat_le}
use Rattle.std.specs.List.{All, flat_map, list_any}
use Rattle.std.proofs.lemmas.Bool.{cases_eq, cases_lt, cond-false, cond-true, eq-eqb, eqb-false, eqb-true, false≢true, le-leb, ltb-true, ne_eqb, or_parts}
use Rattle.std.proofs.lemmas.Grind.{flat_map-append}
use Rattle.std.proofs.lemmas.List.{get_or_past, map-append, set-set}
use Rattle.std.proofs.lemmas.List.Elements.{filter-append}
use Rattle.std.proofs.lemmas.List.Sums.{sum_by-append, sum_by-cons}
use Rattle.strm_data.specs.DataStore.{DataStore}
use Rattle.strm_mblk.specs.declared.token.TokenValue.{TokenValue}
use Rattle.strm_mblk.specs.Arena.{Arena, message_at, shelf_at, with_shelf, without_held}
use Rattle.strm_mblk.specs.Block.{Block, Message}
use Rattle.strm_mblk.specs.Frame.{IsSameData}
use Rattle.strm_mblk.proofs.Lists.{count_by-map}
use Rattle.strm_pool.specs.PoolValue.{PoolValue, has_queue, queued_blocks_of, with_queued}
use Rattle.strm_queue.specs.declared.flush.Flush.{Flush}
use Rattle.strm_queue.specs.Ends.{of_rank}
use Rattle.strm_queue.specs.Flow.{QueueState, enables_put_back}
use Rattle.strm_queue.specs.Flush.{is_picked}
use Rattle.strm_queue.specs.Limits.{high_rank}
use Rattle.strm_queue.specs.QueueCalls.{flags_of, next_service, with_flushed, with_queue_settled}
use Rattle.strm_queue.specs.QueuedBlocks.{QueuedBlocks}
use Rattle.strm_queue.specs.Rank.{as_queued, put_ahead, put_behind, rank_of}
use Rattle.strm_queue.proofs.Agreeing.{rank_of-same}
use Rattle.strm_queue.proofs.order.Order.{low_queued}
use Rattle.strm_scheduler.specs.Forwarding.{hand_first, handed_on, has_leave, with_band_wanted, with_first_off, with_one_placed, with_put}
use Rattle.strm_scheduler.specs.Modules.{AreTreated, AreTurns, Ends, IsTreated, IsTurn, Needs, Treats, service_moves, treated_moves, turn_moves, turns_moves}
use Rattle.strm_scheduler.specs.Steps.{Accounts, AreMoved, AreSteps, Changed, Enabled, Flushed, IsStep, Move, Put, Ranked, Step, all_freed, all_joined, all_taken, free_of_queue, join, moves_at, ranked, ranked_at, step_moves, steps_moves, take_off, with_message_put, with_queue_flushed, with_rank}
use Rattle.strm_scheduler.specs.Serving.{IsTaken}
use Rattle.strm_scheduler.proofs.PoolLaws.{joined_parts}
use Rattle.strm_scheduler.proofs.Holding.{enabled_specs}
use Rattle.strm_scheduler.proofs.Moving.{enabling_keeps, put_keeps, put_leaves}
use Rattle.strm_scheduler.proofs.Ordering.{of_rank-put}
use Rattle.strm_scheduler.proofs.Settling.{settled_specs}
use Rattle.strm_scheduler.proofs.Stepping.{flushed_is, freed_data, freed_shelves, rank_same}
use Rattle.strm_scheduler.proofs.Unchanged.{shelf_data}

-- ---- what passes a test is counted

module _ {X : Type 0} (test : X → Bool) where
  count-cons : (x : X) (xs : List X) → count_by test (x ∷ xs) ≡ (if test x then 1 else 0) + count_by test xs
  count-cons x xs = sum_by-cons (λ y. if test y then 1 else 0) x xs

  count-append : (xs ys : List X) → count_by test (xs ++ ys) ≡ count_by test xs + count_by test ys
  count-append xs ys = sum_by-append (λ y. if test y then 1 else 0) xs ys

  count-filter : (picked : X → Bool) (xs : List X) → count_by test (filter (λ x. not (picked x)) xs) + count_by test (filter picked xs) ≡ count_by test xs
  count-filter picked [] = refl
  count-filter picked (x ∷ xs) = by_test (picked x) (count-filter picked xs)
    where
      by_test : (b : Bool) → count_by test (filter (λ y. not (picked y)) xs) + count_by test (filter picked xs) ≡ count_by test xs
          → count_by test (if not b then x ∷ filter (λ y. not (picked y)) xs else filter (λ y. not (picked y)) xs) + count_by test (if b then x ∷ filter picked xs else filter picked xs) ≡ count_by test (x ∷ xs)
      by_test true rest = omega (arith, rest, count-cons x (filter picked xs), count-cons x xs)
      by_test false rest = omega (arith, rest, count-cons x (filter (λ y. not (picked y)) xs), count-cons x xs)

module _ (test : Message → Bool) (rank : Message → ℕ) (m : Message) where
  count-put : (ms : List Message) → count_by test (put_behind rank m ms) ≡ count_by test (m ∷ ms)
  count-put [] = refl
  count-put (x ∷ xs) = by_any (list_any (λ y. nat_le (rank m) (rank y)) (x ∷ xs)) (count-put xs)
    where
      by_any : (b : Bool) → count_by test (put_behind rank m xs) ≡ count_by test (m ∷ xs) → count_by test (if b then x ∷ put_behind rank m xs else m ∷ x ∷ xs) ≡ count_by test (m ∷ x ∷ xs)
      by_any true rest = omega (arith, rest, count-cons test x (put_behind rank m xs), count-cons test m (x ∷ xs), count-cons test x xs, count-cons test m xs)
      by_any false rest = refl

  count-put_back : (ms : List Message) → count_by test (put_ahead rank m ms) ≡ count_by test (m ∷ ms)
  count-put_back [] = refl
  count-put_back (x ∷ xs) = by_rank (nat_le (rank x) (rank m)) (count-put_back xs)
    where
      by_rank : (b : Bool) → count_by test (put_ahead rank m xs) ≡ count_by test (m ∷ xs) → count_by test (if b then m ∷ x ∷ xs else x ∷ put_ahead rank m xs) ≡ count_by test (m ∷ x ∷ xs)
      by_rank true rest = refl
      by_rank false rest = omega (arith, rest, count-cons test x (put_ahead rank m xs), count-cons test m (x ∷ xs), count-cons test x xs, count-cons test m xs)

-- ---- messages of a rank

module _ (rank : Message → ℕ) (r : ℕ) (m : Message) where
  -- a message is put back before all those of its rank
  of_rank-put_back : (ms : List Message) → of_rank rank r (put_ahead rank m ms) ≡ of_rank rank r (m ∷ ms)
  of_rank-put_back [] = refl
  of_rank-put_back (x ∷ xs) = by_low (nat_le (rank x) (rank m)) refl (of_rank-put_back xs)
    where
      both : (one other : Bool) → (rank m == r) ≡ one → (rank x == r) ≡ other → nat_le (rank x) (rank m) ≡ false
          → (if other then x ∷ (if one then m ∷ of_rank rank r xs else of_rank rank r xs) else (if one then m ∷ of_rank rank r xs else of_rank rank r xs))
          ≡ (if one then m ∷ (if other then x ∷ of_rank rank r xs else of_rank rank r xs) else (if other then x ∷ of_rank rank r xs else of_rank rank r xs))
      both true true one other above =
          let here = eqb-true (rank m) r one in
          let there = eqb-true (rank x) r other in
          absurd (false≢true (sym above ∙ le-leb (rank x) (rank m) (omega (arith, here, there))))
      both true false one other above = refl
      both false true one other above = refl
      both false false one other above = refl

      by_low : (b : Bool) → nat_le (rank x) (rank m) ≡ b → of_rank rank r (put_ahead rank m xs) ≡ of_rank rank r (m ∷ xs)
          → of_rank rank r (if b then m ∷ x ∷ xs else x ∷ put_ahead rank m xs) ≡ of_rank rank r (m ∷ x ∷ xs)
      by_low true low rest = refl
      by_low false above rest = ap (λ (ms : List Message). if rank x == r then x ∷ ms else ms) rest ∙ both (rank m == r) (rank x == r) refl refl above

module _ (s : DataStore) where
  ranked-rank : (r : ℕ) (ms : List Message) → with_rank r (ranked s ms) ≡ ranked s (of_rank (rank_of s) r ms)
  ranked-rank r [] = refl
  ranked-rank r (m ∷ ms) = by_rank (rank_of s m == r) (ranked-rank r ms)
    where
      by_rank : (b : Bool) → with_rank r (ranked s ms) ≡ ranked s (of_rank (rank_of s) r ms)
          → (if b then (rank_of s m, m) ∷ with_rank r (ranked s ms) else with_rank r (ranked s ms)) ≡ ranked s (if b then m ∷ of_rank (rank_of s) r ms else of_rank (rank_of s) r ms)
      by_rank true rest = ap (λ (xs : List Ranked). (rank_of s m, m) ∷ xs) rest
      by_rank false rest = rest

  none_ranked : (ms : List Message) → ranked s ms ≡ [] → ms ≡ []
  none_ranked [] none = refl
  none_ranked (m ∷ ms) none = absurd (omega (arith, ap length none))

-- if none is picked, all others are all
others_all : (picked : Message → Bool) (ms : List Message) → filter picked ms ≡ [] → filter (λ m. not (picked m)) ms ≡ ms
others_all picked [] none = refl
others_all picked (m ∷ ms) none = by_test (picked m) none (others_all picked ms)
  where
    by_test : (b : Bool) → (if b then m ∷ filter picked ms else filter picked ms) ≡ [] → (filter picked ms ≡ [] → filter (λ x. not (picked x)) ms ≡ ms)
        → (if not b then m ∷ filter (λ x. not (picked x)) ms else filter (λ x. not (picked x)) ms) ≡ m ∷ ms
    by_test true none rest = absurd (omega (arith, ap length none))
    by_test false none rest = ap (λ (xs : List Message). m ∷ xs) (rest none)

-- ---- accounts of one queue

accounts_none : (ms : List Ranked) → Accounts [] ms ms
accounts_none ms = record { once = λ test. omega arith; order = λ r none. ap (with_rank r) (sym (append-nil ms)) }

nothing_joined : (xs ys : List Ranked) → xs ++ ys ≡ [] → (xs ≡ []) × (ys ≡ [])
nothing_joined [] ys none = (refl, none)
nothing_joined (x ∷ xs) ys none = absurd (omega (arith, ap length none))

module _ (xs ys : List Move) (us vs ws : List Ranked) (first : Accounts xs us vs) (second : Accounts ys vs ws) where
  accounts_joined : Accounts (xs ++ ys) us ws
  accounts_joined = record {
    once = λ test.
        let both : (part : Move → List Ranked) → count_by test (flat_map part (xs ++ ys)) ≡ count_by test (flat_map part xs) + count_by test (flat_map part ys) =
        λ part. ap (count_by test) (flat_map-append part xs ys) ∙ count-append test (flat_map part xs) (flat_map part ys) in
        omega (arith, first.once test, second.once test, both (λ x. x.joined), both (λ x. x.taken), both (λ x. x.freed));
    order = λ r none.
        let nothing = nothing_joined (all_freed xs) (all_freed ys) (sym (flat_map-append (λ (x : Move). x.freed) xs ys) ∙ none) in
        let test : Ranked → Bool = λ m. m.0 == r in
        ap (λ (ms : List Ranked). with_rank r (ms ++ ws)) (flat_map-append (λ (x : Move). x.taken) xs ys)
        ∙ ap (with_rank r) (append_assoc (all_taken xs) (all_taken ys) ws)
        ∙ filter-append test (all_taken xs) (all_taken ys ++ ws)
        ∙ ap (λ (ms : List Ranked). with_rank r (all_taken xs) ++ ms) (second.order r nothing.1 ∙ filter-append test vs (all_joined ys))
        ∙ sym (append_assoc (with_rank r (all_taken xs)) (with_rank r vs) (with_rank r (all_joined ys)))
        ∙ ap (λ (ms : List Ranked). ms ++ with_rank r (all_joined ys)) (sym (filter-append test (all_taken xs) vs) ∙ first.order r nothing.0)
        ∙ sym (filter-append test (us ++ all_joined xs) (all_joined ys))
        ∙ ap (with_rank r) (append_assoc us (all_joined xs) (all_joined ys))
        ∙ ap (λ (ms : List Ranked). with_rank r (us ++ ms)) (sym (flat_map-append (λ (x : Move). x.joined) xs ys));
  }

module _ (s : DataStore) (q : ℕ) where
  accounts_taken : (m : Message) (ms : List Message) → Accounts (take_off q (ranked s (m ∷ [])) ∷ []) (ranked s (m ∷ ms)) (ranked s ms)
  accounts_taken m ms = record {
    once = λ test. omega (arith, count-cons test (rank_of s m, m) (ranked s ms), count-cons test (rank_of s m, m) []);
    order = λ r none. ap (with_rank r) (sym (append-nil (ranked s (m ∷ ms))));
  }

  accounts_put : (m : Message) (ms : List Message) → Accounts (join q (ranked s (m ∷ [])) ∷ []) (ranked s ms) (ranked s (put_behind (rank_of s) m ms))
  accounts_put m ms = record {
    once = λ test.
        let kept : Message → Bool = λ k. test (rank_of s k, k) in
        let all : (ks : List Message) → count_by test (ranked s ks) ≡ count_by kept ks = λ ks. count_by-map test (λ k. (rank_of s k, k)) ks in
        omega (arith, all (put_behind (rank_of s) m ms), count-put kept (rank_of s) m ms, all ms, count-cons kept m ms, count-cons test (rank_of s m, m) []);
    order = λ r none.
        ranked-rank s r (put_behind (rank_of s) m ms)
        ∙ ap (ranked s) (of_rank-put (rank_of s) r m ms)
        ∙ map-append (λ k. (rank_of s k, k)) (of_rank (rank_of s) r ms) (of_rank (rank_of s) r (m ∷ []))
        ∙ sym (λ i. ranked-rank s r ms i ++ ranked-rank s r (m ∷ []) i)
        ∙ sym (filter-append (λ (k : Ranked). k.0 == r) (ranked s ms) (ranked s (m ∷ [])));
  }

  accounts_put_back : (m : Message) (ms : List Message) → Accounts [] (ranked s (m ∷ ms)) (ranked s (put_ahead (rank_of s) m ms))
  accounts_put_back m ms = record {
    once = λ test.
        let kept : Message → Bool = λ k. test (rank_of s k, k) in
        let all : (ks : List Message) → count_by test (ranked s ks) ≡ count_by kept ks = λ ks. count_by-map test (λ k. (rank_of s k, k)) ks in
        omega (arith, all (put_ahead (rank_of s) m ms), count-put_back kept (rank_of s) m ms, all (m ∷ ms));
    order = λ r none.
        ranked-rank s r (put_ahead (rank_of s) m ms) ∙ ap (ranked s) (of_rank-put_back (rank_of s) r m ms) ∙ sym (ranked-rank s r (m ∷ ms))
        ∙ ap (with_rank r) (sym (append-nil (ranked s (m ∷ ms))));
  }

  accounts_freed : (picked : Message → Bool) (ms : List Message)
      → Accounts (free_of_queue q (ranked s (filter picked ms)) ∷ []) (ranked s ms) (ranked s (filter (λ m. not (picked m)) ms))
  accounts_freed picked ms = record {
    once = λ test.
        let kept : Message → Bool = λ k. test (rank_of s k, k) in
        let all : (ks : List Message) → count_by test (ranked s ks) ≡ count_by kept ks = λ ks. count_by-map test (λ k. (rank_of s k, k)) ks in
        let freed = ap (count_by test) (append-nil (ranked s (filter picked ms))) in
        omega (arith, freed, all (filter picked ms), all (filter (λ m. not (picked m)) ms), all ms, count-filter kept picked ms);
    order = λ r none.
        ap (λ (ks : List Message). with_rank r (ranked s ks)) (others_all picked ms (none_ranked s (filter picked ms) (sym (append-nil (ranked s (filter picked ms))) ∙ none)))
        ∙ ap (with_rank r) (sym (append-nil (ranked s ms)));
  }

-- ---- ranks stay

module _ (s t : DataStore) where
  ranked_same : ((m : Message) → rank_of t m ≡ rank_of s m) → (ms : List Message) → ranked t ms ≡ ranked s ms
  ranked_same same [] = refl
  ranked_same same (m ∷ ms) = λ i. (same m i, m) ∷ ranked_same same ms i

  ranked_kept : (ms : List Message) → All (IsSameData s t) (flat_map (λ m. m) ms) → ranked t ms ≡ ranked s ms
  ranked_kept [] same = refl
  ranked_kept (m ∷ ms) same =
      let parts = joined_parts (IsSameData s t) m (flat_map (λ x. x) ms) same in
      λ i. (rank_of-same s t m parts.0 i, m) ∷ ranked_kept ms parts.1 i

-- ---- all queues

moved_none : (a b : Arena) → ((q : ℕ) → ranked_at b q ≡ ranked_at a q) → AreMoved [] a b
moved_none a b same q = subst (Accounts [] (ranked_at a q)) (sym (same q)) (accounts_none (ranked_at a q))

moved_joined : (xs ys : List Move) (a b c : Arena) → AreMoved xs a b → AreMoved ys b c → AreMoved (xs ++ ys) a c
moved_joined xs ys a b c first second q =
    subst (λ (zs : List Move). Accounts zs (ranked_at a q) (ranked_at c q)) (sym (filter-append (λ (x : Move). x.queue == q) xs ys))
    (accounts_joined (moves_at q xs) (moves_at q ys) (ranked_at a q) (ranked_at b q) (ranked_at c q) (first q) (second q))

accounts_as : (xs ys : List Move) (us vs ms ns : List Ranked) → xs ≡ ys → us ≡ vs → ms ≡ ns → Accounts ys vs ns → Accounts xs us ms
accounts_as xs ys us vs ms ns moves before after accounts =
    subst (λ (zs : List Move). Accounts zs us ms) (sym moves) (subst (λ (ks : List Ranked). Accounts ys ks ms) (sym before) (subst (λ (ks : List Ranked). Accounts ys vs ks) (sym after) accounts))

-- only queue q has other messages
module _ (moves : List Move) (q : ℕ) (own : moves_at q moves ≡ moves) (away : (p : ℕ) → q ≢ p → moves_at p moves ≡ []) (a b : Arena) (ms : List Message) (within : q < length a.shelves)
    (shelves : b.shelves ≡ set a.shelves q ms) (ranks : (m : Message) → rank_of b.store m ≡ rank_of a.store m) (here : Accounts moves (ranked_at a q) (ranked a.store ms)) where
  shelf_is : (p : ℕ) → ranked_at b p ≡ ranked a.store (get_or (set a.shelves q ms) p [])
  shelf_is p = ranked_same a.store b.store ranks (shelf_at b p) ∙ ap (λ (ss : List (List Message)). ranked a.store (get_or ss p [])) shelves

  moved_one : AreMoved moves a b
  moved_one p =
      elim (cases_eq q p) [
        | inl same ↦
            accounts_as (moves_at p moves) moves (ranked_at a p) (ranked_at a q) (ranked_at b p) (ranked a.store ms) (ap (λ k. moves_at k moves) (sym same) ∙ own) (ap (ranked_at a) (sym same))
            (shelf_is p ∙ ap (λ k. ranked a.store (get_or (set a.shelves q ms) k [])) (sym same) ∙ ap (ranked a.store) (get_or-set_same a.shelves q ms [] within)) here
        | inr other ↦
            accounts_as (moves_at p moves) [] (ranked_at a p) (ranked_at a p) (ranked_at b p) (ranked_at a p) (away p other) refl
            (shelf_is p ∙ ap (ranked a.store) (get_or-set_other a.shelves q p ms [] (λ is. other (sym is)))) (accounts_none (ranked_at a p))
      ]

module _ (x : Move) where
  own_one : moves_at x.queue (x ∷ []) ≡ x ∷ []
  own_one = cond-true (x.queue == x.queue) (x ∷ []) [] (eq-eqb x.queue x.queue refl)

  away_one : (p : ℕ) → x.queue ≢ p → moves_at p (x ∷ []) ≡ []
  away_one p other = cond-false (x.queue == p) (x ∷ []) [] (ne_eqb x.queue p other)

-- ---- pools

-- these moves were made, and the queues are those that they were
pub record MovesTo (moves : List Move) (v w : PoolValue) : Type 0 where
  pub moved : AreMoved moves v.arena w.arena
  pub shelves : length w.arena.shelves ≡ length v.arena.shelves
  pub specs : w.queues.specs ≡ v.queues.specs

abbrev pub IsShelved : PoolValue → Type 0
IsShelved v = length v.arena.shelves ≡ length v.queues.specs

shelved_then : (moves : List Move) (v w : PoolValue) → MovesTo moves v w → IsShelved v → IsShelved w
shelved_then moves v w to shelved = to.shelves ∙ shelved ∙ sym (ap length to.specs)

joined_to : (xs ys : List Move) (u v w : PoolValue) → MovesTo xs u v → MovesTo ys v w → MovesTo (xs ++ ys) u w
joined_to xs ys u v w first second = record {
  moved = moved_joined xs ys u.arena v.arena w.arena first.moved second.moved;
  shelves = second.shelves ∙ first.shelves;
  specs = second.specs ∙ first.specs;
}

-- then nothing moves
still_to : (xs : List Move) (u v w : PoolValue) → MovesTo xs u v → MovesTo [] v w → MovesTo xs u w
still_to xs u v w first second = subst (λ (zs : List Move). MovesTo zs u w) (append-nil xs) (joined_to xs [] u v w first second)

same_arena : (v w : PoolValue) → w.arena ≡ v.arena → w.queues.specs ≡ v.queues.specs → MovesTo [] v w
same_arena v w same specs = record {
  moved = moved_none v.arena w.arena (λ q. ap (λ (a : Arena). ranked_at a q) same);
  shelves = ap (λ (a : Arena). length a.shelves) same;
  specs = specs;
}

there_within : (v : PoolValue) (q : ℕ) → IsShelved v → has_queue v q ≡ true → q < length v.arena.shelves
there_within v q shelved there = omega (arith, shelved, ltb-true q (length v.queues.specs) there)

some_within : (shelves : List (List Message)) (q : ℕ) (m : Message) (ms : List Message) → get_or shelves q [] ≡ m ∷ ms → q < length shelves
some_within shelves q m ms some =
    elim (cases_lt q (length shelves)) [
      | inl below ↦ below
      | inr past ↦ absurd (omega (arith, ap length (sym (get_or_past shelves q [] past) ∙ some)))
    ]

-- ---- a step, and all steps

put_to : (v w : PoolValue) (p : ℕ) (t : TokenValue) → has_queue v p ≡ true → w ≡ with_message_put p t v → IsShelved v → MovesTo (step_moves (Put p t) v) v w
put_to v w p t there after shelved =
    let s : DataStore = v.arena.store in
    let m : Message = as_queued s (message_at v.arena t.head) in
    let left : w.arena ≡ with_put p (message_at v.arena t.head) (without_held t.head v.arena) = put_leaves v w p t.head there after in
    let x : Move = join p (ranked s (m ∷ [])) in
    record {
      moved =
          moved_one (x ∷ []) p (own_one x) (away_one x) v.arena w.arena (put_behind (rank_of s) m (shelf_at v.arena p)) (there_within v p shelved there) (ap (λ (a : Arena). a.shelves) left)
          (λ k. ap (λ (a : Arena). rank_of a.store k) left) (accounts_put s p m (shelf_at v.arena p));
      shelves = ap (λ (a : Arena). length a.shelves) left ∙ length-set v.arena.shelves p _;
      specs = (put_keeps v w p t.head there after).specs;
    }

flushed_to : (v w : PoolValue) (p : ℕ) (flush : Flush) → has_queue v p ≡ true → w ≡ with_queue_flushed p flush v → IsShelved v → MovesTo (step_moves (Flushed p flush) v) v w
flushed_to v w p flush there after shelved =
    let s : DataStore = v.arena.store in
    let picked : Message → Bool = is_picked s None flush in
    let ms : List Message = shelf_at v.arena p in
    let freed : List Block = flat_map (λ m. m) (filter picked ms) in
    let kept : Arena = with_shelf p (filter (λ m. not (picked m)) ms) v.arena in
    let is = after ∙ flushed_is v p flush there in
    let x : Move = free_of_queue p (ranked s (filter picked ms)) in
    let shelves_are : w.arena.shelves ≡ set v.arena.shelves p (filter (λ m. not (picked m)) ms) = ap (λ (u : PoolValue). u.arena.shelves) is ∙ freed_shelves freed kept in
    record {
      moved =
          moved_one (x ∷ []) p (own_one x) (away_one x) v.arena w.arena (filter (λ m. not (picked m)) ms) (there_within v p shelved there) shelves_are
          (rank_same s w.arena.store (ap (λ (u : PoolValue). u.arena.store.blocks) is ∙ freed_data freed kept)) (accounts_freed s p picked ms);
      shelves = ap length shelves_are ∙ length-set v.arena.shelves p _;
      specs =
          ap (λ (u : PoolValue). u.queues.specs) is
          ∙ enabled_specs p (with_queued v (with_queue_settled p (with_flushed p picked (queued_blocks_of v))))
          ∙ settled_specs (with_flushed p picked (queued_blocks_of v)) p;
    }

step_to : (q : ℕ) (s : Step) (v w : PoolValue) → IsStep q s v w → IsShelved v → MovesTo (step_moves s v) v w
step_to q Changed v w step shelved = record {
  moved = moved_none v.arena w.arena (λ p.
      ap (λ (ss : List (List Message)). ranked w.arena.store (get_or ss p [])) step.shelves
      ∙ ranked_kept v.arena.store w.arena.store (shelf_at v.arena p) (shelf_data v.arena.store w.arena.store v.arena.shelves p step.contents));
  shelves = ap length step.shelves;
  specs = ap (λ (s : QueueState). s.specs) step.queues;
}
step_to q (Put p t) v w step shelved = put_to v w p t step.1 step.3 shelved
step_to q (Flushed p flush) v w step shelved = flushed_to v w p flush step.0 step.1 shelved
step_to q (Enabled p) v w step shelved = same_arena v w (ap (λ (u : PoolValue). u.arena) step) (ap (λ (u : PoolValue). u.queues.specs) step ∙ enabled_specs p v)

steps_to : (q : ℕ) (ss : List Step) (v w : PoolValue) (steps : AreSteps q ss v w) → IsShelved v → MovesTo (steps_moves q ss v w steps) v w
steps_to q [] v w steps shelved = same_arena v w (ap (λ (u : PoolValue). u.arena) steps) (ap (λ (u : PoolValue). u.queues.specs) steps)
steps_to q (s ∷ ss) v w steps shelved =
    let first = step_to q s v steps.0 steps.1 shelved in
    joined_to (step_moves s v) (steps_moves q ss steps.0 w steps.2) v steps.0 w first (steps_to q ss steps.0 w steps.2 (shelved_then (step_moves s v) v steps.0 first shelved))

-- ---- a message is taken, or stays

taken_to : (q n : ℕ) (t : TokenValue) (v w : PoolValue) (taken : IsTaken q n t v w) → MovesTo (take_off q (ranked v.arena.store (taken.message ∷ [])) ∷ []) v w
taken_to q n t v w taken =
    let s : DataStore = v.arena.store in
    let x : Move = take_off q (ranked s (taken.message ∷ [])) in
    let shelves_are : w.arena.shelves ≡ set v.arena.shelves q taken.behind = ap (λ (a : Arena). a.shelves) taken.arena in
    record {
      moved =
          moved_one (x ∷ []) q (own_one x) (away_one x) v.arena w.arena taken.behind (some_within v.arena.shelves q taken.message taken.behind taken.first) shelves_are
          (λ k. ap (λ (a : Arena). rank_of a.store k) taken.arena)
          (subst (λ (ms : List Message). Accounts (x ∷ []) (ranked s ms) (ranked s taken.behind)) (sym taken.first) (accounts_taken s q taken.message taken.behind));
      shelves = ap length shelves_are ∙ length-set v.arena.shelves q taken.behind;
      specs = ap (λ (u : QueueState). u.specs) taken.queues ∙ settled_specs (record (queued_blocks_of v) { arena = with_shelf q taken.behind v.arena }) q;
    }

module _ (q n : ℕ) (v w : PoolValue) where
  abbrev first_off : List Message → QueuedBlocks
  first_off ms = with_first_off q ms (queued_blocks_of v)

  back_to : (m : Message) (ms : List Message) → shelf_at v.arena q ≡ m ∷ ms → has_leave n (first_off ms).queues (first_off ms).arena m ≡ false
      → queued_blocks_of w ≡ with_one_placed q n m false (first_off ms) → MovesTo [] v w
  back_to m ms first stays after =
      let s : DataStore = v.arena.store in
      let within = some_within v.arena.shelves q m ms first in
      let marked : QueuedBlocks = with_band_wanted n m (first_off ms) in
      let low = eqb-false (rank_of s m) high_rank (or_parts (rank_of s m == high_rank) _ stays).0 in
      let shelves_are : w.arena.shelves ≡ set v.arena.shelves q (put_ahead (rank_of s) m ms) =
      ap (λ (u : QueuedBlocks). u.arena.shelves) after
      ∙ ap (set (set v.arena.shelves q ms) q) (λ i. put_ahead (rank_of s) (low_queued s m low i) (get_or-set_same v.arena.shelves q ms [] within i))
      ∙ set-set v.arena.shelves q ms (put_ahead (rank_of s) m ms) in
      record {
        moved =
            moved_one [] q refl (λ p other. refl) v.arena w.arena (put_ahead (rank_of s) m ms) within shelves_are (λ k. ap (λ (u : QueuedBlocks). rank_of u.arena.store k) after)
            (subst (λ (ks : List Message). Accounts [] (ranked s ks) (ranked s (put_ahead (rank_of s) m ms))) (sym first) (accounts_put_back s q m ms));
        shelves = ap length shelves_are ∙ length-set v.arena.shelves q _;
        specs =
            ap (λ (u : QueuedBlocks). u.queues.specs) after
            ∙ (enabling_keeps (enables_put_back (flags_of marked q) (rank_of s m)) q marked.queues).specs
            ∙ settled_specs (record (queued_blocks_of v) { arena = with_shelf q ms v.arena }) q;
      }

  left_to : (ms : List Message) → shelf_at v.arena q ≡ ms → hand_first q n ms (queued_blocks_of v) ≡ (false, queued_blocks_of w) → MovesTo [] v w
  left_to [] first ended = same_arena v w (ap (λ (r : Bool × QueuedBlocks). r.1.arena) (sym ended)) (ap (λ (r : Bool × QueuedBlocks). r.1.queues.specs) (sym ended))
  left_to (m ∷ ms) first ended = by_leave (has_leave n (first_off ms).queues (first_off ms).arena m) refl ended
    where
      by_leave : (goes : Bool) → has_leave n (first_off ms).queues (first_off ms).arena m ≡ goes → ◌≡◌ {A = Bool × QueuedBlocks} (goes, with_one_placed q n m goes (first_off ms)) (false, queued_blocks_of w) → MovesTo [] v w
      by_leave true goes ended = absurd (false≢true (sym (ap (λ (r : Bool × QueuedBlocks). r.0) ended)))
      by_leave false stays ended = back_to m ms first stays (ap (λ (r : Bool × QueuedBlocks). r.1) (sym ended))

  handed_to : handed_on q n (queued_blocks_of v) ≡ (false, queued_blocks_of w) → MovesTo [] v w
  unfolding handed_on
  handed_to ended = left_to (shelf_at v.arena q) refl ended

-- ---- turns

module _ {M : Type 0} (needs : Needs M) (treats : Treats M) where
  treated_to : (q n : ℕ) (m : M) (v : PoolValue) (k : M) (w : PoolValue) (done : IsTreated needs treats q n m v k w) → IsShelved v
      → MovesTo (treated_moves needs treats q n m v k w done) v w
  treated_to q n m v k w done shelved =
      let first = taken_to q n done.token v done.held done.taken in
      joined_to (take_off q (ranked v.arena.store (done.taken.message ∷ [])) ∷ []) (steps_moves q done.steps done.held w done.stepped) v done.held w first
      (steps_to q done.steps done.held w done.stepped (shelved_then _ v done.held first shelved))

  service_to : (q n count : ℕ) (m : M) (v : PoolValue) (k : M) (w : PoolValue) (done : AreTreated needs treats q n count m v k w) → IsShelved v
      → MovesTo (service_moves needs treats q n count m v k w done) v w
  service_to q n zero m v k w done shelved = same_arena v w (ap (λ (u : PoolValue). u.arena) done.1) (ap (λ (u : PoolValue). u.queues.specs) done.1)
  service_to q n (suc count) m v k w done shelved =
      let before = service_to q n count m v done.0 done.1 done.2 shelved in
      joined_to (service_moves needs treats q n count m v done.0 done.1 done.2) (treated_moves needs treats q n done.0 done.1 k w done.3) v done.1 w before
      (treated_to q n done.0 done.1 k w done.3 (shelved_then _ v done.1 before shelved))

  ends_to : (q n : ℕ) (m : M) (v w : PoolValue) → Ends needs q n m v w → MovesTo [] v w
  ends_to q n m v w (inl ended) = handed_to q n v w ended.1
  ends_to q n m v w (inr held) = same_arena v w (ap (λ (u : PoolValue). u.arena) held.2) (ap (λ (u : PoolValue). u.queues.specs) held.2 ∙ enabled_specs q v)

  turn_to : (so : Bool) (m : M) (v : PoolValue) (k : M) (w : PoolValue) (done : IsTurn needs treats so m v k w) → IsShelved v → MovesTo (turn_moves needs treats so m v k w done) v w
  turn_to true m v k w done shelved =
      let begun : PoolValue = with_queued v (next_service (queued_blocks_of v)).1 in
      let moves : List Move = service_moves needs treats done.queue done.next done.treated.count m begun k done.treated.last done.treated.treated in
      still_to moves v done.treated.last w
      (joined_to [] moves v begun done.treated.last (same_arena v begun refl refl) (service_to done.queue done.next done.treated.count m begun k done.treated.last done.treated.treated shelved))
      (ends_to done.queue done.next k done.treated.last w done.treated.ends)
  turn_to false m v k w done shelved = same_arena v w (ap (λ (u : PoolValue). u.arena) done.1.after) (ap (λ (u : PoolValue). u.queues.specs) done.1.after)

  turns_to : (turns : List Bool) (m : M) (v : PoolValue) (k : M) (w : PoolValue) (done : AreTurns needs treats turns m v k w) → IsShelved v
      → MovesTo (turns_moves needs treats turns m v k w done) v w
  turns_to [] m v k w done shelved = same_arena v w (ap (λ (u : PoolValue). u.arena) done.1) (ap (λ (u : PoolValue). u.queues.specs) done.1)
  turns_to (so ∷ turns) m v k w done shelved =
      let before = turns_to turns m v done.0 done.1 done.2 shelved in
      joined_to (turns_moves needs treats turns m v done.0 done.1 done.2) (turn_moves needs treats so done.0 done.1 k w done.3) v done.1 w before
      (turn_to so done.0 done.1 k w done.3 (shelved_then _ v done.1 before shelved))

  pub turns_moved : (turns : List Bool) (m : M) (v : PoolValue) (k : M) (w : PoolValue) (done : AreTurns needs treats turns m v k w) → IsShelved v
      → AreMoved (turns_moves needs treats turns m v k w done) v.arena w.arena
  turns_moved turns m v k w done shelved = (turns_to turns m v k w done shelved).moved
