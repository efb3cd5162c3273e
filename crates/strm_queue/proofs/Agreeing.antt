-- When queues and message blocks agree, and how calls keep it.
use Rattle.std.proofs.Common.{◌≡◌, ℕ, ◌<◌, true, length, sym, ap, ◌∙◌, subst, arith, zero, suc, Bool, ◌+◌, ◌≤◌, ◌≢◌, false, ◌&&◌, ◌==◌, List, [], ◌∷◌, ◌++◌, get_or, set, replicate, Option, refl, if◌then◌else◌, length-set, length-append}
use Rattle.std.specs.Prelude.{nat_le, is_some}
use Rattle.std.specs.List.{All, flat_map, list_all}
use Rattle.std.proofs.lemmas.Bool.{cases_eq, false≢true}
use Rattle.std.proofs.lemmas.List.{get_or_append_left, get_or-append-add, length-map, length-replicate}
use Rattle.std.proofs.lemmas.List.Sums.{sum_by-cons}
use Rattle.strm_mblk.specs.Arena.{Arena, shelf_at, opening_arena, shelved_blocks}
use Rattle.strm_data.specs.declared.class_spec.ClassSpec.{ClassSpec}
use Rattle.strm_data.specs.DataStore.{DataBlock, DataStore}
use Rattle.strm_data.specs.MsgType.{is_high_priority}
use Rattle.strm_mblk.specs.Block.{Message, head_of, size_of}
use Rattle.strm_mblk.specs.Frame.{IsSameData, LeavesShelves}
use Rattle.strm_mblk.specs.Messages.{blocks_on, put_before_head}
use Rattle.strm_links.specs.Rows.{IsApart}
use Rattle.strm_queue.specs.Flow.{QueueState, band_count, flags_at, has_band, Flags, band_of_rank, enabled_where, every_band, fills, hiwat_of, is_of_band, opening_flags, opening_queues, with_read}
use Rattle.strm_queue.specs.QueuedBlocks.{Agrees, AreInOrder, QueuesValue, tally_at, AreMarksLawful, opening_value, with_tally}
use Rattle.strm_queue.specs.Tallies.{IsTallyOf, Tally, no_tally, one_less, one_more}
use Rattle.strm_queue.specs.declared.queue_spec.QueueSpec.{QueueSpec}
use Rattle.strm_queue.specs.Ends.{of_rank}
use Rattle.strm_queue.specs.Rank.{is_ordered, rank_of}
use Rattle.strm_queue.specs.Limits.{high_rank}
use Rattle.strm_queue.specs.QueueSpecs.{are_lawful}
use Rattle.strm_queue.specs.declared.tally.Placed.{Placed}
use Rattle.strm_queue.proofs.Laid.{marks_below}
use Rattle.strm_queue.proofs.Counting.{band_count-placed, tally_joined, tally_left, tally_none, IsPlaced}
use Rattle.strm_queue.proofs.order.Order.{around}
use Rattle.strm_queue.proofs.Shelf.{get_or-map_same, get_or-replicate_same, heads}
use Rattle.std.proofs.lemmas.Grind.{common_steps}
use Rattle.strm_links.specs.Rows as rows

module _ (v : QueuesValue) (a : Arena) (s : QueueState) (specs : s.specs ≡ v.state.specs) (marks : s.marks ≡ v.state.marks) where
  pub in_order_state : AreInOrder v a → AreInOrder (record v { state = s }) a
  in_order_state in_order = grind (arith, common_steps)

  pub agrees_state : ((q : ℕ) → (flags_at s q).wanted ≡ (flags_at v.state q).wanted) → Agrees v a → Agrees (record v { state = s }) a
  agrees_state wanted agrees = grind (arith, common_steps)

-- ---- one queue has other messages

-- queue q gets other messages and another tally
module _ (v : QueuesValue) (a : Arena) (in_order : AreInOrder v a) (q : ℕ) (within : q < length v.state.specs) (ms : List Message) (t : Tally)
    (b : Arena) (store : b.store ≡ a.store) (shelves : b.shelves ≡ set a.shelves q ms) where
  -- what holds of q's new messages and of every other queue's old ones holds of each queue
  each_at : (P : DataStore → ℕ → List Message → Tally → Type 0) → P a.store q ms t → ((p : ℕ) → P a.store p (shelf_at a p) (tally_at v p))
      → (p : ℕ) → P b.store p (shelf_at b p) (tally_at (with_tally q t v) p)
  each_at P here others p = grind (arith, common_steps)

  pub in_order_set : is_ordered (rank_of a.store) ms ≡ true → IsTallyOf a.store (hiwat_of v.state q) ms t → AreInOrder (with_tally q t v) b
  in_order_set ordered true_of = record {
    shelves = ap length shelves ∙ length-set a.shelves q ms ∙ in_order.shelves;
    stored = length-set v.tallies q t ∙ in_order.stored;
    ordered = each_at (λ s p xs u. is_ordered (rank_of s) xs ≡ true) ordered in_order.ordered;
    true_of = each_at (λ s p xs u. p < length v.state.specs → IsTallyOf s (hiwat_of v.state p) xs u) (λ below. true_of) in_order.true_of;
  }

-- ---- marks

module _ (s : QueueState) (a : Arena) (q : ℕ) (ms : List Message) (b : Arena) (store : b.store ≡ a.store) (shelves : b.shelves ≡ set a.shelves q ms) where
  -- wanted marks of other queues stay lawful
  pub marks_other : (p : ℕ) → p ≢ q → AreMarksLawful s a p → AreMarksLawful s b p
  marks_other p other lawful band wanted = grind (arith, common_steps)

  -- those of q stay lawful if no band loses bytes
  marks_more : q < length a.shelves → ((band : ℕ) → band_count a.store band (shelf_at a q) ≤ band_count a.store band ms) → AreMarksLawful s a q → AreMarksLawful s b q
  marks_more within more lawful band wanted = grind (arith, common_steps)

-- ---- one joins, one leaves

module _ (v : QueuesValue) (a : Arena) (in_order : AreInOrder v a) (q : ℕ) (within : q < length v.state.specs) (m : Message) (b : Arena) (store : b.store ≡ a.store) where
  abbrev hiwat : ℕ → ℕ
  hiwat = hiwat_of v.state q

  module _ (pre post : List Message) (p : Placed) (placed : IsPlaced a.store pre post m p) (apart : IsApart (heads (pre ++ m ∷ post))) where
    -- a message joins at a place that keeps the order
    pub in_order_put : shelf_at a q ≡ pre ++ post → b.shelves ≡ set a.shelves q (pre ++ m ∷ post) → is_ordered (rank_of a.store) (pre ++ m ∷ post) ≡ true → AreInOrder (with_tally q (one_more (hiwat (band_of_rank p.rank)) p (tally_at v q)) v) b
    in_order_put is shelves ordered =
        in_order_set v a in_order q within (pre ++ m ∷ post) (one_more (hiwat (band_of_rank p.rank)) p (tally_at v q)) b store shelves ordered
        (tally_joined a.store m hiwat (tally_at v q) pre post p placed (subst (λ ms. IsTallyOf a.store hiwat ms (tally_at v q)) is (in_order.true_of q within)) ordered apart)

    -- a message leaves
    pub in_order_got : shelf_at a q ≡ pre ++ m ∷ post → b.shelves ≡ set a.shelves q (pre ++ post) → AreInOrder (with_tally q (one_less (hiwat (band_of_rank p.rank)) p (tally_at v q)) v) b
    in_order_got is shelves =
        let ordered = subst (λ ms. is_ordered (rank_of a.store) ms ≡ true) is (in_order.ordered q) in
        in_order_set v a in_order q within (pre ++ post) (one_less (hiwat (band_of_rank p.rank)) p (tally_at v q)) b store shelves (around (rank_of a.store) pre post m ordered).others
        (tally_left a.store m hiwat (tally_at v q) pre post p placed (subst (λ ms. IsTallyOf a.store hiwat ms (tally_at v q)) is (in_order.true_of q within)) ordered apart)

-- wanted marks of all queues stay lawful when a message joins one
pub marks_put : (v : QueuesValue) (a : Arena) (agrees : Agrees v a) (q : ℕ) (within : q < length v.state.specs) (before : Option ℕ) (m : Message) (b : Arena) → b.store ≡ a.store
    → b.shelves ≡ set a.shelves q (put_before_head head_of before m (shelf_at a q)) → (p : ℕ) → AreMarksLawful v.state b p
marks_put v a agrees q within before m b store shelves p = grind (arith, common_steps, cases_eq, marks_more, band_count-placed, marks_other)

-- ---- enabling

-- enabling changes only the run list
module _ (so : Bool) (q : ℕ) (s : QueueState) where
  pub enabled_alone : enabled_where so q s ≡ record s { run = (enabled_where so q s).run }
  enabled_alone = grind (arith, common_steps)

pub agrees_enabled : (v : QueuesValue) (a : Arena) (so : Bool) (q : ℕ) → Agrees v a → Agrees (record v { state = enabled_where so q v.state }) a
agrees_enabled v a so q = grind (arith, common_steps, enabled_alone, agrees_state)

-- queues still agree once a message joined one, which may be enabled
pub agrees_put : (v w : QueuesValue) (a b : Arena) (agrees : Agrees v a) (q : ℕ) (within : q < length v.state.specs) (before : Option ℕ) (m : Message) → w.state ≡ v.state → AreInOrder w b → b.store ≡ a.store
    → b.shelves ≡ set a.shelves q (put_before_head head_of before m (shelf_at a q)) → (so : Bool) → Agrees (record w { state = enabled_where so q w.state }) b
agrees_put v w a b agrees q within before m state in_order store shelves so =
    agrees_enabled w b so q
    (record {
      in_order = in_order;
      marks = λ p. subst (λ s. AreMarksLawful s b p) (sym state) (marks_put v a agrees q within before m b store shelves p);
    })

-- the want-to-read and no-enable marks do not touch wanted marks
wanted_kept : (ms : List Flags) (q : ℕ) (m : Flags) → m.wanted ≡ (get_or ms q opening_flags).wanted → (p : ℕ) → (get_or (set ms q m) p opening_flags).wanted ≡ (get_or ms p opening_flags).wanted
wanted_kept [] q m is p = refl
wanted_kept (x ∷ xs) zero m is zero = is
wanted_kept (x ∷ xs) zero m is (suc p) = refl
wanted_kept (x ∷ xs) (suc q) m is zero = refl
wanted_kept (x ∷ xs) (suc q) m is (suc p) = wanted_kept xs q m is p

pub agrees_read : (v : QueuesValue) (a : Arena) (q : ℕ) (read : Bool) → Agrees v a → Agrees (record v { state = with_read q read v.state }) a
agrees_read v a q read = agrees_state v a (with_read q read v.state) refl refl (wanted_kept v.state.flags q (record (flags_at v.state q) { read = read }) refl)

-- ---- for callers

-- a message whose data is the same has the same rank
pub rank_of-same : (s t : DataStore) (m : Message) → All (IsSameData s t) m → rank_of t m ≡ rank_of s m
rank_of-same s t [] same = refl
rank_of-same s t (b ∷ bs) same = ap (λ (d : DataBlock). if is_high_priority d.kind then high_rank else b.band) (same 0 b (omega arith))

-- what holds of each element of two joined lists holds of each element of both
All-parts : {X : Type 0} (P : X → Type 0) (xs ys : List X) → All P (xs ++ ys) → All P xs × All P ys
All-parts P xs ys all = (
  λ k d within. subst P (get_or_append_left xs ys d k within) (all k d (omega (arith, within, length-append xs ys))),
  λ k d within. subst P (get_or-append-add xs ys k d) (all (length xs + k) d (omega (arith, within, length-append xs ys))),
)

module _ (s t : DataStore) where
  -- messages with the same data pass the same tests of rank
  below_same : (r : ℕ) (ms : List Message) → All (IsSameData s t) (flat_map (λ m. m) ms) → list_all (λ y. nat_le (rank_of t y) r) ms ≡ list_all (λ y. nat_le (rank_of s y) r) ms
  below_same r [] same = refl
  below_same r (m ∷ ms) same =
      let parts = All-parts (IsSameData s t) m (flat_map (λ x. x) ms) same in
      λ i. nat_le (rank_of-same s t m parts.0 i) r && below_same r ms parts.1 i

  -- and they stay in order
  ordered_same : (ms : List Message) → All (IsSameData s t) (flat_map (λ m. m) ms) → is_ordered (rank_of t) ms ≡ is_ordered (rank_of s) ms
  ordered_same [] same = refl
  ordered_same (m ∷ ms) same =
      let parts = All-parts (IsSameData s t) m (flat_map (λ x. x) ms) same in
      (λ i. list_all (λ y. nat_le (rank_of t y) (rank_of-same s t m parts.0 i)) ms && ordered_same ms parts.1 i)
      ∙ ap (λ b. b && is_ordered (rank_of s) ms) (below_same (rank_of s m) ms parts.1)

  -- the blocks of one shelf are among those of all
  shelf_same : (shelves : List (List Message)) (q : ℕ) → All (IsSameData s t) (blocks_on shelves) → All (IsSameData s t) (flat_map (λ m. m) (get_or shelves q []))
  shelf_same [] q same = λ k d within. absurd (omega (arith, within))
  shelf_same (ms ∷ shelves) zero same = (All-parts (IsSameData s t) (flat_map (λ m. m) ms) (blocks_on shelves) same).0
  shelf_same (ms ∷ shelves) (suc q) same = shelf_same shelves q (All-parts (IsSameData s t) (flat_map (λ m. m) ms) (blocks_on shelves) same).1

-- with the same data each band has the same bytes
count_same : (s t : DataStore) (band : ℕ) (ms : List Message) → All (IsSameData s t) (flat_map (λ m. m) ms) → band_count t band ms ≡ band_count s band ms
count_same s t band [] same = refl
count_same s t band (m ∷ ms) same =
    let parts = All-parts (IsSameData s t) m (flat_map (λ x. x) ms) same in
    sum_by-cons (λ x. if is_of_band t band x then size_of x else 0) m ms
    ∙ (λ i. (if band_of_rank (rank_of-same s t m parts.0 i) == band then size_of m else 0) + count_same s t band ms parts.1 i)
    ∙ sym (sum_by-cons (λ x. if is_of_band s band x then size_of x else 0) m ms)

-- and each rank has the same messages
of_rank-same : (s t : DataStore) (r : ℕ) (ms : List Message) → All (IsSameData s t) (flat_map (λ m. m) ms) → of_rank (rank_of t) r ms ≡ of_rank (rank_of s) r ms
of_rank-same s t r [] same = refl
of_rank-same s t r (m ∷ ms) same =
    let parts = All-parts (IsSameData s t) m (flat_map (λ x. x) ms) same in
    λ i. if rank_of-same s t m parts.0 i == r then m ∷ of_rank-same s t r ms parts.1 i else of_rank-same s t r ms parts.1 i

-- so the tally stays true
tally_same : (s t : DataStore) (hiwat : ℕ → ℕ) (ms : List Message) (tally : Tally) → All (IsSameData s t) (flat_map (λ m. m) ms) → IsTallyOf s hiwat ms tally → IsTallyOf t hiwat ms tally
tally_same s t hiwat ms tally same is = record {
  len = is.len;
  bytes = is.bytes;
  each_band = is.each_band;
  each_mark = is.each_mark;
  counts = λ band below. is.counts band below ∙ sym (count_same s t band ms same);
  full = λ band below. is.full band below ∙ ap (fills (hiwat band)) (sym (count_same s t band ms same));
  ends = record {
    each_first = is.ends.each_first;
    each_last = is.ends.each_last;
    each_used = is.ends.each_used;
    firsts = λ r. is.ends.firsts r ∙ ap (λ xs. rows.first (heads xs)) (sym (of_rank-same s t r ms same));
    lasts = λ r. is.ends.lasts r ∙ ap (λ xs. rows.last (heads xs)) (sym (of_rank-same s t r ms same));
    used = λ r below. is.ends.used r below ∙ ap (λ xs. is_some (rows.first (heads xs))) (sym (of_rank-same s t r ms same));
  };
}

-- a call that changes neither the shelves nor the data of their messages keeps the agreement
module _ (v : QueuesValue) (a b : Arena) (shelves : b.shelves ≡ a.shelves) (same : All (IsSameData a.store b.store) (shelved_blocks a)) where
  pub in_order_left : AreInOrder v a → AreInOrder v b
  in_order_left in_order = record {
    shelves = ap length shelves ∙ in_order.shelves;
    stored = in_order.stored;
    ordered = λ q.
        ap (λ x. is_ordered (rank_of b.store) (get_or x q [])) shelves
        ∙ ordered_same a.store b.store (shelf_at a q) (shelf_same a.store b.store a.shelves q same) ∙ in_order.ordered q;
    true_of = λ q below.
        subst (λ x. IsTallyOf b.store (hiwat_of v.state q) (get_or x q []) (tally_at v q)) (sym shelves)
        (tally_same a.store b.store (hiwat_of v.state q) (shelf_at a q) (tally_at v q) (shelf_same a.store b.store a.shelves q same) (in_order.true_of q below));
  }

  pub marks_left_lawful : (q : ℕ) → AreMarksLawful v.state a q → AreMarksLawful v.state b q
  marks_left_lawful q lawful band wanted =
      omega (arith, lawful band wanted, ap (λ x. band_count b.store band (get_or x q [])) shelves, count_same a.store b.store band (shelf_at a q) (shelf_same a.store b.store a.shelves q same))

pub agrees_left : (v : QueuesValue) (heads : List ℕ) (a b : Arena) → Agrees v a → LeavesShelves heads a b → Agrees v b
agrees_left v heads a b agrees left = record {
  in_order = in_order_left v a b left.shelves left.shelved_data agrees.in_order;
  marks = λ q. marks_left_lawful v a b left.shelves left.shelved_data q (agrees.marks q);
}

-- new queues agree with new message blocks that have a shelf for each
pub agrees_new : (specs : List QueueSpec) → are_lawful specs ≡ true → (id mblks : ℕ) (classes : List ClassSpec) → Agrees (opening_value specs) (opening_arena id mblks classes (length specs))
agrees_new specs lawful id mblks classes = record {
  in_order = record {
    shelves = length-replicate (length specs) [];
    stored = length-map specs (λ q. no_tally);
    ordered = λ q. ap (is_ordered (rank_of (opening_arena id mblks classes (length specs)).store)) (empty (length specs) q);
    true_of = λ q below.
        subst (IsTallyOf (opening_arena id mblks classes (length specs)).store (hiwat_of (opening_queues specs) q) (shelf_at (opening_arena id mblks classes (length specs)) q)) (sym (get_or-map_same specs no_tally q))
        (subst (λ ms. IsTallyOf (opening_arena id mblks classes (length specs)).store (hiwat_of (opening_queues specs) q) ms no_tally) (sym (empty (length specs) q))
        (tally_none (opening_arena id mblks classes (length specs)).store (hiwat_of (opening_queues specs) q) (λ band within. omega (arith, marks_below specs lawful q band below within))));
  };
  marks = λ q band wanted. absurd (false≢true (sym (ap (λ (m : Flags). has_band m.wanted band) (get_or-map_same specs opening_flags q) ∙ get_or-map_same every_band false band) ∙ wanted));
}
  where
    no_messages : List Message
    no_messages = []

    empty : (n q : ℕ) → get_or (replicate n no_messages) q no_messages ≡ no_messages
    empty n q = get_or-replicate_same n no_messages q
