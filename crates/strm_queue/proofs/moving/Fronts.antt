-- Messages that leave the front of a queue one after another, of which the tally is told at the end.
use Rattle.std.proofs.Common.{◌≡◌, ◌≢◌, ℕ, ◌+◌, ◌-◌, ◌<◌, ◌≤◌, ◌^◌, Bool, true, false, List, [], ◌∷◌, ◌++◌, length, get_or, set, get_or-set_same, length-set, Option, Some, None, Ok, refl, sym, ap, ◌∙◌, subst, inl, inr, arith}
use Rattle.std.specs.Prelude.{◌==◌, is_none, is_some, nat_lt, option_map, slice_get}
use Rattle.std.proofs.lemmas.Bool.{cases_eq, cond-true, eq-eqb, false≢true, ltb-true, ne_eqb}
use Rattle.std.proofs.lemmas.Fn.{FoldsTo-push}
use Rattle.std.proofs.lemmas.List.{length-append, set-get_or, set-set}
use Rattle.std.proofs.lemmas.Option.{same_Some}
use Rattle.strm_links.specs.Rows.{IsApart, after, first, is_some_of, last, last_or}
use Rattle.strm_mblk.specs.declared.token.TokenValue.{TokenValue}
use Rattle.strm_data.specs.DataStore.{DataStore}
use Rattle.strm_mblk.specs.Arena.{Arena, IsParted, shelf_at, token_of, with_held, with_shelf}
use Rattle.strm_mblk.specs.Block.{Message, head_of, size_of}
use Rattle.strm_mblk.specs.Calls.{Takes, TakesAny, itself}
use Rattle.strm_mblk.specs.Given.{Given, answer_map, answer_of}
use Rattle.strm_mblk.specs.Limits.{most_message_blocks}
use Rattle.strm_mblk.specs.Shelves.{heads_at, is_on, shelved_message, unshelve}
use Rattle.strm_mblk.proofs.arena.Stands.{heads_apart}
use Rattle.strm_queue.specs.declared.tally.Leaving.{Leaving}
use Rattle.strm_queue.specs.declared.tally.Placed.{Placed}
use Rattle.strm_queue.specs.Ends.{first_of_rank, last_of_rank, of_rank}
use Rattle.strm_queue.specs.Flow.{band_of_rank, bytes_on, fills, flags_at, hiwat_of, has_band, has_drained, lowat_of, opening_flags, with_flags, with_read}
use Rattle.strm_queue.specs.Limits.{bands, ranks}
use Rattle.strm_queue.specs.QueueCalls.{count_on, flags_of, getq, waker_enabled_where, with_queue_settled, with_state}
use Rattle.strm_queue.specs.QueuedBlocks.{Agrees, AreInOrder, AreMarksLawful, QueuedBlocks, QueuesValue, arena, queued_blocks, tally_at, with_front_left, with_tally}
use Rattle.strm_queue.specs.Rank.{is_ordered, rank_of}
use Rattle.strm_queue.specs.Taking.{TakesEach}
use Rattle.strm_queue.specs.Tallies.{AreAmong, IsTallyOf, IsUseTrue, Tally, count_of, first_in, last_in, no_tally, one_less, without_front}
use Rattle.strm_queue.proofs.Agreeing.{in_order_got}
use Rattle.strm_queue.proofs.bands.Bands.{length_every_band, looked_at_last, looked_at_none}
use Rattle.strm_queue.proofs.Counting.{IsPlaced, band_of_rank_range, leaves_all, leaves_enough, leaves_first_of_rank, leaves_more, left_front, mark_true, numbered, use_true}
use Rattle.strm_queue.proofs.moving.Gets.{IsGot, getq_after, getq_given, got_others}
use Rattle.strm_queue.proofs.order.Ends.{first_of_rank-has, of_rank-other}
use Rattle.strm_queue.proofs.Shelf.{FirstParts, after-head, first_of, first_there, heads, shelved_message_at, unshelved}

-- ---- the tally

-- the first of all messages, if it is the first of a rank, is of that rank
pub first_ranked : (rank : Message → ℕ) (r : ℕ) (m : Message) (post : List Message) → IsApart (heads (m ∷ post)) → first_of_rank rank r (m ∷ post) ≡ Some (head_of m) → rank m ≡ r
first_ranked rank r m post apart is =
    elim (cases_eq (rank m) r) [
      | inl same ↦ same
      | inr other ↦
          absurd (false≢true (sym apart.0 ∙ first_of_rank-has rank (head_of m) r post (ap (λ ms. first (heads ms)) (sym (of_rank-other rank r [] post m (λ same. other (sym same)))) ∙ is)))
    ]

-- numbers of which there are some have a last one
is_last_some : (x : ℕ) (xs : List ℕ) → is_some (last_or (Some x) xs) ≡ true
is_last_some x [] = refl
is_last_some x (y ∷ ys) = is_last_some y ys

module _ (hiwat : ℕ) (l : Leaving) (t : Tally) where
  abbrev its_band : ℕ
  its_band = band_of_rank l.rank

  -- what is left of its band
  abbrev left : ℕ
  left = count_of t its_band - l.bytes

  -- one more of them leaves: those that have left then, and its entry for the tally
  abbrev pub one_left : ℕ → ℕ → Leaving
  one_left size next = record { rank = l.rank; len = l.len + 1; bytes = l.bytes + size; first = next }

  abbrev its_place : ℕ → ℕ → Placed
  its_place size next = record { head = l.first; rank = l.rank; size = size; ahead = None; behind = Some next }

  module _ (size next : ℕ) (counted : its_band < length t.counts) (ranked : l.rank < length t.firsts) (used : IsUseTrue l.rank (without_front hiwat l t)) (other : is_some_of l.first (last_in t l.rank) ≡ false) where
    count_left : get_or (set t.counts its_band left) its_band 0 - size ≡ count_of t its_band - (l.bytes + size)
    count_left = omega (arith, get_or-set_same t.counts its_band left 0 counted)

    pub front_one : one_less hiwat (its_place size next) (without_front hiwat l t) ≡ without_front hiwat (one_left size next) t
    front_one =
        let len : t.len - l.len - 1 ≡ t.len - (l.len + 1) = omega arith in
        let bytes : t.bytes - l.bytes - size ≡ t.bytes - (l.bytes + size) = omega arith in
        let counts = set-set t.counts its_band left (get_or (set t.counts its_band left) its_band 0 - size) ∙ ap (set t.counts its_band) count_left in
        let full = set-set t.full its_band (fills hiwat left) (fills hiwat (get_or (set t.counts its_band left) its_band 0 - size)) ∙ ap (λ n. set t.full its_band (fills hiwat n)) count_left in
        let firsts = set-set t.firsts l.rank (Some l.first) (Some next) in
        sym (left_front hiwat (its_place size next) (without_front hiwat l t) used (get_or-set_same t.firsts l.rank (Some l.first) None ranked) refl other)
        ∙ (λ i. record { len = len i; bytes = bytes i; counts = counts i; full = full i; firsts = firsts i; lasts = t.lasts; used = t.used })

-- none has left
pub front_none : (hiwat : ℕ → ℕ) (r h : ℕ) (t : Tally) → first_in t r ≡ Some h → has_band t.full (band_of_rank r) ≡ fills (hiwat (band_of_rank r)) (count_of t (band_of_rank r))
    → without_front (hiwat (band_of_rank r)) (record { rank = r; len = 0; bytes = 0; first = h }) t ≡ t
front_none hiwat r h t first full =
    let band = band_of_rank r in
    let same : count_of t band - 0 ≡ count_of t band = omega arith in
    let len : t.len - 0 ≡ t.len = omega arith in
    let bytes : t.bytes - 0 ≡ t.bytes = omega arith in
    λ i. record {
      len = len i;
      bytes = bytes i;
      counts = (ap (set t.counts band) same ∙ set-get_or t.counts band 0) i;
      full = (ap (λ n. set t.full band (fills (hiwat band) n)) same ∙ ap (set t.full band) (sym full) ∙ set-get_or t.full band false) i;
      firsts = (ap (set t.firsts r) (sym first) ∙ set-get_or t.firsts r None) i;
      lasts = t.lasts;
      used = t.used;
    }

-- ---- the first message of a queue

module _ (v : QueuesValue) (a : Arena) (in_order : AreInOrder v a) (parted : IsParted a) (q : ℕ) (within : q < length v.state.specs) (h : ℕ) (some : first (heads_at a q) ≡ Some h) where
  -- it, and those after it
  abbrev pub parts : FirstParts h (shelf_at a q)
  parts = first_of h (shelf_at a q) some

  abbrev s : DataStore
  s = a.store

  abbrev hiwat : ℕ → ℕ
  hiwat = hiwat_of v.state q

  -- it is on the queue
  pub there : is_on a q h ≡ true
  there = first_there h [] (shelf_at a q) some

  apart : IsApart (heads (parts.at ∷ parts.post))
  apart = subst (λ ms. IsApart (heads ms)) parts.is (heads_apart a parted q)

  ordered : is_ordered (rank_of s) (parts.at ∷ parts.post) ≡ true
  ordered = subst (λ ms. is_ordered (rank_of s) ms ≡ true) parts.is (in_order.ordered q)

  pub true_of : IsTallyOf s hiwat (parts.at ∷ parts.post) (tally_at v q)
  true_of = subst (λ ms. IsTallyOf s hiwat ms (tally_at v q)) parts.is (in_order.true_of q within)

  -- its rank, if it is the first of one
  pub front_rank : (r : ℕ) → first_in (tally_at v q) r ≡ Some h → rank_of s parts.at ≡ r
  front_rank r is = first_ranked (rank_of s) r parts.at parts.post apart (sym (true_of.ends.firsts r) ∙ is ∙ ap Some (sym parts.head))

  -- its bytes, and the message after it
  pub front_size : (n : ℕ) → n ≡ size_of (shelved_message a h) → n ≡ size_of parts.at
  front_size n is = is ∙ ap size_of (ap (shelved_message a) (sym parts.head) ∙ shelved_message_at a parted q [] parts.post parts.at parts.is)

  pub front_next : (o : Option ℕ) → o ≡ after h (heads_at a q) → o ≡ first (heads parts.post)
  front_next o is = is ∙ (λ i. after (sym parts.head i) (heads (parts.is i))) ∙ after-head [] parts.post parts.at apart

  -- a rank with a first message has a last one
  pub some_last : (r : ℕ) → rank_of s parts.at ≡ r → is_some (last_in (tally_at v q) r) ≡ true
  some_last r ranked =
      ap is_some (true_of.ends.lasts r) ∙ ap (λ ms. is_some (last (heads ms))) (cond-true _ _ _ (eq-eqb (rank_of s parts.at) r ranked))
      ∙ is_last_some (head_of parts.at) (heads (of_rank (rank_of s) r parts.post))

  -- it is the last of its rank
  pub front_over : (r : ℕ) → rank_of s parts.at ≡ r → last_in (tally_at v q) r ≡ Some h → (m : Message) → slice_get (shelf_at a q) 0 ≡ Some m → last_of_rank (rank_of s) (rank_of s m) (shelf_at a q) ≡ Some (head_of m)
  front_over r ranked is m front =
      let same = same_Some parts.at m (sym (ap (λ ms. slice_get ms 0) parts.is) ∙ front) in
      ap (λ x. last_of_rank (rank_of s) (rank_of s x) (shelf_at a q)) (sym same) ∙ ap (λ k. last_of_rank (rank_of s) k (shelf_at a q)) ranked ∙ ap (last_of_rank (rank_of s) r) parts.is
      ∙ sym (true_of.ends.lasts r) ∙ is ∙ ap Some (sym parts.head) ∙ ap (λ x. Some (head_of x)) same

  module _ (r : ℕ) (ranked : rank_of s parts.at ≡ r) (below : r < ranks) (size : ℕ) (size_is : size ≡ size_of parts.at) (next : Option ℕ) (next_is : next ≡ first (heads parts.post)) where
    -- its entry for the tally
    abbrev pub own : Placed
    own = record { head = h; rank = r; size = size; ahead = None; behind = next }

    pub placed : IsPlaced s [] parts.post parts.at own
    placed = record { head = sym parts.head; rank = sym ranked; size = size_is; ahead = refl; behind = next_is; few = below }

    -- one that is not the last of its rank has one after it
    pub front_more : is_some_of h (last_in (tally_at v q) r) ≡ false → is_some next ≡ true
    front_more other = leaves_more s parts.at hiwat (tally_at v q) [] parts.post own placed true_of ordered apart other

    pub front_first : first_in (tally_at v q) r ≡ Some h
    front_first = leaves_first_of_rank s parts.at hiwat (tally_at v q) [] parts.post own placed true_of ordered apart refl

    pub front_all : size ≤ (tally_at v q).bytes
    front_all = leaves_all s parts.at hiwat (tally_at v q) [] parts.post own placed true_of

    pub front_enough : size ≤ count_of (tally_at v q) (band_of_rank r)
    front_enough = leaves_enough s parts.at hiwat (tally_at v q) [] parts.post own placed true_of

    module _ (few : length a.held ≤ most_message_blocks) where
      pub front_room : h < 2 ^ 32 - 1
      front_room = (numbered a parted few q s [] parts.post parts.at own parts.is placed).head

      pub next_room : (k : ℕ) → next ≡ Some k → k < 2 ^ 32 - 1
      next_room = (numbered a parted few q s [] parts.post parts.at own parts.is placed).behind

    -- it leaves
    module _ (b : Arena) (is : b ≡ unshelve q h a) where
      left_is : b ≡ with_held parts.at (with_shelf q parts.post a)
      left_is = is ∙ ap (λ n. unshelve q n a) (sym parts.head) ∙ unshelved a q [] parts.post parts.at parts.is (heads_apart a parted q)

      pub front_gone : AreInOrder (with_tally q (one_less (hiwat (band_of_rank r)) own (tally_at v q)) v) b
      front_gone = in_order_got v a in_order q within parts.at b (ap (λ (x : Arena). x.store) left_is) [] parts.post own placed apart parts.is (ap (λ (x : Arena). x.shelves) left_is)

      pub next_first : q < length a.shelves → first (heads_at b q) ≡ next
      next_first inside = ap (λ (x : Arena). first (heads_at x q)) left_is ∙ ap (λ ms. first (heads ms)) (get_or-set_same a.shelves q parts.post [] inside) ∙ sym next_is

-- ---- one more of those that leave

module _ (v : QueuesValue) (a : Arena) (q : ℕ) (within : q < length v.state.specs) (l : Leaving) (among : AreAmong l (tally_at v q)) (in_order : AreInOrder (with_front_left q l v) a) (parted : IsParted a)
    (few : length a.held ≤ most_message_blocks) (some : first (heads_at a q) ≡ Some l.first) where
  abbrev t : Tally
  t = tally_at v q

  abbrev high : ℕ
  high = hiwat_of v.state q (band_of_rank l.rank)

  abbrev left_tally : Tally
  left_tally = without_front high l t

  abbrev now : QueuesValue
  now = with_front_left q l v

  tally_is : tally_at now q ≡ left_tally
  tally_is = get_or-set_same v.tallies q left_tally no_tally (omega (arith, within, in_order.stored, length-set v.tallies q left_tally))

  abbrev pub front : FirstParts l.first (shelf_at a q)
  front = parts now a in_order parted q within l.first some

  true_left : IsTallyOf a.store (hiwat_of v.state q) (front.at ∷ front.post) left_tally
  true_left = subst (IsTallyOf a.store (hiwat_of v.state q) (front.at ∷ front.post)) tally_is (true_of now a in_order parted q within l.first some)

  long : l.rank < length t.firsts
  long = omega (arith, among.rank, true_left.ends.each_first, length-set t.firsts l.rank (Some l.first))

  wide : band_of_rank l.rank < length t.counts
  wide = omega (arith, band_of_rank_range l.rank, true_left.each_band, length-set t.counts (band_of_rank l.rank) (left high l t))

  ranked : rank_of a.store front.at ≡ l.rank
  ranked = front_rank now a in_order parted q within l.first some l.rank (ap (λ (u : Tally). first_in u l.rank) tally_is ∙ get_or-set_same t.firsts l.rank (Some l.first) None long)

  -- if it is the last of its rank, the run is over
  pub leaving_over : last_in (tally_at v q) l.rank ≡ Some l.first → (m : Message) → slice_get (shelf_at a q) 0 ≡ Some m → last_of_rank (rank_of a.store) (rank_of a.store m) (shelf_at a q) ≡ Some (head_of m)
  leaving_over is = front_over now a in_order parted q within l.first some l.rank ranked (ap (λ (u : Tally). last_in u l.rank) tally_is ∙ is)

  module _ (other : is_some_of l.first (last_in (tally_at v q) l.rank) ≡ false) where
    module _ (size : ℕ) (sized : size ≡ size_of (shelved_message a l.first)) where
      size_is : size ≡ size_of front.at
      size_is = front_size now a in_order parted q within l.first some size sized

      -- its bytes are among those of all
      light : l.bytes + size ≤ t.bytes
      light =
          omega (arith, among.bytes, ap (λ (u : Tally). u.bytes) tally_is, front_all now a in_order parted q within l.first some l.rank ranked among.rank size size_is (first (heads front.post)) refl)

      pub leaving_fits : l.bytes + size < 2 ^ 32
      leaving_fits = omega (arith, light, among.light)

      module _ (next : Option ℕ) (behind : next ≡ after l.first (heads_at a q)) where
        next_is : next ≡ first (heads front.post)
        next_is = front_next now a in_order parted q within l.first some next behind

        pub leaving_more : is_some next ≡ true
        leaving_more = front_more now a in_order parted q within l.first some l.rank ranked among.rank size size_is next next_is (ap (λ (u : Tally). is_some_of l.first (last_in u l.rank)) tally_is ∙ other)

        module _ (k : ℕ) (is : next ≡ Some k) where
          abbrev more : Leaving
          more = one_left high l t size k

          pub leaving_among : AreAmong more t
          leaving_among = record {
            len = omega (arith, among.len, true_left.len);
            bytes = light;
            count =
                omega (
                  arith,
                  among.count,
                  ap (λ (u : Tally). count_of u (band_of_rank l.rank)) tally_is,
                  get_or-set_same t.counts (band_of_rank l.rank) (left high l t) 0 wide,
                  front_enough now a in_order parted q within l.first some l.rank ranked among.rank size size_is next next_is,
                );
            few = among.few;
            light = among.light;
            rank = among.rank;
            first = next_room now a in_order parted q within l.first some l.rank ranked among.rank size size_is next next_is few k is;
          }

          module _ (b : Arena) (gone : b ≡ unshelve q l.first a) where
            abbrev entry : Placed
            entry = own now a in_order parted q within l.first some l.rank ranked among.rank size size_is next next_is

            one_is : one_less high entry (tally_at now q) ≡ without_front high more t
            one_is =
                (λ i. one_less high (let p : Placed = record { head = l.first; rank = l.rank; size = size; ahead = None; behind = is i } in p) (tally_is i))
                ∙ front_one high l t size k wide long (use_true (rank_of a.store) (front.at ∷ front.post) left_tally true_left.ends l.rank) other

            pub leaving_ordered : AreInOrder (with_front_left q more v) b
            leaving_ordered =
                subst (λ w. AreInOrder w b)
                (λ i. let w : QueuesValue = record { state = v.state; tallies = (set-set v.tallies q left_tally (one_less high entry (tally_at now q)) ∙ ap (set v.tallies q) one_is) i } in w)
                (front_gone now a in_order parted q within l.first some l.rank ranked among.rank size size_is next next_is b gone)

            pub leaving_first : first (heads_at b q) ≡ Some k
            leaving_first = next_first now a in_order parted q within l.first some l.rank ranked among.rank size size_is next next_is b gone (omega (arith, within, in_order.shelves)) ∙ is

-- ---- a `getq` that neither clears a mark nor enables a queue

module _ (q : ℕ) (v : QueuedBlocks) (long : length (flags_of v q).wanted ≡ bands) (read : (flags_of v q).read ≡ false) (none : (band : ℕ) → has_band (flags_of v q).wanted band ≡ false) where
  abbrev drained : ℕ → Bool
  drained band = has_drained (lowat_of v.queues q band) (count_on v q band)

  -- if no band is wanted, settling changes nothing
  settled_still : with_queue_settled q v ≡ v
  settled_still =
      let wanted = (flags_of v q).wanted in
      let looked = looked_at_last wanted drained wanted false (looked_at_none wanted drained (long ∙ sym length_every_band) none) in
      (λ i. with_state (λ s. waker_enabled_where (sym looked.1 i) q (with_flags q (record (flags_of v q) { wanted = sym looked.0 i }) s)) v)
      ∙ ap (λ fs. with_state (λ s. record s { flags = fs }) v) (set-get_or v.queues.flags q opening_flags)

  read_still : with_state (with_read q false) v ≡ v
  read_still =
      ap (λ r. with_state (with_flags q (record (flags_of v q) { read = r })) v) (sym read)
      ∙ ap (λ fs. with_state (λ s. record s { flags = fs }) v) (set-get_or v.queues.flags q opening_flags)

  pub still : with_state (with_read q false) (with_queue_settled q v) ≡ v
  still = ap (with_state (with_read q false)) settled_still ∙ read_still

-- the first message leaves
module _ (v : QueuesValue) (a : Arena) (agrees : Agrees v a) (parted : IsParted a) (q : ℕ) (there : nat_lt q (length v.state.specs) ≡ true) (long : length (flags_at v.state q).wanted ≡ bands)
    (read : (flags_at v.state q).read ≡ false) (none : (band : ℕ) → has_band (flags_at v.state q).wanted band ≡ false) (h : ℕ) (some : first (heads_at a q) ≡ Some h)
    (b : Arena) (t : TokenValue) (takes : Takes itself (Ok (h, unshelve q h a)) a b (Ok t)) where
  got : IsGot v a agrees parted q there h v b
  got = record { state = refl; arena = takes.after }

  pub got_still : TakesAny arena (getq q (queued_blocks v a)) (queued_blocks v a) (queued_blocks v b) (Ok (Some t))
  got_still = record {
    after = sym (still q (queued_blocks v b) long read none) ∙ getq_after v a agrees parted q there h some v b got;
    token =
        ap (answer_map (λ x. Some x)) takes.token
        ∙ sym (ap (λ (g : Given QueuedBlocks (Option ℕ)). answer_map (option_map (token_of b)) (answer_of g)) (getq_given v a agrees parted q there h some));
    had = takes.had;
    unheld = takes.unheld;
    others = takes.others;
  }

  -- and wanted marks stay lawful
  pub marks_still : (p : ℕ) → AreMarksLawful v.state b p
  marks_still p =
      elim (cases_eq p q) [
        | inl same ↦ λ band wanted. absurd (false≢true (sym (none band) ∙ ap (λ n. has_band (flags_at v.state n).wanted band) (sym same) ∙ wanted))
        | inr other ↦ got_others v a agrees parted q there h v b got p other
      ]

-- ---- one after another, off queue q

module _ {V R : Type 0} (arena_of : V → Arena) (receives : R → TokenValue → R → Type 0) (call : V → Given V (Option ℕ)) (most : ℕ) (old : V) (before : R) where
  -- one message is
  abbrev one_taken : V × R → TokenValue → V × R → Type 0
  one_taken v t w = TakesAny arena_of (call v.0) v.0 w.0 (Ok (Some t)) × receives v.1 t w.1

  -- no message is taken
  pub takes_none : TakesEach arena_of receives call most old old before before 0
  takes_none = record { tokens = []; each = refl; count = refl; few = omega arith }

  -- one more is
  pub takes_more : (now new : V) (between after : R) (n : ℕ) → TakesEach arena_of receives call most old now before between n → n < most → (t : TokenValue) → TakesAny arena_of (call now) now new (Ok (Some t)) → receives between t after
      → TakesEach arena_of receives call most old new before after (n + 1)
  takes_more now new between after n so_far less t takes received = record {
    tokens = so_far.tokens ++ t ∷ [];
    each = FoldsTo-push {P = V × R} one_taken (old, before) so_far.tokens (now, between) t (new, after) so_far.each (takes, received);
    count = omega (arith, so_far.count, length-append so_far.tokens (t ∷ []));
    few = omega (arith, less);
  }

module _ {R : Type 0} (receives : R → TokenValue → R → Type 0) (v : QueuesValue) (old : Arena) (q most rank : ℕ) (before : R) where
  -- these have left
  pub record IsLed (l : Leaving) (now : Arena) (between : R) : Type 0 where
    pub agrees : Agrees (with_front_left q l v) now
    pub among : AreAmong l (tally_at v q)
    pub first : first (heads_at now q) ≡ Some l.first
    pub ranked : l.rank ≡ rank
    pub takes : TakesEach arena receives (getq q) most (queued_blocks v old) (queued_blocks v now) before between l.len

  module _ (agrees : Agrees v old) (parted : IsParted old) (within : q < length v.state.specs) (few : length old.held ≤ most_message_blocks) where
    -- the first message is of this rank
    module _ (h : ℕ) (some : first (heads_at old q) ≡ Some h) (is : (pre post : List Message) (m : Message) → shelf_at old q ≡ pre ++ m ∷ post → head_of m ≡ h → rank ≡ rank_of old.store m) (below : rank < ranks) where
      abbrev at_front : FirstParts h (shelf_at old q)
      at_front = parts v old agrees.in_order parted q within h some

      led_rank : rank_of old.store at_front.at ≡ rank
      led_rank = sym (is [] at_front.post at_front.at at_front.is at_front.head)

      -- so the rank has messages
      led_first : first_in (tally_at v q) rank ≡ Some h
      led_first = front_first v old agrees.in_order parted q within h some rank led_rank below (size_of at_front.at) refl (first (heads at_front.post)) refl

      pub led_used : (r : ℕ) → r ≡ rank → is_some (first_in (tally_at v q) r) ≡ true
      led_used r same = ap (λ x. is_some (first_in (tally_at v q) x)) same ∙ ap is_some led_first

      -- none has left
      pub led_none : bytes_on (shelf_at old q) < 2 ^ 32 → length (shelf_at old q) < 2 ^ 32 → IsLed (record { rank = rank; len = 0; bytes = 0; first = h }) old before
      led_none light many = record {
        agrees = subst (λ w. Agrees w old) (λ i. let w : QueuesValue = record { state = v.state; tallies = (sym (ap (set v.tallies q) none_is ∙ set-get_or v.tallies q no_tally)) i } in w) agrees;
        among = record {
          len = omega arith;
          bytes = omega arith;
          count = omega arith;
          few = omega (arith, many, (agrees.in_order.true_of q within).len);
          light = omega (arith, light, (agrees.in_order.true_of q within).bytes);
          rank = below;
          first = front_room v old agrees.in_order parted q within h some rank led_rank below (size_of at_front.at) refl (first (heads at_front.post)) refl few;
        };
        first = some;
        ranked = refl;
        takes = takes_none arena receives (getq q) most (queued_blocks v old) before;
      }
        where
          none_is : without_front (hiwat_of v.state q (band_of_rank rank)) (record { rank = rank; len = 0; bytes = 0; first = h }) (tally_at v q) ≡ tally_at v q
          none_is =
              front_none (hiwat_of v.state q) rank h (tally_at v q) led_first
              (mark_true old.store (hiwat_of v.state q) (shelf_at old q) (tally_at v q) (agrees.in_order.true_of q within) rank)

  -- if the next one is the last of its rank, the run is over
  pub led_over : (l : Leaving) (now : Arena) (between : R) (so_far : IsLed l now between) (within : q < length v.state.specs) (parted : IsParted now) (few : length now.held ≤ most_message_blocks) → last_in (tally_at v q) rank ≡ Some l.first
      → (m : Message) → slice_get (shelf_at now q) 0 ≡ Some m → last_of_rank (rank_of now.store) (rank_of now.store m) (shelf_at now q) ≡ Some (head_of m)
  led_over l now between so_far within parted few is =
      leaving_over v now q within l so_far.among so_far.agrees.in_order parted few so_far.first (ap (last_in (tally_at v q)) so_far.ranked ∙ is)

  -- one more has, which is not the last of its rank
  module _ (there : nat_lt q (length v.state.specs) ≡ true) (l : Leaving) (now : Arena) (between : R) (so_far : IsLed l now between) (parted : IsParted now) (few : length now.held ≤ most_message_blocks)
      (end : ℕ) (end_is : last_in (tally_at v q) rank ≡ Some end) (apart : l.first ≢ end) (size : ℕ) (sized : size ≡ size_of (shelved_message now l.first)) where
    led_within : q < length v.state.specs
    led_within = ltb-true q (length v.state.specs) there

    led_other : is_some_of l.first (last_in (tally_at v q) l.rank) ≡ false
    led_other = ap (λ r. is_some_of l.first (last_in (tally_at v q) r)) so_far.ranked ∙ ap (is_some_of l.first) end_is ∙ ne_eqb end l.first (λ same. apart (sym same))

    pub led_fits : l.bytes + size < 2 ^ 32
    led_fits = leaving_fits v now q led_within l so_far.among so_far.agrees.in_order parted few so_far.first led_other size sized

    module _ (next : Option ℕ) (behind : next ≡ after l.first (heads_at now q)) where
      pub led_some : is_some next ≡ true
      led_some = leaving_more v now q led_within l so_far.among so_far.agrees.in_order parted few so_far.first led_other size sized next behind

      -- a `getq` would have changed no mark
      pub led_more : (k : ℕ) → next ≡ Some k → length (flags_at v.state q).wanted ≡ bands → (flags_at v.state q).read ≡ false → ((band : ℕ) → has_band (flags_at v.state q).wanted band ≡ false) → l.len < most
          → (new : Arena) (t : TokenValue) (after : R) → Takes itself (Ok (l.first, unshelve q l.first now)) now new (Ok t) → receives between t after
          → IsLed (record { rank = l.rank; len = l.len + 1; bytes = l.bytes + size; first = k }) new after
      led_more k is long read none less new t after takes received =
          let u = with_front_left q l v in
          record {
            agrees = record {
              in_order = leaving_ordered v now q led_within l so_far.among so_far.agrees.in_order parted few so_far.first led_other size sized next behind k is new takes.after;
              marks = marks_still u now so_far.agrees parted q there long read none l.first so_far.first new t takes;
            };
            among = leaving_among v now q led_within l so_far.among so_far.agrees.in_order parted few so_far.first led_other size sized next behind k is;
            first = leaving_first v now q led_within l so_far.among so_far.agrees.in_order parted few so_far.first led_other size sized next behind k is new takes.after;
            ranked = so_far.ranked;
            takes =
                takes_more arena receives (getq q) most (queued_blocks v old) before (queued_blocks v now) (queued_blocks v new) between after l.len so_far.takes less t
                (got_still u now so_far.agrees parted q there long read none l.first so_far.first new t takes) received;
          }
