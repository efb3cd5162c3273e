-- Bytes of bands counted, and tallies that are true.
use Rattle.std.proofs.Common.{◌≡◌, ℕ, zero, suc, ◌+◌, ◌<◌, ◌≤◌, ◌==◌, ◌&&◌, Bool, true, false, List, [], ◌∷◌, ◌++◌, Option, Some, None, refl, ap, ◌∙◌, inl, inr, arith, if◌then◌else◌, ◌^◌, length, get_or, length-append, ◌≢◌, ◌-◌, set, sym, length-set, subst}
use Rattle.std.specs.Prelude.{nat_le, nat_lt, sum_by, is_some}
use Rattle.std.specs.List.{All, flat_map, range_with_len}
use Rattle.std.proofs.lemmas.Bool.{cases_Bool, cases_lt, cond-true, cond-false, eq-eqb, false≢true, lt-leb, ne_eqb}
use Rattle.std.proofs.lemmas.Bool.Decides.{nat_tests}
use Rattle.std.proofs.lemmas.List.{get_or_past, get_or-replicate, length-replicate, append_assoc, set-get_or}
use Rattle.std.proofs.lemmas.List.Sums.{sum_by-append, sum_by-cons, sum_by-le, sum_by-le-sum_by, sum_by_push}
use Rattle.strm_data.specs.CountedStore.{IsKept}
use Rattle.strm_data.specs.DataStore.{DataBlock, DataStore, no_data_block}
use Rattle.strm_data.specs.Limits.{most_data_block_bytes}
use Rattle.strm_data.proofs.store.Kept.{capacity_range}
use Rattle.strm_mblk.specs.Arena.{Arena, IsWithin, blocks_in, census_of, counted_in, held_blocks, shelf_at, shelved_blocks, IsParted}
use Rattle.strm_mblk.specs.Block.{Block, Message, head_of, size_of}
use Rattle.strm_mblk.specs.Limits.{most_message_blocks}
use Rattle.strm_mblk.specs.Messages.{blocks_on, put_before_head, shelf_in}
use Rattle.strm_links.specs.Rows.{IsApart, first, has, is_some_of, last}
use Rattle.strm_mblk.proofs.arena.Stands.{heads_room}
use Rattle.strm_links.proofs.lists.OneList.{is_some_of-same}
use Rattle.strm_queue.specs.Flow.{band_count, band_of_rank, bytes_on, every_band, is_of_band, fills}
use Rattle.strm_queue.specs.Limits.{bands, ranks}
use Rattle.strm_queue.specs.Rank.{rank_of, is_ordered, put_behind}
use Rattle.strm_queue.specs.declared.tally.Placed.{Placed}
use Rattle.strm_queue.specs.Ends.{first_of_rank, last_of_rank, of_rank}
use Rattle.strm_queue.specs.Tallies.{AreEndsOf, IsFollowing, IsMarkTrue, IsNumbered, IsTallyOf, IsUseTrue, Tally, count_of, end_after_joining, end_after_leaving, first_in, last_in, no_tally, one_less, one_more, with_full_mark, with_count, with_ends}
use Rattle.strm_queue.proofs.bands.Used.{set_still}
use Rattle.strm_queue.proofs.bands.Bands.{has_band_where, length-bands_where, length_every_band}
use Rattle.strm_queue.proofs.Shelf.{at_there, first_there, get_or-replicate_same, heads, last_there}
use Rattle.strm_queue.proofs.order.Ends.{first_joined, first_left, first_put, joins_last, last_put, last_joined, last_left, leaves_first, more_behind, of_rank-other}
use Rattle.std.proofs.lemmas.Grind.{common_steps}

-- ---- the bytes of messages: of all, and of those of a band

-- ---- sums over messages, and one that joins or leaves

module _ (f : Message → ℕ) where
  -- one more message, before the one with a head, or last
  pub sum_by-placed : (before : Option ℕ) (m : Message) (ms : List Message) → sum_by f (put_before_head head_of before m ms) ≡ sum_by f ms + f m
  sum_by-placed None m ms = sum_by_push f ms m
  sum_by-placed (Some at) m [] = sum_by_push f [] m
  sum_by-placed (Some at) m (x ∷ xs) =
      elim (cases_Bool (head_of x == at)) [
        | inl here ↦ omega (arith, ap (sum_by f) (cond-true (head_of x == at) (m ∷ x ∷ xs) (x ∷ put_before_head head_of (Some at) m xs) here), sum_by-cons f m (x ∷ xs))
        | inr later ↦ omega (
          arith,
          ap (sum_by f) (cond-false (head_of x == at) (m ∷ x ∷ xs) (x ∷ put_before_head head_of (Some at) m xs) later),
          sum_by-cons f x (put_before_head head_of (Some at) m xs),
          sum_by-cons f x xs,
          sum_by-placed (Some at) m xs,
        )
      ]

  -- one message is taken out
  pub sum_by-left : (pre post : List Message) (m : Message) → sum_by f (pre ++ m ∷ post) ≡ sum_by f (pre ++ post) + f m
  sum_by-left pre post m = omega (arith, sum_by-append f pre (m ∷ post), sum_by-append f pre post, sum_by-cons f m post)

pub bytes_on-left : (pre post : List Message) (m : Message) → bytes_on (pre ++ m ∷ post) ≡ bytes_on (pre ++ post) + size_of m
bytes_on-left pre post m = sum_by-left size_of pre post m

-- ---- the bytes of a band

-- how many bytes of a message count with a band
abbrev pub counted : DataStore → ℕ → Message → ℕ
counted s band m = if is_of_band s band m then size_of m else 0

part_most : (t : Bool) (x : ℕ) → (if t then x else 0) ≤ x
part_most true x = omega arith
part_most false x = omega arith

module _ (s : DataStore) (band : ℕ) where
  pub counted_most : (m : Message) → counted s band m ≤ size_of m
  counted_most m = part_most (is_of_band s band m) (size_of m)

  -- the bytes of the first message and those of the rest
  pub band_count-cons : (m : Message) (ms : List Message) → band_count s band (m ∷ ms) ≡ counted s band m + band_count s band ms
  band_count-cons m ms = sum_by-cons (counted s band) m ms

  pub count_adds : (xs ys : List Message) → band_count s band (xs ++ ys) ≡ band_count s band xs + band_count s band ys
  count_adds xs ys = sum_by-append (counted s band) xs ys

  -- a band's bytes are at most all bytes
  pub count_in : (ms : List Message) → band_count s band ms ≤ bytes_on ms
  count_in ms = sum_by-le-sum_by (counted s band) size_of ms counted_most

  pub band_count-placed : (before : Option ℕ) (m : Message) (ms : List Message) → band_count s band (put_before_head head_of before m ms) ≡ band_count s band ms + counted s band m
  band_count-placed before m ms = sum_by-placed (counted s band) before m ms

  pub band_count-left : (pre post : List Message) (m : Message) → band_count s band (pre ++ m ∷ post) ≡ band_count s band (pre ++ post) + counted s band m
  band_count-left pre post m = sum_by-left (counted s band) pre post m

-- ---- all bands together

sum_by-both : (f g : ℕ → ℕ) (xs : List ℕ) → sum_by (λ x. f x + g x) xs ≡ sum_by f xs + sum_by g xs
sum_by-both f g [] = refl
sum_by-both f g (x ∷ xs) = omega (arith, sum_by-cons (λ y. f y + g y) x xs, sum_by-cons f x xs, sum_by-cons g x xs, sum_by-both f g xs)

sum_by-none : (xs : List ℕ) → sum_by (λ x. 0) xs ≡ 0
sum_by-none [] = refl
sum_by-none (x ∷ xs) = omega (arith, sum_by-cons (λ (y : ℕ). 0) x xs, sum_by-none xs)

-- x if n is r, else 0
abbrev share : ℕ → ℕ → ℕ → ℕ
share r x n = if r == n then x else 0

-- the sum of the shares is x if r is one of the numbers
share_none : (r x from : ℕ) → 0 ≡ (if nat_le from r && nat_lt r (from + 0) then x else 0)
share_none r x from = grind (arith, nat_tests)

share_more : (r x from many : ℕ) → share r x from + (if nat_le (from + 1) r && nat_lt r (from + 1 + many) then x else 0) ≡ (if nat_le from r && nat_lt r (from + suc many) then x else 0)
share_more r x from many = grind (arith, nat_tests)

share_sum : (r x from many : ℕ) → sum_by (share r x) (range_with_len from many) ≡ (if nat_le from r && nat_lt r (from + many) then x else 0)
share_sum r x from zero = share_none r x from
share_sum r x from (suc many) = omega (arith, sum_by-cons (share r x) from (range_with_len (from + 1) many), share_sum r x (from + 1) many, share_more r x from many)

share_all : (r x many : ℕ) → r < many → sum_by (share r x) (range_with_len 0 many) ≡ x
share_all r x many below = grind (arith, nat_tests, share_sum r x 0 many)

-- each rank counts with an existing band
pub band_of_rank_range : (r : ℕ) → band_of_rank r < bands
band_of_rank_range r = grind (arith, nat_tests)

-- the bytes of the first `many` bands are those of the messages, if each message counts with one of these bands
sum_of_bands : (s : DataStore) (many : ℕ) → ((r : ℕ) → band_of_rank r < many) → (ms : List Message) → sum_by (λ band. band_count s band ms) (range_with_len 0 many) ≡ bytes_on ms
sum_of_bands s many within [] = sum_by-none (range_with_len 0 many)
sum_of_bands s many within (m ∷ ms) =
    let numbers = range_with_len 0 many in
    (λ i. sum_by (λ band. band_count-cons s band m ms i) numbers)
    ∙ sum_by-both (λ band. counted s band m) (λ band. band_count s band ms) numbers
    ∙ omega (
      arith,
      share_all (band_of_rank (rank_of s m)) (size_of m) many (within (rank_of s m)),
      sum_of_bands s many within ms,
      sum_by-cons size_of m ms,
    )

-- the bytes of all bands are those of the messages
pub whole : (s : DataStore) (ms : List Message) → sum_by (λ band. band_count s band ms) every_band ≡ bytes_on ms
unfolding every_band
whole s ms = sum_of_bands s bands band_of_rank_range ms

-- ---- the bytes of a queue fit 32 bits

-- the bytes of messages are those of their blocks
size_of-joined : (ms : List Message) → size_of (flat_map (λ m. m) ms) ≡ bytes_on ms
size_of-joined [] = refl
size_of-joined (m ∷ ms) = omega (arith, sum_by-append (λ (b : Block). b.len) m (flat_map (λ x. x) ms), sum_by-cons size_of m ms, size_of-joined ms)

-- the bytes of one shelf are at most those of all
among_shelves : (shelves : List (List Message)) (q : ℕ) → bytes_on (shelf_in shelves q) ≤ size_of (blocks_on shelves)
among_shelves [] q = omega arith
among_shelves (ms ∷ shelves) zero = omega (arith, sum_by-append (λ (b : Block). b.len) (flat_map (λ m. m) ms) (blocks_on shelves), size_of-joined ms)
among_shelves (ms ∷ shelves) (suc q) = omega (arith, sum_by-append (λ (b : Block). b.len) (flat_map (λ m. m) ms) (blocks_on shelves), among_shelves shelves q)

-- a block has no more bytes than the largest data block has room for
len_most : (a : Arena) → IsKept (counted_in a) → (b : Block) → IsWithin a.store b → b.len ≤ most_data_block_bytes
len_most a kept b within =
    elim (cases_lt b.data_number (length a.store.blocks)) [
      | inl there ↦ omega (arith, within, (capacity_range (counted_in a) b.data_number kept there).1)
      | inr past ↦ omega (arith, within, ap (λ (d : DataBlock). length d.bytes) (get_or_past a.store.blocks b.data_number no_data_block past))
    ]

-- a queue's bytes fit 32 bits
pub bytes_fit : (a : Arena) → IsKept (counted_in a) → All (IsWithin a.store) (blocks_in a) → length a.held ≤ most_message_blocks
    → (census_of a).free + (census_of a).queued + (census_of a).held ≡ length a.held → (q : ℕ) → bytes_on (shelf_at a q) < 2 ^ 32
bytes_fit a kept within few all q =
    omega (
      arith,
      among_shelves a.shelves q,
      sum_by-append (λ (b : Block). b.len) (shelved_blocks a) (held_blocks a),
      sum_by-le (λ (b : Block). b.len) most_data_block_bytes (blocks_in a) (λ k d inside. len_most a kept (get_or (blocks_in a) k d) (within k d inside)),
      length-append (shelved_blocks a) (held_blocks a),
      few,
      all,
    )

-- ---- the tally of a queue stays true when a message joins or leaves

-- no message
abbrev none_given : Option ℕ
none_given = None

-- the empty tally is true of no messages, if no high water mark is 0
pub tally_none : (s : DataStore) (hiwat : ℕ → ℕ) → ((band : ℕ) → band < bands → 0 < hiwat band) → IsTallyOf s hiwat [] no_tally
tally_none s hiwat some = record {
  len = refl;
  bytes = refl;
  each_band = length-replicate {A = ℕ} bands 0;
  each_mark = length-bands_where (λ band. false) ∙ length_every_band;
  counts = λ band below. get_or-replicate bands band 0 0 below;
  full = λ band below. has_band_where (λ x. false) band below ∙ sym (lt-leb (hiwat band) 0 (some band below));
  ends = record {
    each_first = length-replicate {A = Option ℕ} ranks None;
    each_last = length-replicate {A = Option ℕ} ranks None;
    each_used = length-bands_where (λ band. false) ∙ length_every_band;
    firsts = get_or-replicate_same ranks none_given;
    lasts = get_or-replicate_same ranks none_given;
    used = λ r below. has_band_where (λ x. false) r below;
  };
}

-- p is the entry of message m between these messages
pub record IsPlaced (s : DataStore) (pre post : List Message) (m : Message) (p : Placed) : Type 0 where
  pub head : p.head ≡ head_of m
  pub rank : p.rank ≡ rank_of s m
  pub size : p.size ≡ size_of m
  pub ahead : p.ahead ≡ last (heads pre)
  pub behind : p.behind ≡ first (heads post)
  pub few : p.rank < ranks

-- its head and those of its neighbours are numbers of blocks, so they fit a slot
pub numbered : (a : Arena) → IsParted a → length a.held ≤ most_message_blocks → (q : ℕ) (s : DataStore) (pre post : List Message) (m : Message) (p : Placed) → shelf_at a q ≡ pre ++ m ∷ post → IsPlaced s pre post m p
    → IsNumbered p
numbered a parted few q s pre post m p is placed = record {
  head = low p.head (at_there p.head pre post m (sym placed.head));
  ahead = λ k at. low k (last_there k pre (m ∷ post) (sym placed.ahead ∙ at));
  behind = λ k at. low k (ap (λ ms. has k (heads ms)) (sym (append_assoc pre (m ∷ []) post)) ∙ first_there k (pre ++ m ∷ []) post (sym placed.behind ∙ at));
}
  where
    low : (k : ℕ) → has k (heads (pre ++ m ∷ post)) ≡ true → k < 2 ^ 32 - 1
    low k there = omega (arith, few, heads_room a parted q k (ap (λ ms. has k (heads ms)) is ∙ there))

-- the full mark of the band of a rank says whether its stored bytes reach the high water mark
pub mark_true : (s : DataStore) (hiwat : ℕ → ℕ) (ms : List Message) (t : Tally) → IsTallyOf s hiwat ms t → (r : ℕ) → IsMarkTrue (hiwat (band_of_rank r)) (band_of_rank r) t
mark_true s hiwat ms t is r = is.full (band_of_rank r) (band_of_rank_range r) ∙ ap (fills (hiwat (band_of_rank r))) (sym (is.counts (band_of_rank r) (band_of_rank_range r)))

-- the mark of a rank says whether it has messages
pub use_true : (rank : Message → ℕ) (ms : List Message) (t : Tally) → AreEndsOf rank ms t → (r : ℕ) → IsUseTrue r t
use_true rank ms t ends r = λ within. ends.used r (omega (arith, within, ends.each_used)) ∙ ap is_some (sym (ends.firsts r))

module _ (hiwat : ℕ) (p : Placed) (t : Tally) (used : IsUseTrue p.rank t) where
  abbrev its_band : ℕ
  its_band = band_of_rank p.rank

  -- a message follows the last one of its rank
  pub joined_behind : IsFollowing p t → (let u = with_count hiwat its_band (count_of t its_band + p.size) (record t { len = t.len + 1; bytes = t.bytes + p.size }) in record u { lasts = set t.lasts p.rank (Some p.head) }) ≡ one_more hiwat p t
  joined_behind follows =
      λ i. record {
        len = t.len + 1;
        bytes = t.bytes + p.size;
        counts = set t.counts its_band (count_of t its_band + p.size);
        full = set t.full its_band (fills hiwat (count_of t its_band + p.size));
        firsts = (sym (ap (set t.firsts p.rank) follows.first ∙ set-get_or t.firsts p.rank None)) i;
        lasts = set t.lasts p.rank (sym follows.last i);
        used = (sym (ap (λ o. set t.used p.rank (is_some o)) follows.first ∙ set_still t.used p.rank (is_some (first_in t p.rank)) used)) i;
      }

  -- the first message leaves, and another one of its rank is behind it
  pub left_front : first_in t p.rank ≡ Some p.head → is_some p.behind ≡ true → is_some_of p.head (last_in t p.rank) ≡ false
      → (let u = with_count hiwat its_band (count_of t its_band - p.size) (record t { len = t.len - 1; bytes = t.bytes - p.size }) in record u { firsts = set t.firsts p.rank p.behind }) ≡ one_less hiwat p t
  left_front front some other =
      let first : end_after_leaving (first_in t p.rank) (last_in t p.rank) p.behind p.head ≡ p.behind =
      cond-true _ _ _ (ap (is_some_of p.head) front ∙ eq-eqb p.head p.head refl) ∙ cond-false _ _ _ other in
      let last : end_after_leaving (last_in t p.rank) (first_in t p.rank) p.ahead p.head ≡ last_in t p.rank = cond-false _ _ _ other in
      λ i. record {
        len = t.len - 1;
        bytes = t.bytes - p.size;
        counts = set t.counts its_band (count_of t its_band - p.size);
        full = set t.full its_band (fills hiwat (count_of t its_band - p.size));
        firsts = set t.firsts p.rank (sym first i);
        lasts = (sym (ap (set t.lasts p.rank) last ∙ set-get_or t.lasts p.rank None)) i;
        used = (sym (ap (λ o. set t.used p.rank (is_some o)) first ∙ set_still t.used p.rank (is_some p.behind) (λ within. used within ∙ ap is_some front ∙ sym some))) i;
      }

-- a list that agrees with f still does after f's value is set at one place
at_set : {X : Type 0} (f : ℕ → X) (xs : List X) (k : ℕ) (v d : X) (x : ℕ) → (x ≡ k → k < length xs) → v ≡ f k → (x ≢ k → get_or xs x d ≡ f x) → get_or (set xs k v) x d ≡ f x
at_set f xs k v d x inside new old = grind (arith, common_steps)

-- one band gets another high water mark, and its full mark is stored anew
pub tally_recounted : (s : DataStore) (hiwat high : ℕ → ℕ) (ms : List Message) (t : Tally) → IsTallyOf s hiwat ms t → (band : ℕ) → band < bands → ((x : ℕ) → x ≢ band → high x ≡ hiwat x)
    → IsTallyOf s high ms (with_full_mark (high band) band t)
tally_recounted s hiwat high ms t is band within same = grind (arith, common_steps)

-- one band gets another count, and one rank other ends
module _ (s : DataStore) (hiwat : ℕ → ℕ) (ms ns : List Message) (t : Tally) (is : IsTallyOf s hiwat ms t) (len : ℕ) (long : len ≡ length ns) (bytes : ℕ) (heavy : bytes ≡ bytes_on ns)
    (band n : ℕ) (within : band < bands) (here : n ≡ band_count s band ns) (others : (x : ℕ) → x ≢ band → band_count s x ns ≡ band_count s x ms)
    (r : ℕ) (end beginning : Option ℕ) (below : r < ranks) (first_is : beginning ≡ first_of_rank (rank_of s) r ns) (last_is : end ≡ last_of_rank (rank_of s) r ns)
    (other_ranks : (x : ℕ) → x ≢ r → of_rank (rank_of s) x ns ≡ of_rank (rank_of s) x ms) where
  tally_set : IsTallyOf s hiwat ns (with_ends r beginning end (with_count (hiwat band) band n (record t { len = len; bytes = bytes })))
  tally_set = record {
    len = long;
    bytes = heavy;
    each_band = length-set t.counts band n ∙ is.each_band;
    each_mark = length-set t.full band (fills (hiwat band) n) ∙ is.each_mark;
    counts = λ x inside. at_set (λ j. band_count s j ns) t.counts band n 0 x (λ same. omega (arith, within, is.each_band)) here (λ other. is.counts x inside ∙ sym (others x other));
    full = λ x inside.
        at_set (λ j. fills (hiwat j) (band_count s j ns)) t.full band (fills (hiwat band) n) false x (λ same. omega (arith, within, is.each_mark)) (ap (fills (hiwat band)) here)
        (λ other. is.full x inside ∙ ap (fills (hiwat x)) (sym (others x other)));
    ends = record {
      each_first = length-set t.firsts r beginning ∙ is.ends.each_first;
      each_last = length-set t.lasts r end ∙ is.ends.each_last;
      each_used = length-set t.used r (is_some beginning) ∙ is.ends.each_used;
      firsts = λ x.
          at_set (λ j. first_of_rank (rank_of s) j ns) t.firsts r beginning None x (λ same. omega (arith, below, is.ends.each_first)) first_is
          (λ other. is.ends.firsts x ∙ ap (λ xs. first (heads xs)) (sym (other_ranks x other)));
      lasts = λ x.
          at_set (λ j. last_of_rank (rank_of s) j ns) t.lasts r end None x (λ same. omega (arith, below, is.ends.each_last)) last_is
          (λ other. is.ends.lasts x ∙ ap (λ xs. last (heads xs)) (sym (other_ranks x other)));
      used = λ x inside.
          at_set (λ j. is_some (first_of_rank (rank_of s) j ns)) t.used r (is_some beginning) false x (λ same. omega (arith, inside, same, is.ends.each_used)) (ap is_some first_is)
          (λ other. is.ends.used x inside ∙ ap (λ xs. is_some (first (heads xs))) (sym (other_ranks x other)));
    };
  }

module _ (s : DataStore) (m : Message) where
  abbrev its : ℕ
  its = band_of_rank (rank_of s m)

  -- a message counts with its own band
  own : counted s its m ≡ size_of m
  own = cond-true _ (size_of m) 0 (eq-eqb its its refl)

  -- and with no other
  none : (x : ℕ) → x ≢ its → counted s x m ≡ 0
  none x other = cond-false _ (size_of m) 0 (ne_eqb its x (λ same. other (sym same)))

  module _ (hiwat : ℕ → ℕ) (t : Tally) (pre post : List Message) (p : Placed) (placed : IsPlaced s pre post m p) where
    -- the message's own entry
    abbrev own_place : Placed
    own_place = record { head = head_of m; rank = rank_of s m; size = size_of m; ahead = last (heads pre); behind = first (heads post) }

    place_is : p ≡ own_place
    place_is = λ i. record { head = placed.head i; rank = placed.rank i; size = placed.size i; ahead = placed.ahead i; behind = placed.behind i }

    -- a message joins
    module _ (is : IsTallyOf s hiwat (pre ++ post) t) where
      pub tally_joined : is_ordered (rank_of s) (pre ++ m ∷ post) ≡ true → IsApart (heads (pre ++ m ∷ post)) → IsTallyOf s hiwat (pre ++ m ∷ post) (one_more (hiwat (band_of_rank p.rank)) p t)
      tally_joined ordered apart =
          subst (λ k. IsTallyOf s hiwat (pre ++ m ∷ post) (one_more (hiwat (band_of_rank k.rank)) k t)) (sym place_is)
          (tally_set s hiwat (pre ++ post) (pre ++ m ∷ post) t is (t.len + 1) (omega (arith, is.len, length-append pre (m ∷ post), length-append pre post))
          (t.bytes + size_of m) (omega (arith, is.bytes, bytes_on-left pre post m))
          its (count_of t its + size_of m) (band_of_rank_range (rank_of s m)) (omega (arith, is.counts its (band_of_rank_range (rank_of s m)), band_count-left s its pre post m, own))
          (λ x other. omega (arith, band_count-left s x pre post m, none x other))
          (rank_of s m) (end_after_joining (last_in t (rank_of s m)) (last (heads pre)) (head_of m)) (end_after_joining (first_in t (rank_of s m)) (first (heads post)) (head_of m)) (omega (arith, placed.few, placed.rank))
          (ap (λ o. end_after_joining o (first (heads post)) (head_of m)) (is.ends.firsts (rank_of s m)) ∙ first_joined (rank_of s) pre post m ordered apart)
          (ap (λ o. end_after_joining o (last (heads pre)) (head_of m)) (is.ends.lasts (rank_of s m)) ∙ last_joined (rank_of s) pre post m ordered apart)
          (λ x other. of_rank-other (rank_of s) x pre post m other))

      -- its bytes fit beside those of all
      pub joins_all : bytes_on (pre ++ m ∷ post) < 2 ^ 32 → t.bytes + p.size < 2 ^ 32
      joins_all few = omega (arith, few, bytes_on-left pre post m, is.bytes, placed.size)

      -- and beside those of its band
      pub joins_few : bytes_on (pre ++ m ∷ post) < 2 ^ 32 → count_of t (band_of_rank p.rank) + p.size < 2 ^ 32
      joins_few few = grind (arith, common_steps, bytes_on-left, band_of_rank_range, count_in)

      -- one that goes last is then the last of its rank
      pub joins_last_of_rank : is_ordered (rank_of s) (pre ++ m ∷ post) ≡ true → IsApart (heads (pre ++ m ∷ post)) → p.behind ≡ None → end_after_joining (last_in t p.rank) p.ahead p.head ≡ Some p.head
      joins_last_of_rank ordered apart none =
          (λ i. end_after_joining (last_in t (placed.rank i)) (placed.ahead i) (placed.head i))
          ∙ ap (λ o. end_after_joining o (last (heads pre)) (head_of m)) (is.ends.lasts (rank_of s m)) ∙ joins_last (rank_of s) pre post m ordered apart (sym placed.behind ∙ none)
          ∙ ap Some (sym placed.head)

      -- one that is put after its equals follows the last of them
      pub follows_equal : is_ordered (rank_of s) (pre ++ m ∷ post) ≡ true → IsApart (heads (pre ++ m ∷ post)) → pre ++ m ∷ post ≡ put_behind (rank_of s) m (pre ++ post) → first_of_rank (rank_of s) p.rank (pre ++ post) ≢ None → IsFollowing p t
      follows_equal ordered apart place some = record {
        first =
            (λ i. end_after_joining (first_in t (placed.rank i)) (placed.behind i) (placed.head i))
            ∙ ap (λ o. end_after_joining o (first (heads post)) (head_of m)) (is.ends.firsts (rank_of s m)) ∙ first_joined (rank_of s) pre post m ordered apart
            ∙ ap (first_of_rank (rank_of s) (rank_of s m)) place ∙ first_put (rank_of s) m (pre ++ post) (λ none. some (ap (λ r. first_of_rank (rank_of s) r (pre ++ post)) placed.rank ∙ none))
            ∙ sym (ap (first_in t) placed.rank ∙ is.ends.firsts (rank_of s m));
        last =
            (λ i. end_after_joining (last_in t (placed.rank i)) (placed.ahead i) (placed.head i))
            ∙ ap (λ o. end_after_joining o (last (heads pre)) (head_of m)) (is.ends.lasts (rank_of s m)) ∙ last_joined (rank_of s) pre post m ordered apart
            ∙ ap (last_of_rank (rank_of s) (rank_of s m)) place ∙ last_put (rank_of s) m (pre ++ post) ∙ ap Some (sym placed.head);
        used = use_true (rank_of s) (pre ++ post) t is.ends p.rank;
      }

    -- a message leaves
    module _ (is : IsTallyOf s hiwat (pre ++ m ∷ post) t) where
      pub tally_left : is_ordered (rank_of s) (pre ++ m ∷ post) ≡ true → IsApart (heads (pre ++ m ∷ post)) → IsTallyOf s hiwat (pre ++ post) (one_less (hiwat (band_of_rank p.rank)) p t)
      tally_left ordered apart =
          subst (λ k. IsTallyOf s hiwat (pre ++ post) (one_less (hiwat (band_of_rank k.rank)) k t)) (sym place_is)
          (tally_set s hiwat (pre ++ m ∷ post) (pre ++ post) t is (t.len - 1) (omega (arith, is.len, length-append pre (m ∷ post), length-append pre post))
          (t.bytes - size_of m) (omega (arith, is.bytes, bytes_on-left pre post m))
          its (count_of t its - size_of m) (band_of_rank_range (rank_of s m)) (omega (arith, is.counts its (band_of_rank_range (rank_of s m)), band_count-left s its pre post m, own))
          (λ x other. omega (arith, band_count-left s x pre post m, none x other))
          (rank_of s m) (end_after_leaving (last_in t (rank_of s m)) (first_in t (rank_of s m)) (last (heads pre)) (head_of m)) (end_after_leaving (first_in t (rank_of s m)) (last_in t (rank_of s m)) (first (heads post)) (head_of m)) (omega (arith, placed.few, placed.rank))
          ((λ i. end_after_leaving (is.ends.firsts (rank_of s m) i) (is.ends.lasts (rank_of s m) i) (first (heads post)) (head_of m)) ∙ first_left (rank_of s) pre post m ordered apart)
          ((λ i. end_after_leaving (is.ends.lasts (rank_of s m) i) (is.ends.firsts (rank_of s m) i) (last (heads pre)) (head_of m)) ∙ last_left (rank_of s) pre post m ordered apart)
          (λ x other. sym (of_rank-other (rank_of s) x pre post m other)))

      -- one that is first is the first of its rank
      pub leaves_first_of_rank : is_ordered (rank_of s) (pre ++ m ∷ post) ≡ true → IsApart (heads (pre ++ m ∷ post)) → p.ahead ≡ None → first_in t p.rank ≡ Some p.head
      leaves_first_of_rank ordered apart none =
          ap (first_in t) placed.rank ∙ is.ends.firsts (rank_of s m) ∙ leaves_first (rank_of s) pre post m ordered apart (sym placed.ahead ∙ none) ∙ ap Some (sym placed.head)

      -- one that is not the last of its rank has one after it
      pub leaves_more : is_ordered (rank_of s) (pre ++ m ∷ post) ≡ true → IsApart (heads (pre ++ m ∷ post)) → is_some_of p.head (last_in t p.rank) ≡ false → is_some p.behind ≡ true
      leaves_more ordered apart other =
          ap is_some placed.behind
          ∙ more_behind (rank_of s) pre post m ordered apart (λ last. false≢true (sym other ∙ is_some_of-same p.head (last_in t p.rank) (ap (last_in t) placed.rank ∙ is.ends.lasts (rank_of s m) ∙ last ∙ ap Some (sym placed.head))))

      -- its bytes are among those of all
      pub leaves_all : p.size ≤ t.bytes
      leaves_all = omega (arith, is.bytes, bytes_on-left pre post m, placed.size)

      -- and among those of its band
      pub leaves_enough : p.size ≤ count_of t (band_of_rank p.rank)
      leaves_enough = grind (arith, common_steps)
