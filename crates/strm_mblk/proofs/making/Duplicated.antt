-- Messages duplicated: their data blocks get references, and other message blocks their fields.
use Rattle.std.proofs.Common.{◌≡◌, ℕ, ◌+◌, ◌-◌, ◌<◌, ◌≤◌, ◌==◌, true, false, eqb, List, [], ◌∷◌, ◌++◌, get_or, set, Some, refl, sym, ap, ◌∙◌, if◌then◌else◌, subst, arith, get_or-set_same, get_or-set_other, ◌≢◌, length, None, map, length-set, Ok, Err}
use Rattle.std.specs.Prelude.{drop, nat_lt, slice_get, take, count_by}
use Rattle.std.proofs.lemmas.Bool.{cond-false, eq-eqb, le-ltb, lt-ltb, ne_eqb, cond-true}
use Rattle.std.proofs.lemmas.Bool.Decides.{eqb_tells}
use Rattle.std.proofs.lemmas.List.{set-get_or, set-set, take-append-drop, take-take, take_more, length-take-le, drop_all, length-map, take-map}
use Rattle.std.proofs.lemmas.List.Folds.{list_any_at, list_any_none}
use Rattle.std.proofs.lemmas.Option.{get_or_from_slice_get, slice_get_within, none-some, slice_get-get_or}
use Rattle.std.specs.List.{All, list_any}
use Rattle.std.proofs.lemmas.List.Elements.{All-map}
use Rattle.std.proofs.lemmas.Simd.{map-map}
use Rattle.strm_data.specs.CountedStore.{CountedStore, IsKept, count_of, with_reference, without_reference}
use Rattle.strm_data.specs.DataStore.{times, with_data_freed, DataStore}
use Rattle.strm_links.proofs.lists.Counting.{one_if, times-append, times-cons, times_here}
use Rattle.strm_data.specs.Limits.{most_references}
use Rattle.strm_links.specs.Rows.{first}
use Rattle.strm_data.specs.declared.refusal.Refusal.TheVariants.{RefMax}
use Rattle.strm_data.proofs.store.Lawful.{list_any-map}
use Rattle.strm_mblk.specs.BlocksLayout.{exceeds_counts, with_references_dropped, with_references_given, IsFilled, arena_of, fields_at, no_fields, with_fields, IsPlaced, block_at, fields_of, message_of, data_used_by}
use Rattle.strm_mblk.specs.declared.blocks.Fields.{Fields}
use Rattle.strm_mblk.specs.declared.token.TokenValue.{TokenValue}
use Rattle.strm_mblk.specs.Arena.{has, Arena, message_at, references_to}
use Rattle.strm_mblk.specs.Messages.{blocks_of, held_in}
use Rattle.strm_links.specs.ChainLists.{IsLawful, ChainLists, nodes_at, with_begun}
use Rattle.strm_mblk.specs.Block.{Block, Message, uses_data}
use Rattle.strm_mblk.specs.BlockCalls.{message_duplicated, exceeds_references}
use Rattle.strm_mblk.proofs.Lists.{slice_get-take, times_at, at_first, first_rest, drop_from}
use Rattle.strm_mblk.proofs.Freeing.{counted_there, naming-named, enough}
use Rattle.strm_mblk.proofs.arena.Counts.{set_apart, IsHad, had_again, had_message}
use Rattle.strm_mblk.proofs.layout.Rooms.{count_of-set, HasRooms}
use Rattle.strm_mblk.proofs.Nodes.{begins_with, free_room, free_unheld, held_parts, one_of_all}
use Rattle.strm_mblk.proofs.layout.HeldBlocks.{token_nodes, node_room}
use Rattle.strm_mblk.proofs.making.Begun.{IsBegunAll, begins_all}
use Rattle.strm_mblk.proofs.layout.StoredArena.{message_at-seen}
use Rattle.std.proofs.lemmas.Grind.{common_steps}

-- ==== data blocks are named once more, one after the other, and lose those references again

-- the store that is counted stays
pub store_given : (ds : List ℕ) (s : CountedStore) → (with_references_given ds s).store ≡ s.store
store_given [] s = refl
store_given (d ∷ ds) s = store_given ds (with_reference d s)

-- one more at the end
pub given_more : (ds : List ℕ) (d : ℕ) (s : CountedStore) → with_references_given (ds ++ d ∷ []) s ≡ with_reference d (with_references_given ds s)
given_more [] d s = refl
given_more (e ∷ ds) d s = given_more ds d (with_reference e s)

-- the counts once d has a name more
named_more : (s : CountedStore) (d : ℕ) → 0 < count_of s d → (k : ℕ) → count_of (with_reference d s) k ≡ count_of s k + one_if (eqb d k)
named_more s d used k = grind (arith, common_steps, count_of-set, counted_there, eqb_tells)

-- each of these data blocks is in use
abbrev pub AreUsed : List ℕ → CountedStore → Type 0
AreUsed ds s = (k : ℕ) → 0 < times k ds → 0 < count_of s k

first_used : (d : ℕ) (ds : List ℕ) (s : CountedStore) → AreUsed (d ∷ ds) s → 0 < count_of s d
first_used d ds s used = used d (omega (arith, times-cons d d ds, ap one_if (eq-eqb d d refl)))

rest_used : (d : ℕ) (ds : List ℕ) (s : CountedStore) → AreUsed (d ∷ ds) s → AreUsed ds s
rest_used d ds s used k some = used k (omega (arith, some, times-cons k d ds))

more_used : (d : ℕ) (ds : List ℕ) (s : CountedStore) → AreUsed (d ∷ ds) s → AreUsed ds (with_reference d s)
more_used d ds s used k some = omega (arith, rest_used d ds s used k some, named_more s d (first_used d ds s used) k)

-- the counts once several have a name more
pub counts_given : (ds : List ℕ) (s : CountedStore) → AreUsed ds s → (k : ℕ) → count_of (with_references_given ds s) k ≡ count_of s k + times k ds
counts_given [] s used k = omega arith
counts_given (d ∷ ds) s used k = grind (arith, common_steps, (counts_given ds (with_reference d s) (more_used d ds s used) k), more_used, named_more, first_used, times-cons)

-- ---- back

-- the order of references is no matter
name_apart : (d e : ℕ) (s : CountedStore) → with_reference d (with_reference e s) ≡ with_reference e (with_reference d s)
name_apart d e s = grind (arith, common_steps, get_or-set_other, set_apart)

name_first : (d : ℕ) (ds : List ℕ) (s : CountedStore) → with_references_given ds (with_reference d s) ≡ with_reference d (with_references_given ds s)
name_first d [] s = refl
name_first d (e ∷ ds) s = ap (with_references_given ds) (name_apart e d s) ∙ name_first d ds (with_reference e s)

-- a name that was given is taken back
name_back : (d : ℕ) (s : CountedStore) → 0 < count_of s d → without_reference d (with_reference d s) ≡ s
name_back d s used =
    let more : count_of (with_reference d s) d ≡ count_of s d + 1 = get_or-set_same s.counts d (count_of s d + 1) 0 (counted_there s d used) in
    let store : (if count_of (with_reference d s) d == 1 then with_data_freed d s.store else s.store) ≡ s.store =
    cond-false _ _ _ (ne_eqb (count_of (with_reference d s) d) 1 (λ one. absurd (omega (arith, used, more, one)))) in
    let less : count_of (with_reference d s) d - 1 ≡ count_of s d = omega (arith, more) in
    let counts : set (set s.counts d (count_of s d + 1)) d (count_of (with_reference d s) d - 1) ≡ s.counts =
    set-set s.counts d (count_of s d + 1) (count_of (with_reference d s) d - 1) ∙ ap (set s.counts d) less ∙ set-get_or s.counts d 0 in
    λ i. record { store = store i; counts = counts i }

-- and so are several
pub given_back : (ds : List ℕ) (s : CountedStore) → AreUsed ds s → with_references_dropped ds (with_references_given ds s) ≡ s
given_back [] s used = refl
given_back (d ∷ ds) s used = grind (arith, common_steps, (given_back ds s (rest_used d ds s used)), name_first, name_back, first_used, counts_given, rest_used)

-- ---- too many

-- one of them would have more than most_references
pub exceeds : (ds : List ℕ) (s : CountedStore) (i : ℕ) {d : ℕ} → slice_get ds i ≡ Some d → most_references < count_of s d + times d ds → exceeds_counts ds s ≡ true
exceeds ds s i {d} is many =
    list_any_at (λ k. nat_lt most_references (count_of s k + times k ds)) ds i d (slice_get_within ds i d is)
    (ap (λ k. nat_lt most_references (count_of s k + times k ds)) (get_or_from_slice_get ds i d d is) ∙ lt-ltb most_references (count_of s d + times d ds) many)

-- none has
pub not_exceeds : (ds : List ℕ) (s : CountedStore) → AreUsed ds s → IsKept (with_references_given ds s) → exceeds_counts ds s ≡ false
not_exceeds ds s used kept =
    list_any_none (λ k. nat_lt most_references (count_of s k + times k ds)) ds
    (λ i d within. le-ltb most_references (count_of s (get_or ds i d) + times (get_or ds i d) ds) (omega (arith, kept.few_references (get_or ds i d), counts_given ds s used (get_or ds i d))))

-- ---- one step of the loop

-- the first of a list, and one more
pub take_next : (ns : List ℕ) (i : ℕ) {n : ℕ} → slice_get ns i ≡ Some n → take (i + 1) ns ≡ take i ns ++ n ∷ []
take_next ns i {n} is = take_more ns i n (slice_get_within ns i n is) ∙ ap (λ k. take i ns ++ k ∷ []) (get_or_from_slice_get ns i n n is)

-- a part of a list has a number no more often
pub times_part : (k i : ℕ) (ds : List ℕ) → times k (take i ds) ≤ times k ds
times_part k i ds = omega (arith, times-append k (take i ds) (drop i ds), ap (times k) (take-append-drop i ds))

pub used_part : (i : ℕ) (ds : List ℕ) (s : CountedStore) → AreUsed ds s → AreUsed (take i ds) s
used_part i ds s used k some = used k (omega (arith, some, times_part k i ds))

-- the first i of all have a name more than they had
module _ (all : List ℕ) (i : ℕ) (old : CountedStore) {s : CountedStore} (used : AreUsed all old) (s_is : s ≡ with_references_given (take i all) old) where
  counts_now : (k : ℕ) → count_of s k ≡ count_of old k + times k (take i all)
  counts_now k = ap (λ c. count_of c k) s_is ∙ counts_given (take i all) old (used_part i all old used) k

  -- which are there as before
  pub store_now : s.store ≡ old.store
  store_now = ap (λ (c : CountedStore). c.store) s_is ∙ store_given (take i all) old

  -- and may lose it
  pub named_now : (k : ℕ) → times k (take i all) ≤ count_of s k
  named_now k = omega (arith, counts_now k)

  pub back_now : with_references_dropped (take i all) s ≡ old
  back_now = ap (with_references_dropped (take i all)) s_is ∙ given_back (take i all) old (used_part i all old used)

  -- no data block has too many once these are all
  pub few_now : IsKept s → exceeds_counts (take i all) old ≡ false
  few_now kept = not_exceeds (take i all) old (used_part i all old used) (subst IsKept s_is kept)

  module _ {d : ℕ} (is : slice_get all i ≡ Some d) where
    -- the next is in use
    pub next_used : 0 < count_of s d
    next_used = omega (arith, used d (times_at d all i is), counts_now d)

    -- and has a name more, too
    pub next_given : with_reference d s ≡ with_references_given (take (i + 1) all) old
    next_given = ap (with_reference d) s_is ∙ sym (given_more (take i all) d old) ∙ ap (λ ds. with_references_given ds old) (sym (take_next all i is))

    -- unless it has all that it can have
    pub next_full : (n : ℕ) → i < n → count_of s d ≡ most_references → exceeds_counts (take n all) old ≡ true
    next_full n within full =
        exceeds (take n all) old i (slice_get-take n i all within ∙ is)
        (omega (
          arith,
          full,
          counts_now d,
          ap (times d) (take_next all i is),
          times-append d (take i all) (d ∷ []),
          times_here d d [] refl,
          ap (times d) (take-take (i + 1) n all (omega (arith, within))),
          times_part d (i + 1) (take n all),
        ))

-- ==== the message that a token names, beside one just begun of the first free message blocks

-- v was there before; in w the first `count` free numbers are a message, held at h
pub record IsInto (v w : ChainLists) (h count : ℕ) : Type 0 where
  pub is : nodes_at w h ≡ take count v.free
  pub begun : slice_get (nodes_at w h) 0 ≡ Some h
  pub many : length (nodes_at w h) ≡ count
  pub unheld : held_in v.held h ≡ None

module _ {v : ChainLists} (parted : IsLawful v) (count : ℕ) (some : 0 < count) (free : count ≤ length v.free) {h : ℕ} (begun : first v.free ≡ Some h) {w : ChainLists} (w_is : w ≡ with_begun v h count) where
  h_free : 0 < times h v.free
  h_free = omega (arith, ap (times h) (first_rest v.free begun), times_here h h (drop 1 v.free) refl)

  into_new : nodes_at w h ≡ take count v.free
  into_new = ap (λ (l : ChainLists). nodes_at l h) w_is ∙ ap blocks_of (get_or-set_same v.held h (Some (take count v.free)) None (free_room parted h h_free))

  pub into_is : IsInto v w h count
  into_is = record {
    is = into_new;
    begun = ap (λ ns. slice_get ns 0) into_new ∙ slice_get-take count 0 v.free some ∙ at_first v.free begun;
    many = ap length into_new ∙ length-take-le count v.free free;
    unheld = free_unheld parted h h_free;
  }

-- and this message is beside the one held at g
pub record IsBeside (v w : ChainLists) (g h count : ℕ) : Type 0 where
  pub into : IsInto v w h count
  pub enough : count ≤ length (nodes_at v g)
  pub from_is : nodes_at w g ≡ nodes_at v g
  pub from : slice_get (nodes_at v g) 0 ≡ Some g
  pub apart : (n : ℕ) → times n (nodes_at w g) + times n (nodes_at w h) ≤ 1
  pub other : g ≢ h

module _ {id : ℕ} {s : CountedStore} {fields : List Fields} {v : ChainLists} (filled : IsFilled s fields v (arena_of id s.store fields v)) (token : TokenValue) (had : has (arena_of id s.store fields v) token ≡ true)
    (count : ℕ) (part : (0 < count) × (count ≤ token.blocks)) (free : count ≤ length v.free) {h : ℕ} (begun : first v.free ≡ Some h) {w : ChainLists} (w_is : w ≡ with_begun v h count) where
  abbrev g : ℕ
  g = token.head

  new : IsInto v w h count
  new = into_is filled.parted count part.0 free begun w_is

  held_there : (held_in v.held g ≡ Some (nodes_at v g)) × (token.blocks ≡ length (nodes_at v g))
  held_there = token_nodes id s fields v token had

  other : g ≢ h
  other same = none-some (nodes_at v g) (sym new.unheld ∙ ap (held_in v.held) (sym same) ∙ held_there.0)

  from_same : nodes_at w g ≡ nodes_at v g
  from_same = ap (λ (l : ChainLists). nodes_at l g) w_is ∙ ap blocks_of (get_or-set_other v.held h g (Some (take count v.free)) None other)

  pub beside : IsBeside v w g h count
  beside = record {
    into = new;
    enough = omega (arith, part.1, held_there.1);
    from_is = from_same;
    from = at_first (nodes_at v g) (begins_with filled.parted g held_there.0);
    apart = λ n.
        omega (
          arith,
          ap (times n) from_same,
          ap (times n) new.is,
          times_part n count v.free,
          one_of_all filled.parted n,
          held_parts v g n held_there.0,
        );
    other = other;
  }

-- ==== what the blocks of one message say is copied to those of another, one by one

-- what the loop keeps while the blocks `to` come to say what the blocks `from` say, from place i on
pub record IsCopying (from to : List ℕ) (i : ℕ) (old now : List Fields) : Type 0 where
  pub after : with_fields (drop i to) (map (fields_at old) (drop i from)) now ≡ with_fields to (map (fields_at old) from) old
  pub others : (k : ℕ) → times k to ≡ 0 → fields_at now k ≡ fields_at old k
  pub many : length now ≡ length old

module _ {from to : List ℕ} {i : ℕ} {old now : List Fields} (copying : IsCopying from to i old now) where
  pub next_copying : {r w : ℕ} → slice_get from i ≡ Some r → slice_get to i ≡ Some w → times r to ≡ 0 → IsCopying from to (i + 1) old (set now w (fields_at now r))
  next_copying {r} {w} read written apart = record {
    after =
        ap (λ x. with_fields (drop (i + 1) to) (map (fields_at old) (drop (i + 1) from)) (set now w x)) (copying.others r apart)
        ∙ (λ j. with_fields (sym (drop_from to i w written) j) (map (fields_at old) (sym (drop_from from i r read) j)) now)
        ∙ copying.after;
    others = λ k none.
        get_or-set_other now w k (fields_at now r) no_fields (λ same. absurd (omega (arith, none, times_at w to i written, ap (λ j. times j to) same)))
        ∙ copying.others k none;
    many = length-set now w (fields_at now r) ∙ copying.many;
  }

  -- all are copied
  pub all_copied : length to ≤ i → now ≡ with_fields to (map (fields_at old) from) old
  all_copied past = ap (λ ns. with_fields ns (map (fields_at old) (drop i from)) now) (sym (drop_all i to past)) ∙ copying.after

-- ==== duplicates of the first blocks of a held message: as many free message blocks over their data blocks

-- what is there once the blocks `bs` of the message that the token names are duplicated, under the head h
pub record IsDuplicated (a : Arena) (t : CountedStore) (fields : List Fields) (w : ChainLists) (id h : ℕ) (bs : List Block) (token : TokenValue) : Type 0 where
  pub begun : IsBegunAll a t fields w id h bs
  pub done : message_duplicated bs a ≡ Ok (h, arena_of id t.store fields w)
  pub source : has (arena_of id t.store fields w) token ≡ true

module _ {id : ℕ} {s : CountedStore} {fields : List Fields} {v : ChainLists} (filled : IsFilled s fields v (arena_of id s.store fields v)) (token : TokenValue) (had : has (arena_of id s.store fields v) token ≡ true)
    (n : ℕ) (part : (0 < n) × (n ≤ token.blocks)) where
  abbrev old : Arena
  old = arena_of id s.store fields v

  -- the blocks of the message
  abbrev ns : List ℕ
  ns = nodes_at v token.head

  message : (m : Message) × IsHad old token m
  message = had_message old token had

  held : held_in v.held token.head ≡ Some ns
  held = (token_nodes id s fields v token had).0

  long : n ≤ length ns
  long = omega (arith, part.1, (token_nodes id s fields v token had).1)

  -- their first, and what these name
  abbrev bs : List Block
  bs = message_of fields (take n ns)

  abbrev ds : List ℕ
  ds = take n (data_used_by fields ns)

  bs_is : take n (message_at old token.head) ≡ bs
  bs_is = ap (take n) (message_at-seen id s.store fields v token.head) ∙ take-map (block_at fields) n ns

  ds_is : ds ≡ data_used_by fields (take n ns)
  ds_is = take-map (λ k. (fields_at fields k).data_number) n ns

  many : length bs ≡ n
  many = length-map (take n ns) (block_at fields) ∙ length-take-le n ns long

  pub used : AreUsed (data_used_by fields ns) s
  used d inside = omega (arith, inside, enough id s fields v filled token.head held d)

  named : (d : ℕ) → count_by (uses_data d) bs ≡ times d ds
  named d = naming-named fields d (take n ns) ∙ ap (times d) (sym ds_is)

  -- whether some data block would have too many references
  exceed_is : exceeds_references bs old ≡ exceeds_counts ds s
  exceed_is =
      list_any-map (block_at fields) (λ b. nat_lt most_references (references_to old b.data_number + count_by (uses_data b.data_number) bs)) (take n ns)
      ∙ (λ i. list_any (λ k. let d = (fields_at fields k).data_number in nat_lt most_references (sym (filled.counts d) i + named d i)) (take n ns))
      ∙ sym (list_any-map (λ k. (fields_at fields k).data_number) (λ d. nat_lt most_references (count_of s d + times d ds)) (take n ns))
      ∙ ap (list_any (λ d. nat_lt most_references (count_of s d + times d ds))) (sym ds_is)

  module _ (free : n ≤ length v.free) where
    room : nat_lt (length v.free) (length bs) ≡ false
    room = le-ltb (length v.free) (length bs) (omega (arith, free, many))

    pub refused : exceeds_counts ds s ≡ true → message_duplicated (take n (message_at old token.head)) old ≡ Err RefMax
    refused exceed = ap (λ xs. message_duplicated xs old) bs_is ∙ cond-false _ _ _ room ∙ cond-true _ _ _ (exceed_is ∙ exceed)

    -- the first free blocks are a message, held at h
    module _ (h : ℕ) (begun : first v.free ≡ Some h) (w : ChainLists) (w_is : w ≡ with_begun v h n) (parted : IsLawful w) where
      both : IsBeside v w token.head h n
      both = beside filled token had n part free begun w_is

      module _ (t : CountedStore) (now : List Fields) (kept : IsKept t) (few : exceeds_counts ds s ≡ false) (t_is : t ≡ with_references_given ds s)
          (now_is : now ≡ with_fields (nodes_at w h) (map (fields_at fields) (take n (nodes_at w token.head))) fields) where
        same_store : t.store ≡ s.store
        same_store = ap (λ (c : CountedStore). c.store) t_is ∙ store_given ds s

        rooms : HasRooms s.store t.store
        rooms = subst (HasRooms s.store) (sym same_store) (record { many = refl; room = λ k. refl })

        placed : All (λ b. IsPlaced t.store (fields_of b)) bs
        placed =
            All-map (λ b. IsPlaced t.store (fields_of b)) (block_at fields) (take n ns)
            (λ k d inside.
            let at : slice_get ns k ≡ Some (get_or (take n ns) k d) = sym (slice_get-take n k ns (omega (arith, inside, length-take-le n ns long))) ∙ slice_get-get_or (take n ns) k d inside in
            subst (λ (store : DataStore). IsPlaced store (fields_at fields (get_or (take n ns) k d))) (sym same_store)
            (filled.placed (get_or (take n ns) k d) (node_room filled token.head k held at)))

        counts : (k : ℕ) → count_of t k ≡ count_of s k + count_by (uses_data k) bs
        counts k = ap (λ c. count_of c k) t_is ∙ counts_given ds s (used_part n (data_used_by fields ns) s used) k ∙ ap (λ c. count_of s k + c) (sym (named k))

        fields_are : with_fields (take (length bs) v.free) (map fields_of bs) fields ≡ now
        fields_are = grind (arith, common_steps, many, map-map, both)

        all_begun : IsBegunAll old t now w id h bs
        all_begun =
            subst (λ fs. IsBegunAll old t fs w id h bs) fields_are
            (begins_all id s fields v filled h begun bs (omega (arith, part.0, many)) (omega (arith, free, many)) kept (w_is ∙ ap (with_begun v h) (sym many)) parted rooms placed counts)

        pub duplicates : IsDuplicated old t now w id h (take n (message_at old token.head)) token
        duplicates = grind (arith, common_steps, bs_is, all_begun, cond-false, room, exceed_is, same_store, had_again, message, both, held)
