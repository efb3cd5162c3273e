-- Messages copied, block by block.
use Rattle.std.proofs.Common.{◌≡◌, ℕ, ◌+◌, ◌^◌, ◌<◌, ◌≤◌, true, eqb, List, [], ◌∷◌, ◌++◌, map, drop, take, set, length, Option, Some, Ok, refl, sym, ap, ◌∙◌, arith, length-append, None, Err, subst}
use Rattle.std.specs.Prelude.{count_by, slice_get}
use Rattle.std.specs.List.{All}
use Rattle.std.specs.Result.{is_ok}
use Rattle.std.proofs.lemmas.Bool.Decides.{eqb_tells}
use Rattle.std.proofs.lemmas.List.{length-map, length-take-le, map-append}
use Rattle.std.proofs.lemmas.List.Elements.{All-push}
use Rattle.std.proofs.lemmas.Option.{slice_get_within}
use Rattle.std.proofs.lemmas.Bool.{cond-false, le-ltb}
use Rattle.strm_data.specs.CountedStore.{CountedStore, IsUnused, count_of, IsKept}
use Rattle.strm_data.specs.DataStore.{DataStore, capacity_of, take_data, times}
use Rattle.strm_links.proofs.lists.Counting.{one_if}
use Rattle.strm_links.specs.Rows.{first}
use Rattle.strm_data.specs.declared.refusal.Refusal.TheVariants.{NoMblk}
use Rattle.strm_mblk.specs.declared.blocks.Fields.{Fields}
use Rattle.strm_mblk.specs.Block.{Block, uses_data}
use Rattle.strm_mblk.specs.BlockCalls.{blocks_copied, copied_from, store_with_copy, message_copied, held_under}
use Rattle.strm_mblk.specs.BlocksLayout.{IsPlaced, fields_at, fields_of, with_fields, IsFilled, arena_of, block_at, message_of}
use Rattle.strm_mblk.specs.Copying.{with_copy, AreCopied}
use Rattle.strm_mblk.specs.Given.{answer_map}
use Rattle.strm_mblk.specs.declared.token.TokenValue.{TokenValue}
use Rattle.strm_mblk.specs.Arena.{Arena, has, message_at}
use Rattle.strm_links.specs.ChainLists.{IsLawful, ChainLists, nodes_at, with_begun}
use Rattle.strm_mblk.proofs.making.Begun.{with_fields_other, IsBegunAll, begins_all}
use Rattle.strm_mblk.proofs.making.CopiesCounted.{answer_more, can_take, in_front, in_front_none, rooms-copied}
use Rattle.strm_mblk.proofs.Lists.{count_adds, count_one}
use Rattle.strm_mblk.proofs.making.Duplicated.{take_next, times_part, IsBeside, beside}
use Rattle.strm_mblk.proofs.layout.Rooms.{HasRooms, count_of-set, placed-over, rooms-both}
use Rattle.strm_mblk.proofs.layout.StoredArena.{message_at-seen}
use Rattle.strm_mblk.proofs.arena.Counts.{had_again, had_message}
use Rattle.std.proofs.lemmas.Grind.{common_steps}

-- ==== copies of blocks are made one after the other, each over a data block just taken

-- ---- lists

-- one message block more says something
with_fields_more : (ns : List ℕ) (xs fields : List Fields) (n : ℕ) (x : Fields) → length ns ≡ length xs → with_fields (ns ++ n ∷ []) (xs ++ x ∷ []) fields ≡ set (with_fields ns xs fields) n x
with_fields_more [] [] fields n x same = refl
with_fields_more [] (y ∷ xs) fields n x same = absurd (omega (arith, same))
with_fields_more (m ∷ ns) [] fields n x same = absurd (omega (arith, same))
with_fields_more (m ∷ ns) (y ∷ xs) fields n x same = with_fields_more ns xs (set fields m y) n x (omega (arith, same))

-- ---- the loop

-- what the loop keeps while it copies: `made` are the copies of the blocks before i
pub record IsCopying (o : Option DataStore) (bs : List Block) (ns : List ℕ) (i : ℕ) (old new : List Fields) (s t : CountedStore) : Type 0 where
  pub made : List Block
  pub answer : blocks_copied o bs s.store ≡ answer_map (in_front made) (blocks_copied o (drop i bs) t.store)
  pub fields : new ≡ with_fields (take i ns) (map fields_of made) old
  pub many : length made ≡ i
  pub named : (d : ℕ) → count_of t d ≡ count_of s d + count_by (uses_data d) made
  pub placed : All (λ b. IsPlaced t.store (fields_of b)) made
  pub rooms : HasRooms s.store t.store

-- nothing is copied yet
pub none_copied : (o : Option DataStore) (bs : List Block) (ns : List ℕ) (fields : List Fields) (s : CountedStore) → IsCopying o bs ns 0 fields fields s s
none_copied o bs ns fields s = grind (arith, common_steps, in_front_none)

module _ {o : Option DataStore} {bs : List Block} {ns : List ℕ} {i : ℕ} {old new : List Fields} {s t : CountedStore} (copying : IsCopying o bs ns i old new s t) where
  -- a number that is none of the copies' says what it said
  pub source_stays : (n : ℕ) → times n ns ≡ 0 → fields_at new n ≡ fields_at old n
  source_stays n none = grind (arith, common_steps, with_fields_other, times_part)

  module _ (b : Block) (next : drop i bs ≡ b ∷ drop (i + 1) bs) where
    -- the next data block can be taken
    pub next_fits : is_ok (blocks_copied o bs s.store) ≡ true → is_ok (take_data (capacity_of (copied_from o t.store) b.data_number) t.store) ≡ true
    next_fits = can_take o bs i s.store t.store copying.made copying.answer b next

    -- the next block is copied
    module _ (d n : ℕ) (taken : take_data (capacity_of (copied_from o t.store) b.data_number) t.store ≡ Ok d) (unused : IsUnused t d) (room : capacity_of (copied_from o t.store) b.data_number ≤ capacity_of t.store d)
        (within : b.offset + b.len ≤ capacity_of (copied_from o t.store) b.data_number) (banded : b.band < 2 ^ 8) (at : slice_get ns i ≡ Some n) where
      abbrev copy : Block
      copy = record b { data_number = d }

      rooms_more : HasRooms t.store (store_with_copy o b t.store d)
      rooms_more = rooms-copied o b t.store d (omega (arith, room, within))

      many_before : length (take i ns) ≡ length (map fields_of copying.made)
      many_before = omega (arith, length-take-le i ns (omega (arith, slice_get_within ns i n at)), length-map copying.made fields_of, copying.many)

      named_more : (k : ℕ) → count_of (with_copy o b t d) k ≡ count_of t k + one_if (eqb d k)
      named_more k = grind (arith, common_steps, count_of-set, eqb_tells)

      placed_copy : IsPlaced (store_with_copy o b t.store d) (fields_of copy)
      placed_copy = record { there = omega (arith, unused.there, rooms_more.many); within = omega (arith, within, room, rooms_more.room d); banded = banded }

      pub next_copied : IsCopying o bs ns (i + 1) old (set new n (fields_of copy)) s (with_copy o b t d)
      next_copied = record {
        made = copying.made ++ copy ∷ [];
        answer = answer_more o bs i s.store t.store copying.made copying.answer b next taken;
        fields =
            ap (λ fs. set fs n (fields_of copy)) copying.fields
            ∙ sym (with_fields_more (take i ns) (map fields_of copying.made) old n (fields_of copy) many_before)
            ∙ (λ j. with_fields (sym (take_next ns i at) j) (sym (map-append fields_of copying.made (copy ∷ [])) j) old);
        many = omega (arith, length-append copying.made (copy ∷ []), copying.many);
        named = λ k. omega (arith, named_more k, copying.named k, (count_adds (uses_data k)).both copying.made (copy ∷ []), count_one (uses_data k) copy);
        placed =
            All-push (λ x. IsPlaced (store_with_copy o b t.store d) (fields_of x)) copying.made copy
            (λ k e below. placed-over rooms_more (copying.placed k e below)) placed_copy;
        rooms = rooms-both copying.rooms rooms_more;
      }

-- ==== `copyb` and `copymsg`: copies of blocks are held as a message

-- what is there once copies of these blocks are a message, held at h
pub record IsMade (o : Option DataStore) (bs : List Block) (a : Arena) (t : CountedStore) (fields : List Fields) (w : ChainLists) (id h : ℕ) : Type 0 where
  pub made : List Block
  pub begun : IsBegunAll a t fields w id h made
  pub done : message_copied o bs a ≡ Ok (h, arena_of id t.store fields w)

-- copies of `count` blocks were made, in the first free message blocks
module _ (o : Option DataStore) (bs : List Block) {count : ℕ} (many : length bs ≡ count) {id : ℕ} {s : CountedStore} {fields : List Fields} {v : ChainLists} (filled : IsFilled s fields v (arena_of id s.store fields v))
    (some : 0 < count) (free : count ≤ length v.free) (h : ℕ) (begun : first v.free ≡ Some h) (w : ChainLists) (w_is : w ≡ with_begun v h count) (into_is : nodes_at w h ≡ take count v.free) (parted : IsLawful w)
    (t : CountedStore) (new : List Fields) (kept : IsKept t) (are : AreCopied o bs (nodes_at w h) fields new s t) where
  abbrev before : Arena
  before = arena_of id s.store fields v

  made_many : length are.made ≡ count
  made_many = are.many ∙ many

  new_is : new ≡ with_fields (take (length are.made) v.free) (map fields_of are.made) fields
  new_is = are.fields ∙ ap (λ ns. with_fields ns (map fields_of are.made) fields) (into_is ∙ ap (λ j. take j v.free) (sym made_many))

  all_begun : IsBegunAll before t new w id h are.made
  all_begun =
      subst (λ fs. IsBegunAll before t fs w id h are.made) (sym new_is)
      (begins_all id s fields v filled h begun are.made (omega (arith, some, made_many)) (omega (arith, free, made_many)) kept (w_is ∙ ap (with_begun v h) (sym made_many)) parted
      (record { many = are.blocks; room = are.rooms }) are.placed are.named)

  pub is_made : IsMade o bs before t new w id h
  is_made = record {
    made = are.made;
    begun = all_begun;
    done =
        cond-false _ (Err NoMblk) (answer_map (λ g. held_under g.0 g.1 before) (blocks_copied o bs s.store)) (le-ltb (length v.free) (length bs) (omega (arith, free, many)))
        ∙ ap (answer_map (λ g. held_under g.0 g.1 before)) are.answer
        ∙ ap (λ (p : ℕ × Arena). Ok p) (sym all_begun.shows);
  }

-- what is there once copies of the first `count` blocks of the message that a token names are a message, held at h
pub record IsCopied (a : Arena) (t : CountedStore) (fields : List Fields) (w : ChainLists) (id h count : ℕ) (token : TokenValue) : Type 0 where
  pub is : IsMade None (take count (message_at a token.head)) a t fields w id h
  pub source : has (arena_of id t.store fields w) token ≡ true

module _ {id : ℕ} {s : CountedStore} {fields : List Fields} {v : ChainLists} (filled : IsFilled s fields v (arena_of id s.store fields v)) (token : TokenValue) (had : has (arena_of id s.store fields v) token ≡ true)
    (count : ℕ) (part : (0 < count) × (count ≤ token.blocks)) (free : count ≤ length v.free) (h : ℕ) (begun : first v.free ≡ Some h) (w : ChainLists) (w_is : w ≡ with_begun v h count) (parted : IsLawful w)
    (t : CountedStore) (new : List Fields) (kept : IsKept t) (are_now : AreCopied None (take count (message_of fields (nodes_at w token.head))) (nodes_at w h) fields new s t) where
  abbrev old : Arena
  old = arena_of id s.store fields v

  both : IsBeside v w token.head h count
  both = beside filled token had count part free begun w_is

  abbrev bs : List Block
  bs = take count (message_of fields (nodes_at v token.head))

  blocks_many : length bs ≡ count
  blocks_many = length-take-le count (message_of fields (nodes_at v token.head)) (omega (arith, both.enough, length-map (nodes_at v token.head) (block_at fields)))

  made : IsMade None bs old t new w id h
  made =
      is_made None bs blocks_many filled part.0 free h begun w w_is both.into.is parted t new kept
      (subst (λ ns. AreCopied None (take count (message_of fields ns)) (nodes_at w h) fields new s t) both.from_is are_now)

  pub copied_all : IsCopied old t new w id h count token
  copied_all = record {
    is = subst (λ m. IsMade None (take count m) old t new w id h) (sym (message_at-seen id s.store fields v token.head)) made;
    source =
        let message = had_message old token had in
        had_again old (arena_of id t.store new w) token message.0 message.0 message.1 (made.begun.others token.head both.other ∙ message.1.held) refl refl;
  }
