-- Messages freed.
use Rattle.std.proofs.Common.{◌≡◌, ℕ, suc, ◌+◌, ◌<◌, ◌≤◌, ◌==◌, Bool, true, false, eqb, List, [], ◌∷◌, ◌++◌, length, Option, Some, refl, sym, ap, ◌∙◌, inl, inr, arith, if◌then◌else◌, set, None, subst, length-set}
use Rattle.std.proofs.lemmas.Option.{slice_get-map}
use Rattle.std.specs.Prelude.{count_by, drop, reverse, slice_get, option_map}
use Rattle.std.proofs.lemmas.Bool.{cases_lt, eq-eqb, ne_eqb}
use Rattle.std.proofs.lemmas.Bool.Decides.{eqb_tells}
use Rattle.std.proofs.lemmas.List.{append_assoc, get_or_past, reverse-append, map-set}
use Rattle.strm_data.specs.CountedStore.{CountedStore, count_of, without_reference, IsKept}
use Rattle.strm_data.specs.DataStore.{DataStore, times, with_data_freed}
use Rattle.strm_links.proofs.lists.Counting.{one_if, times-cons}
use Rattle.strm_mblk.specs.declared.blocks.Fields.{Fields}
use Rattle.strm_mblk.specs.Arena.{Arena, held_at, references_to, shelved_blocks, without_held}
use Rattle.strm_mblk.specs.Block.{Message, uses_data}
use Rattle.strm_mblk.specs.BlocksLayout.{block_at, fields_at, message_of, data_used_by, with_references_dropped, IsFilled, arena_of}
use Rattle.strm_mblk.specs.Freeing.{with_block_freed, with_blocks_freed, freemsg}
use Rattle.strm_mblk.specs.Messages.{blocks_held, blocks_on, blocks_of, held_in}
use Rattle.strm_links.specs.ChainLists.{IsLawful, ChainLists, nodes_at}
use Rattle.strm_mblk.proofs.Lists.{count_by-map, drop_from, count_adds}
use Rattle.strm_mblk.proofs.layout.Rooms.{HasRooms, count_of-set, rooms-both, placed-over}
use Rattle.strm_mblk.proofs.arena.Counts.{held_moves, held_within}
use Rattle.strm_mblk.proofs.layout.StoredArena.{blocks_of-mapped, held_at-seen, message_at-seen}
use Rattle.std.proofs.lemmas.Grind.{common_steps}

-- ==== names that blocks taken out of all messages had are dropped, one after the other

-- the data block that a block of a list uses
pub named-get : (fields : List Fields) (ns : List ℕ) (i : ℕ) {n : ℕ} → slice_get ns i ≡ Some n → slice_get (data_used_by fields ns) i ≡ Some (fields_at fields n).data_number
named-get fields ns i is = slice_get-map (λ k. (fields_at fields k).data_number) ns i ∙ ap (option_map (λ k. (fields_at fields k).data_number)) is

-- a data block that has a name has a count
pub counted_there : (s : CountedStore) (d : ℕ) → 0 < count_of s d → d < length s.counts
counted_there s d used = elim (cases_lt d (length s.counts)) [ inl there ↦ there | inr past ↦ absurd (omega (arith, used, get_or_past s.counts d 0 past)) ]

-- the counts once d has a name less
pub named_less : (s : CountedStore) (d : ℕ) → 0 < count_of s d → (k : ℕ) → count_of (without_reference d s) k + one_if (eqb d k) ≡ count_of s k
named_less s d used k = grind (arith, common_steps, one_if, count_of-set, counted_there, eqb_tells)

rooms-if : (s : DataStore) (d : ℕ) (last : Bool) → HasRooms s (if last then with_data_freed d s else s)
rooms-if s d true = record { many = refl; room = λ k. refl }
rooms-if s d false = record { many = refl; room = λ k. refl }

-- data blocks keep their capacity when one loses a name
pub rooms-less : (s : CountedStore) (d : ℕ) → HasRooms s.store (without_reference d s).store
rooms-less s d = rooms-if s.store d (count_of s d == 1)

-- and when several do
pub rooms-dropped : (ds : List ℕ) (s : CountedStore) → HasRooms s.store (with_references_dropped ds s).store
rooms-dropped [] s = record { many = refl; room = λ k. refl }
rooms-dropped (d ∷ ds) s = rooms-both (rooms-less s d) (rooms-dropped ds (without_reference d s))

-- ---- one step of the loop

-- what the loop keeps while it drops the references of `ds`, from place i on
pub record IsDropping (ds : List ℕ) (i : ℕ) (old s : CountedStore) : Type 0 where
  pub after : with_references_dropped (drop i ds) s ≡ with_references_dropped ds old
  pub named : (d : ℕ) → times d (drop i ds) ≤ count_of s d
  pub many : length s.store.blocks ≡ length old.store.blocks

-- before the first step
pub start_dropping : (ds : List ℕ) (s : CountedStore) → ((d : ℕ) → times d ds ≤ count_of s d) → IsDropping ds 0 s s
start_dropping ds s named = record { after = refl; named = named; many = refl }

module _ {ds : List ℕ} {i : ℕ} {old s : CountedStore} (dropping : IsDropping ds i old s) {d : ℕ} (is : slice_get ds i ≡ Some d) where
  -- the next data block has a name
  pub next_used : 0 < count_of s d
  next_used = omega (arith, dropping.named d, ap (times d) (drop_from ds i d is), times-cons d d (drop (i + 1) ds), ap one_if (eq-eqb d d refl))

  pub next_dropping : IsDropping ds (i + 1) old (without_reference d s)
  next_dropping = record {
    after = ap (λ xs. with_references_dropped xs s) (sym (drop_from ds i d is)) ∙ dropping.after;
    named = λ k. omega (arith, dropping.named k, ap (times k) (drop_from ds i d is), times-cons k d (drop (i + 1) ds), named_less s d next_used k);
    many = (rooms-less s d).many ∙ dropping.many;
  }

-- ---- all blocks of a message

-- how many blocks name a data block
pub naming-named : (fields : List Fields) (d : ℕ) (ns : List ℕ) → count_by (uses_data d) (message_of fields ns) ≡ times d (data_used_by fields ns)
naming-named fields d ns = grind (arith, common_steps, count_by-map)

-- none is left after one of two where one was all
pub last_one : (x : ℕ) {y : ℕ} → y ≡ suc x → (x == 0) ≡ (y == 1)
last_one x is = grind (arith, common_steps, eq-eqb, ne_eqb)

-- an element joins the front of a list after the elements that follow it
pub reverse_onto : {X : Type 0} (n : X) (ns free : List X) → reverse ns ++ (n ∷ free) ≡ reverse (n ∷ ns) ++ free
reverse_onto n ns free = sym (ap (λ xs. xs ++ free) (reverse-append (n ∷ []) ns) ∙ append_assoc (reverse ns) (n ∷ []) free)

module _ (id : ℕ) (fields : List Fields) (held : List (Option Message)) (shelves : List (List Message)) where
  -- how many blocks of messages name a data block
  abbrev names : ℕ → ℕ
  names d = count_by (uses_data d) (blocks_on shelves ++ blocks_held held)

  -- counts are the references that messages have, and those of blocks that are loose
  abbrev AreCounted : CountedStore → List ℕ → Type 0
  AreCounted s ns = (d : ℕ) → count_of s d ≡ names d + times d (data_used_by fields ns)

  first_used : (s : CountedStore) (n : ℕ) (ns : List ℕ) → AreCounted s (n ∷ ns) → 0 < count_of s (fields_at fields n).data_number
  first_used s n ns counts = grind (arith, common_steps, times-cons, one_if, eq-eqb)

  counted_less : (s : CountedStore) (n : ℕ) (ns : List ℕ) → AreCounted s (n ∷ ns) → AreCounted (without_reference (fields_at fields n).data_number s) ns
  counted_less s n ns counts k = grind (arith, common_steps, times-cons, named_less, first_used)

  -- counts are references again
  pub counts_left : (ns : List ℕ) (s : CountedStore) → AreCounted s ns → (d : ℕ) → count_of (with_references_dropped (data_used_by fields ns) s) d ≡ names d
  counts_left [] s counts d = omega (arith, counts d)
  counts_left (n ∷ ns) s counts d = counts_left ns (without_reference (fields_at fields n).data_number s) (counted_less s n ns counts) d

  -- what is there while loose blocks are freed
  module _ (least : ℕ) where
    abbrev over : CountedStore → List ℕ → Arena
    over s free = record { id = id; store = s.store; free = free; held = held; shelves = shelves; least = least }

    one_freed : (n : ℕ) (ns : List ℕ) (s : CountedStore) (free : List ℕ) → AreCounted s (n ∷ ns)
        → with_block_freed (block_at fields n) (message_of fields ns) (over s free) ≡ over (without_reference (fields_at fields n).data_number s) (n ∷ free)
    one_freed n ns s free counts = grind (arith, common_steps, times-cons, one_if, eq-eqb, naming-named, last_one)

    -- blocks that are freed first to last leave what is left once their references are dropped
    pub all_freed : (ns : List ℕ) (s : CountedStore) (free : List ℕ) → AreCounted s ns
        → with_blocks_freed (message_of fields ns) (over s free) ≡ over (with_references_dropped (data_used_by fields ns) s) (reverse ns ++ free)
    all_freed [] s free counts = refl
    all_freed (n ∷ ns) s free counts =
        let d = (fields_at fields n).data_number in
        ap (with_blocks_freed (message_of fields ns)) (one_freed n ns s free counts)
        ∙ all_freed ns (without_reference d s) (n ∷ free) (counted_less s n ns counts)
        ∙ ap (over (with_references_dropped (data_used_by fields (n ∷ ns)) s)) (reverse_onto n ns free)

-- ==== blocks of a held message are free, and their references are dropped: all of them, as `freemsg` does, or some

-- a is what was there, and the lists are what is there once blocks of a message were freed, which b says
pub record IsFreed (a b : Arena) (t : CountedStore) (fields : List Fields) (w : ChainLists) (id : ℕ) : Type 0 where
  pub filled : IsFilled t fields w (arena_of id t.store fields w)
  pub shelved : shelved_blocks (arena_of id t.store fields w) ≡ shelved_blocks a
  pub after : arena_of id t.store fields w ≡ b

module _ (id : ℕ) (s : CountedStore) (fields : List Fields) (v : ChainLists) (filled : IsFilled s fields v (arena_of id s.store fields v)) (h : ℕ) (held : held_in v.held h ≡ Some (nodes_at v h)) where
  abbrev old : Arena
  old = arena_of id s.store fields v

  -- the message
  message : held_at old h ≡ Some (message_of fields (nodes_at v h))
  message = held_at-seen id s.store fields v h ∙ ap (option_map (message_of fields)) held

  -- ---- `out` of its blocks are freed, and the others are all of what is held then

  module _ (o : Option (List ℕ)) (out : List ℕ) (parts : (d : ℕ) → times d (data_used_by fields (nodes_at v h)) ≡ times d (data_used_by fields (blocks_of o)) + times d (data_used_by fields out)) where
    -- the arena without the blocks that are freed
    abbrev left : Arena
    left = record old { held = set old.held h (option_map (message_of fields) o) }

    -- these name data blocks beside those that messages name
    loose : (d : ℕ) → count_of s d ≡ references_to left d + times d (data_used_by fields out)
    loose d =
        omega (
          arith,
          filled.counts d,
          held_moves (count_adds (uses_data d)) old h (option_map (message_of fields) o) (held_within old h (message_of fields (nodes_at v h)) message),
          ap (λ m. count_by (uses_data d) (blocks_of m)) message,
          ap (count_by (uses_data d)) (blocks_of-mapped fields o),
          naming-named fields d (nodes_at v h),
          naming-named fields d (blocks_of o),
          parts d,
        )

    module _ {t : CountedStore} {w : ChainLists} (t_is : t ≡ with_references_dropped (data_used_by fields out) s) (kept : IsKept t) (w_is : w ≡ record v { free = reverse out ++ v.free; held = set v.held h o }) (parted : IsLawful w) where
      shows : arena_of id t.store fields w ≡ record left { store = t.store; free = reverse out ++ v.free }
      shows = grind (arith, common_steps, map-set)

      rooms : HasRooms s.store t.store
      rooms = subst (HasRooms s.store) (sym (ap (λ (c : CountedStore). c.store) t_is)) (rooms-dropped (data_used_by fields out) s)

      pub frees_some : IsFreed old (with_blocks_freed (message_of fields out) left) t fields w id
      frees_some = record {
        filled = record {
          kept = kept;
          parted = parted;
          few = omega (arith, filled.few, many);
          listed = omega (arith, filled.listed, many);
          placed = λ n within. placed-over rooms (filled.placed n within);
          counts = λ d.
              ap (λ (c : CountedStore). count_of c d) t_is ∙ counts_left id fields left.held old.shelves out s loose d
              ∙ ap (λ a. references_to a d) (sym shows);
        };
        shelved = ap shelved_blocks shows;
        after =
            shows
            ∙ ap (λ (c : CountedStore). record left { store = c.store; free = reverse out ++ v.free }) t_is
            ∙ sym (all_freed id fields left.held old.shelves v.least out s v.free loose);
      }
        where
          many : length w.held ≡ length v.held
          many = ap (λ (l : ChainLists). length l.held) w_is ∙ length-set v.held h o

  -- ---- all of them are

  none_stay : (d : ℕ) → times d (data_used_by fields (nodes_at v h)) ≡ times d (data_used_by fields (blocks_of None)) + times d (data_used_by fields (nodes_at v h))
  none_stay d = omega arith

  pub enough : (d : ℕ) → times d (data_used_by fields (nodes_at v h)) ≤ count_of s d
  enough d = omega (arith, loose None (nodes_at v h) none_stay d)

  pub frees : (t : CountedStore) (w : ChainLists) → t ≡ with_references_dropped (data_used_by fields (nodes_at v h)) s → IsKept t → w ≡ record v { free = reverse (nodes_at v h) ++ v.free; held = set v.held h None } → IsLawful w
      → IsFreed old (freemsg h old) t fields w id
  frees t w t_is kept w_is parted =
      subst (λ m. IsFreed old (with_blocks_freed m (without_held h old)) t fields w id) (sym (message_at-seen id s.store fields v h))
      (frees_some None (nodes_at v h) none_stay t_is kept w_is parted)
