-- Messages begun: the first free message blocks become a held message.
use Rattle.std.proofs.Common.{◌≡◌, ◌≢◌, ℕ, suc, ◌+◌, ◌<◌, ◌≤◌, List, [], ◌∷◌, map, length, get_or, set, Option, Some, None, refl, sym, ap, ◌∙◌, arith, get_or-set_same, get_or-set_other, length-set, zero, true, Ok, subst}
use Rattle.std.specs.Prelude.{count_by, drop, option_map, take}
use Rattle.std.specs.List.{All}
use Rattle.std.proofs.lemmas.List.{length-map, length-take-le, map-set, take-append-drop}
use Rattle.std.proofs.lemmas.Option.{none-some, same_Some}
use Rattle.std.proofs.lemmas.Bool.Decides.{eqb_tells}
use Rattle.strm_links.specs.Rows.{first}
use Rattle.strm_data.specs.CountedStore.{CountedStore, IsKept, count_of, IsUnused, after_take}
use Rattle.strm_data.specs.DataStore.{DataStore, times, take_data, with_data_taken}
use Rattle.strm_links.proofs.lists.Counting.{times-append, times-cons, times_here, times_other}
use Rattle.strm_data.specs.Classes.{fits_a_class}
use Rattle.strm_mblk.specs.declared.blocks.Fields.{Fields}
use Rattle.strm_mblk.specs.Arena.{Arena, held_at, references_to, shelved_blocks, with_held, with_free_left}
use Rattle.strm_mblk.specs.Block.{Block, Message, head_of, uses_data, new_block}
use Rattle.strm_mblk.specs.BlockCalls.{held_under, blocks_renumbered, allocb}
use Rattle.strm_mblk.specs.BlocksLayout.{IsFilled, IsPlaced, arena_of, block_of, fields_at, fields_of, message_of, no_fields, with_fields}
use Rattle.strm_mblk.specs.Messages.{blocks_held, blocks_on, blocks_of}
use Rattle.strm_links.specs.ChainLists.{IsLawful, ChainLists, with_begun}
use Rattle.strm_mblk.proofs.layout.StoredArena.{AreAlike, alike_each, held-alike, held_at-seen, shelves-alike}
use Rattle.strm_mblk.proofs.Lists.{first_rest, count_adds, count_one}
use Rattle.strm_mblk.proofs.Nodes.{free_room, free_unheld, one_of_all}
use Rattle.strm_mblk.proofs.arena.Counts.{held_moves}
use Rattle.strm_mblk.proofs.layout.Rooms.{HasRooms, placed-over, placed-set, count_of-set, rooms-taken}
use Rattle.std.proofs.lemmas.Grind.{common_steps}

-- ==== the first free message blocks become one held message

-- ---- several message blocks say something else

pub length-with_fields : (ns : List ℕ) (xs fields : List Fields) → length (with_fields ns xs fields) ≡ length fields
length-with_fields [] xs fields = refl
length-with_fields (n ∷ ns) [] fields = refl
length-with_fields (n ∷ ns) (x ∷ xs) fields = length-with_fields ns xs (set fields n x) ∙ length-set fields n x

-- the others say what they said
pub with_fields_other : (ns : List ℕ) (xs fields : List Fields) (k : ℕ) → times k ns ≡ 0 → fields_at (with_fields ns xs fields) k ≡ fields_at fields k
with_fields_other [] xs fields k none = refl
with_fields_other (n ∷ ns) [] fields k none = refl
with_fields_other (n ∷ ns) (x ∷ xs) fields k none = grind (arith, common_steps, (with_fields_other ns xs (set fields n x) k), times_here, times_other, get_or-set_other)

-- so of a list with none of them
alike_others : (ns : List ℕ) (xs fields : List Fields) (ms : List ℕ) → ((k : ℕ) → times k ns + times k ms ≤ 1) → AreAlike fields (with_fields ns xs fields) ms
alike_others ns xs fields ms once = alike_each fields (with_fields ns xs fields) ms (λ k some. with_fields_other ns xs fields k (omega (arith, some, once k)))

-- places stay in data blocks
placed-fields : (s : DataStore) (ns : List ℕ) (bs : List Block) (fields : List Fields) → All (λ b. IsPlaced s (fields_of b)) bs
    → ((k : ℕ) → k < length fields → IsPlaced s (fields_at fields k)) → (k : ℕ) → k < length fields → IsPlaced s (fields_at (with_fields ns (map fields_of bs) fields) k)
placed-fields s [] bs fields new old k within = old k within
placed-fields s (n ∷ ns) [] fields new old k within = old k within
placed-fields s (n ∷ ns) (b ∷ bs) fields new old k within =
    placed-fields s ns bs (set fields n (fields_of b)) (λ i d inside. new (suc i) d (omega (arith, inside)))
    (placed-set s fields n (record { many = refl; room = λ j. refl }) (new 0 b (omega arith)) old) k (omega (arith, within, length-set fields n (fields_of b)))

-- they are these blocks under their own numbers
message-fields : (ns : List ℕ) (bs : List Block) (fields : List Fields) → length ns ≡ length bs → ((k : ℕ) → times k ns ≤ 1) → ((k : ℕ) → 0 < times k ns → k < length fields)
    → message_of (with_fields ns (map fields_of bs) fields) ns ≡ blocks_renumbered ns bs
message-fields [] bs fields many once within = refl
message-fields (n ∷ ns) [] fields many once within = absurd (omega (arith, many))
message-fields (n ∷ ns) (b ∷ bs) fields many once within =
    let here : times n (n ∷ ns) ≡ 1 + times n ns = times_here n n ns refl in
    let said : fields_at (with_fields ns (map fields_of bs) (set fields n (fields_of b))) n ≡ fields_of b =
    with_fields_other ns (map fields_of bs) (set fields n (fields_of b)) n (omega (arith, here, once n))
    ∙ get_or-set_same fields n (fields_of b) no_fields (within n (omega (arith, here))) in
    let rest =
    message-fields ns bs (set fields n (fields_of b)) (omega (arith, many)) (λ k. omega (arith, once k, times-cons k n ns))
    (λ k some. omega (arith, within k (omega (arith, some, times-cons k n ns)), length-set fields n (fields_of b))) in
    λ i. block_of n (said i) ∷ rest i

-- as many of them name a data block
renumbered_names : (d : ℕ) (ns : List ℕ) (bs : List Block) → length ns ≡ length bs → count_by (uses_data d) (blocks_renumbered ns bs) ≡ count_by (uses_data d) bs
renumbered_names d [] [] many = refl
renumbered_names d [] (b ∷ bs) many = absurd (omega (arith, many))
renumbered_names d (n ∷ ns) [] many = absurd (omega (arith, many))
renumbered_names d (n ∷ ns) (b ∷ bs) many = grind (arith, common_steps, (renumbered_names d ns bs), count_adds, count_one)

-- the first has the first number
renumbered_head : (ns : List ℕ) (bs : List Block) {h : ℕ} → first ns ≡ Some h → 0 < length bs → head_of (blocks_renumbered (take (length bs) ns) bs) ≡ h
renumbered_head [] bs {h} begun some = absurd (none-some h begun)
renumbered_head (n ∷ ns) [] begun some = absurd (omega (arith, some))
renumbered_head (n ∷ ns) (b ∷ bs) {h} begun some = same_Some n h begun

-- ---- what is there once the first free numbers are a message of these blocks, held at h, and `a` was there before

pub record IsBegunAll (a : Arena) (t : CountedStore) (fields : List Fields) (w : ChainLists) (id h : ℕ) (bs : List Block) : Type 0 where
  pub filled : IsFilled t fields w (arena_of id t.store fields w)
  pub shows : (h, arena_of id t.store fields w) ≡ held_under bs t.store a
  pub held : held_at (arena_of id t.store fields w) h ≡ Some (blocks_renumbered (take (length bs) a.free) bs)
  pub shelved : shelved_blocks (arena_of id t.store fields w) ≡ shelved_blocks a
  pub others : (k : ℕ) → k ≢ h → held_at (arena_of id t.store fields w) k ≡ held_at a k
  pub absent : held_at a h ≡ None

module _ (id : ℕ) (s : CountedStore) (fields : List Fields) (v : ChainLists) (filled : IsFilled s fields v (arena_of id s.store fields v)) (h : ℕ) (begun : first v.free ≡ Some h) where
  abbrev old : Arena
  old = arena_of id s.store fields v

  h_free : 0 < times h v.free
  h_free = omega (arith, ap (times h) (first_rest v.free begun), times_here h h (drop 1 v.free) refl)

  room : h < length v.held
  room = free_room filled.parted h h_free

  -- the first free block is one of all
  pub begin_room : h < length fields
  begin_room = omega (arith, room, filled.listed)

  unheld : held_at old h ≡ None
  unheld = held_at-seen id s.store fields v h ∙ ap (option_map (message_of fields)) (free_unheld filled.parted h h_free)

  module _ (bs : List Block) (some : 0 < length bs) (enough : length bs ≤ length v.free) where
    abbrev ns : List ℕ
    ns = take (length bs) v.free

    -- the free numbers are these, and the others
    parts : (k : ℕ) → times k v.free ≡ times k ns + times k (drop (length bs) v.free)
    parts k = ap (times k) (sym (take-append-drop (length bs) v.free)) ∙ times-append k ns (drop (length bs) v.free)

    within : (k : ℕ) → 0 < times k ns → k < length fields
    within k inside = omega (arith, filled.listed, free_room filled.parted k (omega (arith, parts k, inside)))

    many : length ns ≡ length bs
    many = length-take-le (length bs) v.free enough

    abbrev now : List Fields
    now = with_fields ns (map fields_of bs) fields

    abbrev m : Message
    m = blocks_renumbered ns bs

    message_is : message_of now ns ≡ m
    message_is = message-fields ns bs fields many (λ k. omega (arith, parts k, one_of_all filled.parted k)) within

    head_is : head_of m ≡ h
    head_is = renumbered_head v.free bs begun some

    module _ {t : CountedStore} {w : ChainLists} (kept : IsKept t) (w_is : w ≡ with_begun v h (length bs)) (parted : IsLawful w)
        (rooms : HasRooms s.store t.store) (placed : All (λ b. IsPlaced t.store (fields_of b)) bs) (named : (k : ℕ) → count_of t k ≡ count_of s k + count_by (uses_data k) bs) where
      held_is : map (option_map (message_of now)) w.held ≡ set old.held h (Some m)
      held_is =
          ap (λ (l : ChainLists). map (option_map (message_of now)) l.held) w_is
          ∙ map-set (option_map (message_of now)) v.held h (Some ns)
          ∙ (λ i. set (held-alike fields now v.held (alike_others ns (map fields_of bs) fields (blocks_held v.held) (λ k. omega (arith, parts k, one_of_all filled.parted k))) i) h (Some (message_is i)))

      shelves_is : map (map (message_of now)) w.shelves ≡ old.shelves
      shelves_is =
          ap (λ (l : ChainLists). map (map (message_of now)) l.shelves) w_is
          ∙ shelves-alike fields now v.shelves (alike_others ns (map fields_of bs) fields (blocks_on v.shelves) (λ k. omega (arith, parts k, one_of_all filled.parted k)))

      abbrev rest : Arena
      rest = record (with_free_left (drop (length bs) v.free) old) { store = t.store }

      arena_is : arena_of id t.store now w ≡ with_held m rest
      arena_is = grind (arith, common_steps, held_is, head_is, shelves_is)

      held_many : length w.held ≡ length v.held
      held_many = ap (λ (l : ChainLists). length l.held) w_is ∙ length-set v.held h (Some ns)

      names_are : (k : ℕ) → references_to (with_held m rest) k ≡ references_to old k + count_by (uses_data k) bs
      names_are k =
          omega (
            arith,
            held_moves (count_adds (uses_data k)) rest (head_of m) (Some m) (omega (arith, head_is, room, length-map v.held (option_map (message_of fields)))),
            ap (λ j. count_by (uses_data k) (blocks_of (held_at old j))) head_is,
            ap (λ o. count_by (uses_data k) (blocks_of o)) unheld,
            (count_adds (uses_data k)).none,
            renumbered_names k ns bs many,
          )

      pub begins_all : IsBegunAll old t now w id h bs
      begins_all = record {
        filled = record {
          kept = kept;
          parted = parted;
          few = omega (arith, filled.few, held_many);
          listed = omega (arith, length-with_fields ns (map fields_of bs) fields, filled.listed, held_many);
          placed = λ k inside.
              placed-fields t.store ns bs fields placed (λ j there. placed-over rooms (filled.placed j there)) k
              (omega (arith, inside, length-with_fields ns (map fields_of bs) fields));
          counts = λ k. named k ∙ omega (arith, filled.counts k, names_are k, ap (λ a. references_to a k) arena_is);
        };
        shows = λ i. (sym head_is i, arena_is i);
        held =
            ap (λ (ms : List (Option Message)). get_or ms h None) held_is
            ∙ get_or-set_same old.held h (Some m) None (omega (arith, room, length-map v.held (option_map (message_of fields))));
        shelved = ap blocks_on shelves_is;
        others = λ k other. ap (λ (ms : List (Option Message)). get_or ms k None) held_is ∙ get_or-set_other old.held h k (Some m) None other;
        absent = unheld;
      }

-- ==== `allocb`: a free message block over a data block just taken is held

-- what the model gives if a block of each kind is free
allocb_done : (a : Arena) (size n : ℕ) {d : ℕ} (ns : List ℕ) → fits_a_class size a.store.classes ≡ true → a.free ≡ n ∷ ns → take_data size a.store ≡ Ok d
    → allocb size a ≡ Ok (n, with_held (new_block n d ∷ []) (record (with_free_left ns a) { store = with_data_taken d a.store }))
allocb_done a size n ns fits is some = grind (arith, common_steps)

-- a size takes a data block only where some class is as large
pub taken_fits : (size : ℕ) {d : ℕ} (s : DataStore) → take_data size s ≡ Ok d → fits_a_class size s.classes ≡ true
taken_fits size s some = grind (arith, common_steps)

-- what is there once a message of one block n over d was allocated
pub record IsAllocated (a : Arena) (t : CountedStore) (fields : List Fields) (w : ChainLists) (id size n d : ℕ) : Type 0 where
  pub begun : IsBegunAll a t fields w id n (new_block n d ∷ [])
  pub done : allocb size a ≡ Ok (n, arena_of id t.store fields w)

module _ {id : ℕ} {s : CountedStore} {fields : List Fields} {v : ChainLists} (filled : IsFilled s fields v (arena_of id s.store fields v)) {n : ℕ} (begun : first v.free ≡ Some n)
    (d : ℕ) (t : CountedStore) (w : ChainLists) (x : Fields) (fresh : IsUnused s d) (kept : IsKept t) (t_is : t ≡ after_take s (Ok d)) (w_is : w ≡ with_begun v n 1) (parted : IsLawful w)
    (x_is : x ≡ record { data_number = d; offset = 0; len = 0; band = 0 }) where
  rooms : HasRooms s.store t.store
  rooms = subst (HasRooms s.store) (sym (ap (λ (c : CountedStore). c.store) t_is)) (rooms-taken s.store d)

  named : (k : ℕ) → count_of t k ≡ count_of s k + count_by (uses_data k) (new_block n d ∷ [])
  named k = grind (arith, common_steps, count_of-set, eqb_tells, count_one)

  placed : All (λ b. IsPlaced t.store (fields_of b)) (new_block n d ∷ [])
  placed zero other within = record { there = omega (arith, fresh.there, rooms.many); within = omega arith; banded = omega arith }
  placed (suc i) other within = absurd (omega (arith, within))

  free_is : v.free ≡ n ∷ drop 1 v.free
  free_is = first_rest v.free begun

  said : with_fields (take 1 v.free) (fields_of (new_block n d) ∷ []) fields ≡ set fields n x
  said = ap (λ ns. with_fields (take 1 ns) (fields_of (new_block n d) ∷ []) fields) free_is ∙ ap (set fields n) (sym x_is)

  begins_new : IsBegunAll (arena_of id s.store fields v) t (set fields n x) w id n (new_block n d ∷ [])
  begins_new =
      subst (λ fs. IsBegunAll (arena_of id s.store fields v) t fs w id n (new_block n d ∷ [])) said
      (begins_all id s fields v filled n begun (new_block n d ∷ []) (omega arith) (omega (arith, ap length free_is)) kept w_is parted rooms placed named)

  pub allocates : (size : ℕ) → fits_a_class size s.store.classes ≡ true → take_data size s.store ≡ Ok d → IsAllocated (arena_of id s.store fields v) t (set fields n x) w id size n d
  allocates size fits some = grind (arith, common_steps, begins_new, allocb_done, free_is)
