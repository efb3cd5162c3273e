-- Messages on shelves, as a contract sees them, where they are put there and where they leave.
use Rattle.std.proofs.Common.{◌≡◌, ℕ, zero, suc, ◌+◌, ◌<◌, ◌≤◌, Bool, true, false, not, ◌==◌, List, [], ◌∷◌, ◌++◌, map, length, get_or, set, Option, Some, None, refl, sym, ap, ◌∙◌, subst, inl, inr, arith, if◌then◌else◌, length-set, get_or-set_same, ◌*◌, length-append}
use Rattle.std.proofs.lemmas.Option.{slice_get-map}
use Rattle.std.specs.Prelude.{count_by, filter, is_some, option_map, slice_get}
use Rattle.std.proofs.lemmas.List.Elements.{filter-append}
use Rattle.std.proofs.lemmas.List.Quantifiers.{position-Some}
use Rattle.std.specs.List.{All, flat_map}
use Rattle.std.proofs.lemmas.Bool.{cases_eq, cond-true, cond-false, eq-eqb, ne_eqb, false≢true}
use Rattle.std.proofs.lemmas.List.{length-map, map-append, map-set}
use Rattle.strm_links.specs.Rows.{has}
use Rattle.strm_links.proofs.lists.Positions.{position_same}
use Rattle.strm_links.proofs.lists.OneList.{has_cases, has_head, has_tail}
use Rattle.strm_data.specs.CountedStore.{CountedStore}
use Rattle.strm_data.specs.DataStore.{DataStore}
use Rattle.strm_mblk.specs.declared.blocks.Fields.{Fields}
use Rattle.strm_mblk.specs.Arena.{Arena, held_at, message_at, shelf_at, shelved_blocks}
use Rattle.strm_mblk.specs.Block.{Block, Message, head_of, size_of}
use Rattle.strm_mblk.specs.BlocksLayout.{IsFilled, IsPlaced, arena_of, block_at, fields_at, message_of}
use Rattle.strm_mblk.specs.Messages.{blocks_of, put_before_head, shelf_in, with_head, without_head, blocks_on}
use Rattle.strm_links.specs.ChainLists.{IsLawful, ChainLists, head_node, heads_on, nodes_at, shelf_with, shelved_nodes}
use Rattle.strm_mblk.specs.Shelves.{head_block, heads_at, shelf_of, shelve, shelved_message, unshelve}
use Rattle.strm_mblk.proofs.Lists.{IsAdditive, count_adds, flat_map-set_adds, length_adds}
use Rattle.strm_mblk.proofs.arena.Counts.{blocks_in_adds, head_counts, held_within, not_held, number_is, once, within}
use Rattle.strm_mblk.proofs.joining.Linkb.{moved_filled}
use Rattle.strm_mblk.proofs.layout.StoredArena.{all_there, counted, law_parted, message_at-seen, shelf_at-seen, len_most, size_most, shelved-seen}
use Rattle.strm_mblk.specs.Limits.{most_message_blocks}
use Rattle.std.proofs.lemmas.Grind.{common_steps}
use Rattle.strm_data.specs.Limits.{most_data_block_bytes}

-- ---- what a contract sees

-- a message begins with the first of its numbers
pub head-seen : (fields : List Fields) (ns : List ℕ) → head_of (message_of fields ns) ≡ head_node ns
head-seen fields [] = refl
head-seen fields (n ∷ ns) = refl

-- a choice that is mapped
map-if : {X Y : Type 0} (f : X → Y) (b : Bool) (xs ys : List X) → map f (if b then xs else ys) ≡ (if b then map f xs else map f ys)
map-if f true xs ys = refl
map-if f false xs ys = refl

module _ (fields : List Fields) where
  -- so do all of a shelf
  pub heads-seen : (ms : List (List ℕ)) → map head_of (map (message_of fields) ms) ≡ map head_node ms
  heads-seen [] = refl
  heads-seen (m ∷ ms) = λ i. head-seen fields m i ∷ heads-seen ms i

  -- a message put before another, or last
  pub put_before_head-seen : (before : Option ℕ) (m : List ℕ) (ms : List (List ℕ))
      → map (message_of fields) (put_before_head head_node before m ms) ≡ put_before_head head_of before (message_of fields m) (map (message_of fields) ms)
  put_before_head-seen None m ms = map-append (message_of fields) ms (m ∷ [])
  put_before_head-seen (Some at) m [] = refl
  put_before_head-seen (Some at) m (x ∷ xs) = grind (arith, common_steps, (put_before_head-seen (Some at) m xs), map-if, head-seen)

  -- messages picked by their heads
  picked-seen : (p : ℕ → Bool) (ms : List (List ℕ)) → map (message_of fields) (filter (λ m. p (head_node m)) ms) ≡ filter (λ m. p (head_of m)) (map (message_of fields) ms)
  picked-seen p [] = refl
  picked-seen p (x ∷ xs) = grind (arith, common_steps, (picked-seen p xs), map-if, head-seen)

  -- a shelf that a message has left
  pub without-seen : (h : ℕ) (ms : List (List ℕ)) → map (message_of fields) (without_head head_node h ms) ≡ without_head head_of h (map (message_of fields) ms)
  without-seen h ms = picked-seen (λ k. not (k == h)) ms

  -- and that message
  pub with-seen : (h : ℕ) (ms : List (List ℕ)) → option_map (message_of fields) (with_head head_node h ms) ≡ with_head head_of h (map (message_of fields) ms)
  with-seen h ms = sym (slice_get-map (message_of fields) (filter (λ m. head_node m == h) ms) 0) ∙ ap (λ l. slice_get l 0) (picked-seen (λ k. k == h) ms)

-- the heads on a shelf
pub heads_at-seen : (id : ℕ) (s : DataStore) (fields : List Fields) (v : ChainLists) (q : ℕ) → heads_at (arena_of id s fields v) q ≡ heads_on v q
heads_at-seen id s fields v q = ap (map head_of) (shelf_at-seen id s fields v q) ∙ heads-seen fields (shelf_in v.shelves q)

-- whether some shelf has a head
pub shelf_of-seen : (id : ℕ) (s : DataStore) (fields : List Fields) (v : ChainLists) (h : ℕ) → shelf_of (arena_of id s fields v) h ≡ shelf_with v h
shelf_of-seen id s fields v h =
    position_same (λ ms. has h (map head_of ms)) (λ ns. has h (map head_node ns)) (map (message_of fields)) [] v.shelves (λ k within. ap (has h) (heads-seen fields (get_or v.shelves k [])))

-- ---- the blocks of a shelf's messages

-- what a choice measures, where both ways measure as much
either_way : {X : Type 0} (n : X → ℕ) (b : Bool) {x y : X} {k : ℕ} → n x ≡ k → n y ≡ k → n (if b then x else y) ≡ k
either_way n true here there = here
either_way n false here there = there

-- a message put among others adds its own
placed_adds : {X : Type 0} {n : List X → ℕ} → IsAdditive n → (head : List X → ℕ) (before : Option ℕ) (m : List X) (ms : List (List X))
    → n (flat_map (λ x. x) (put_before_head head before m ms)) ≡ n (flat_map (λ x. x) ms) + n m
placed_adds {n = n} adds head None m [] = omega (arith, adds.both m [], adds.none)
placed_adds {n = n} adds head None m (x ∷ xs) =
    omega (arith, adds.both x (flat_map (λ y. y) (xs ++ m ∷ [])), adds.both x (flat_map (λ y. y) xs), placed_adds adds head None m xs)
placed_adds {n = n} adds head (Some at) m [] = omega (arith, adds.both m [], adds.none)
placed_adds {n = n} adds head (Some at) m (x ∷ xs) =
    either_way (λ ys. n (flat_map (λ y. y) ys)) (head x == at) (omega (arith, adds.both m (x ++ flat_map (λ y. y) xs)))
    (omega (arith, adds.both x (flat_map (λ y. y) (put_before_head head (Some at) m xs)), adds.both x (flat_map (λ y. y) xs), placed_adds adds head (Some at) m xs))

-- those with a head and those without it are all
pub parted_adds : {n : List Block → ℕ} → IsAdditive n → (h : ℕ) (ms : List Message)
    → n (flat_map (λ x. x) (without_head head_of h ms)) + n (flat_map (λ x. x) (filter (λ m. head_of m == h) ms)) ≡ n (flat_map (λ x. x) ms)
parted_adds adds h [] = omega (arith, adds.none)
parted_adds {n = n} adds h (x ∷ xs) = of_choice (head_of x == h) (parted_adds adds h xs)
  where
    of_choice : (b : Bool) → n (flat_map (λ y. y) (without_head head_of h xs)) + n (flat_map (λ y. y) (filter (λ m. head_of m == h) xs)) ≡ n (flat_map (λ y. y) xs)
        → n (flat_map (λ y. y) (if not b then x ∷ without_head head_of h xs else without_head head_of h xs)) + n (flat_map (λ y. y) (if b then x ∷ filter (λ m. head_of m == h) xs else filter (λ m. head_of m == h) xs)) ≡ n (x ++ flat_map (λ y. y) xs)
    of_choice true rest = omega (arith, rest, adds.both x (flat_map (λ y. y) xs), adds.both x (flat_map (λ y. y) (filter (λ m. head_of m == h) xs)))
    of_choice false rest = omega (arith, rest, adds.both x (flat_map (λ y. y) xs), adds.both x (flat_map (λ y. y) (without_head head_of h xs)))

-- where no block has a number, no message begins with it
pub none_begins : (h : ℕ) (ms : List Message) → All (λ m. 0 < length m) ms → count_by (number_is h) (flat_map (λ x. x) ms) ≡ 0 → filter (λ m. head_of m == h) ms ≡ []
none_begins h [] some none = refl
none_begins h (x ∷ xs) some none =
    elim (cases_eq (head_of x) h) [
      | inl same ↦ absurd (omega (arith, none, (count_adds (number_is h)).both x (flat_map (λ y. y) xs), head_counts x h (some 0 [] (omega arith)) same))
      | inr other ↦
          cond-false _ _ _ (ne_eqb (head_of x) h other)
          ∙ none_begins h xs (λ k d within. some (suc k) d (omega (arith, within))) (omega (arith, none, (count_adds (number_is h)).both x (flat_map (λ y. y) xs)))
    ]

-- the message of a shelf that begins with a number
pub record IsOnShelf (ms : List Message) (h : ℕ) (m : Message) : Type 0 where
  pub alone : filter (λ x. head_of x == h) ms ≡ m ∷ []
  pub begins : head_of m ≡ h
  pub some : 0 < length m

pub on_shelf : (h : ℕ) (ms : List Message) → All (λ m. 0 < length m) ms → has h (map head_of ms) ≡ true → count_by (number_is h) (flat_map (λ x. x) ms) ≤ 1 → (m : Message) × IsOnShelf ms h m
on_shelf h [] some there once = absurd (false≢true there)
on_shelf h (x ∷ xs) some there once =
    let rest_some : All (λ m. 0 < length m) xs = λ k d within. some (suc k) d (omega (arith, within)) in
    elim (cases_eq (head_of x) h) [
      | inl same ↦ (
        x,
        record {
          alone =
              cond-true _ _ _ (eq-eqb (head_of x) h same)
              ∙ ap (λ ys. x ∷ ys) (none_begins h xs rest_some (omega (arith, once, (count_adds (number_is h)).both x (flat_map (λ y. y) xs), head_counts x h (some 0 [] (omega arith)) same)));
          begins = same;
          some = some 0 [] (omega arith);
        },
      )
      | inr other ↦
          let later : has h (map head_of xs) ≡ true = elim (has_cases (head_of x) h (map head_of xs) there) [ inl here ↦ absurd (other here) | inr rest ↦ rest ] in
          let found = on_shelf h xs rest_some later (omega (arith, once, (count_adds (number_is h)).both x (flat_map (λ y. y) xs))) in (
            found.0,
            record {
              alone = cond-false _ _ _ (ne_eqb (head_of x) h other) ∙ found.1.alone;
              begins = found.1.begins;
              some = found.1.some;
            },
          )
    ]

-- ---- a held message goes on a shelf

module _ {id : ℕ} {s : CountedStore} {fields : List Fields} {v : ChainLists} (filled : IsFilled s fields v (arena_of id s.store fields v)) (h : ℕ) {m : Message} (held : held_at (arena_of id s.store fields v) h ≡ Some m) where
  abbrev old : Arena
  old = arena_of id s.store fields v

  -- no more blocks are in messages than there are
  pub shelving_room : length (shelved_blocks old) + length (nodes_at v h) ≤ most_message_blocks
  shelving_room =
      omega (
        arith,
        all_there filled,
        filled.listed,
        filled.few,
        flat_map-set_adds length_adds blocks_of old.held h None None (held_within old h m held),
        ap length (message_at-seen id s.store fields v h),
        length-map (nodes_at v h) (block_at fields),
      )

  module _ (q : ℕ) (before : Option ℕ) {w : ChainLists} (inside : q < length old.shelves)
      (w_is : w ≡ record v { held = set v.held h None; shelves = set v.shelves q (put_before_head head_node before (nodes_at v h) (shelf_in v.shelves q)) }) (parted : IsLawful w) where
    pub shelve_shows : arena_of id s.store fields w ≡ shelve q before h old
    shelve_shows =
        let held_is = map-set (option_map (message_of fields)) v.held h None in
        let shelf_is : map (message_of fields) (put_before_head head_node before (nodes_at v h) (shelf_in v.shelves q)) ≡ put_before_head head_of before (message_at old h) (shelf_at old q) =
        put_before_head-seen fields before (nodes_at v h) (shelf_in v.shelves q)
        ∙ (λ i. put_before_head head_of before (sym (message_at-seen id s.store fields v h) i) (sym (shelf_at-seen id s.store fields v q) i)) in
        let shelves_are = map-set (map (message_of fields)) v.shelves q (put_before_head head_node before (nodes_at v h) (shelf_in v.shelves q)) ∙ ap (set old.shelves q) shelf_is in
        ap (arena_of id s.store fields) w_is ∙ (λ i. record { id = id; store = s.store; free = v.free; held = held_is i; shelves = shelves_are i; least = v.least })

    pub shelve_filled : IsFilled s fields w (arena_of id s.store fields w)
    shelve_filled =
        moved_filled filled (ap (λ (l : ChainLists). l.free) w_is) (ap (λ (l : ChainLists). length l.held) w_is ∙ length-set v.held h None) parted

    pub shelve_queued : length (shelved_blocks (arena_of id s.store fields w)) ≡ length (shelved_blocks old) + length (nodes_at v h)
    shelve_queued =
        omega (
          arith,
          ap (λ a. length (shelved_blocks a)) shelve_shows,
          flat_map-set_adds length_adds (flat_map (λ x. x)) old.shelves q (put_before_head head_of before (message_at old h) (shelf_at old q)) [] inside,
          placed_adds length_adds head_of before (message_at old h) (shelf_at old q),
          ap length (message_at-seen id s.store fields v h),
          length-map (nodes_at v h) (block_at fields),
        )

-- ---- a message leaves a shelf

-- a is what was there, and the other lists what is there once the message with head h has left shelf q
pub record IsUnshelved (a : Arena) (s : CountedStore) (fields : List Fields) (w : ChainLists) (id q h : ℕ) : Type 0 where
  pub message : Message
  pub filled : IsFilled s fields w (arena_of id s.store fields w)
  pub held : held_at (arena_of id s.store fields w) h ≡ Some message
  pub many : length (nodes_at w h) ≡ length message
  pub queued : length (shelved_blocks (arena_of id s.store fields w)) + length (nodes_at w h) ≡ length (shelved_blocks a)
  pub unheld : held_at a h ≡ None
  pub after : arena_of id s.store fields w ≡ unshelve q h a

module _ {id : ℕ} {s : CountedStore} {fields : List Fields} {v : ChainLists} (filled : IsFilled s fields v (arena_of id s.store fields v)) (q h : ℕ)
    (inside : q < length (arena_of id s.store fields v).shelves) (there : has h (heads_at (arena_of id s.store fields v) q) ≡ true) where
  abbrev was : Arena
  was = arena_of id s.store fields v

  -- the blocks on one shelf are among those on all shelves
  on_one : (p : Block → Bool) → count_by p (flat_map (λ x. x) (shelf_at was q)) ≤ count_by p (shelved_blocks was)
  on_one p = omega (arith, flat_map-set_adds (count_adds p) (flat_map (λ x. x)) was.shelves q [] [] inside, (count_adds p).none)

  -- the message
  found : (m : Message) × IsOnShelf (shelf_at was q) h m
  found =
      on_shelf h (shelf_at was q) ((law_parted filled).chains.shelved q) there
      (omega (arith, on_one (number_is h), once (counted filled) h, blocks_in_adds (count_adds (number_is h)) was))

  -- its blocks are on the shelf
  leaves : {n : List Block → ℕ} → IsAdditive n → n (flat_map (λ x. x) (without_head head_of h (shelf_at was q))) + n found.0 ≡ n (flat_map (λ x. x) (shelf_at was q))
  leaves {n = n} adds =
      omega (arith, parted_adds adds h (shelf_at was q), ap (λ ms. n (flat_map (λ x. x) ms)) found.1.alone, adds.both found.0 [], adds.none)

  shelved_there : 0 < count_by (number_is h) (shelved_blocks was)
  shelved_there = omega (arith, head_counts found.0 h found.1.some found.1.begins, leaves (count_adds (number_is h)), on_one (number_is h))

  shelved_unheld : held_at was h ≡ None
  shelved_unheld = not_held (counted filled) h (omega (arith, shelved_there))

  shelved_within : h < length was.held
  shelved_within = within (counted filled) h (omega (arith, shelved_there, blocks_in_adds (count_adds (number_is h)) was))

  found_is : with_head head_of h (shelf_at was q) ≡ Some found.0
  found_is = ap (λ ms. slice_get ms 0) found.1.alone

  module _ {w : ChainLists}
      (w_is : w ≡ record v { held = set v.held h (with_head head_node h (shelf_in v.shelves q)); shelves = set v.shelves q (without_head head_node h (shelf_in v.shelves q)) }) (parted : IsLawful w) where
    abbrev now : Arena
    now = arena_of id s.store fields w

    unshelve_shows : now ≡ unshelve q h was
    unshelve_shows =
        let seen = sym (shelf_at-seen id s.store fields v q) in
        let held_is =
        map-set (option_map (message_of fields)) v.held h (with_head head_node h (shelf_in v.shelves q))
        ∙ ap (set was.held h) (with-seen fields h (shelf_in v.shelves q) ∙ ap (with_head head_of h) seen) in
        let shelves_are =
        map-set (map (message_of fields)) v.shelves q (without_head head_node h (shelf_in v.shelves q))
        ∙ ap (set was.shelves q) (without-seen fields h (shelf_in v.shelves q) ∙ ap (without_head head_of h) seen) in
        ap (arena_of id s.store fields) w_is ∙ (λ i. record { id = id; store = s.store; free = v.free; held = held_is i; shelves = shelves_are i; least = v.least })

    unshelve_held : held_at now h ≡ Some found.0
    unshelve_held = ap (λ a. held_at a h) unshelve_shows ∙ get_or-set_same was.held h (with_head head_of h (shelf_at was q)) None shelved_within ∙ found_is

    unshelve_len : length (nodes_at w h) ≡ length found.0
    unshelve_len = sym (length-map (nodes_at w h) (block_at fields)) ∙ ap length (sym (message_at-seen id s.store fields w h)) ∙ ap (λ o. length (blocks_of o)) unshelve_held

    unshelve_queued : length (shelved_blocks now) + length (nodes_at w h) ≡ length (shelved_blocks was)
    unshelve_queued =
        omega (
          arith,
          ap (λ a. length (shelved_blocks a)) unshelve_shows,
          flat_map-set_adds length_adds (flat_map (λ x. x)) was.shelves q (without_head head_of h (shelf_at was q)) [] inside,
          leaves length_adds,
          unshelve_len,
        )

    pub unshelves : IsUnshelved was s fields w id q h
    unshelves = record {
      message = found.0;
      filled = moved_filled filled (ap (λ (l : ChainLists). l.free) w_is) (ap (λ (l : ChainLists). length l.held) w_is ∙ length-set v.held h _) parted;
      held = unshelve_held;
      many = unshelve_len;
      queued = unshelve_queued;
      unheld = shelved_unheld;
      after = unshelve_shows;
    }

-- ---- a message on some shelf

-- the message of a row that is found by its head
record IsInRow (ms : List (List ℕ)) (h : ℕ) : Type 0 where
  nodes : List ℕ
  place : ℕ
  others : List (List ℕ)
  picked : filter (λ m. head_node m == h) ms ≡ nodes ∷ others
  at : get_or ms place [] ≡ nodes
  begins : slice_get nodes 0 ≡ Some h

-- a list that isn't empty begins with its head
begins_with_head : (ns : List ℕ) {h : ℕ} → 0 < length ns → head_node ns ≡ h → slice_get ns 0 ≡ Some h
begins_with_head [] some is = absurd (omega arith)
begins_with_head (n ∷ ns) some is = ap Some is

in_row : (h : ℕ) (ms : List (List ℕ)) → All (λ m. 0 < length m) ms → has h (map head_node ms) ≡ true → IsInRow ms h
in_row h [] some there = absurd (false≢true there)
in_row h (x ∷ xs) some there =
    elim (cases_eq (head_node x) h) [
      | inl same ↦
          record {
            nodes = x;
            place = 0;
            others = filter (λ m. head_node m == h) xs;
            picked = cond-true _ _ _ (eq-eqb (head_node x) h same);
            at = refl;
            begins = begins_with_head x (some 0 [] (omega arith)) same;
          }
      | inr other ↦
          let later : has h (map head_node xs) ≡ true = elim (has_cases (head_node x) h (map head_node xs) there) [ inl here ↦ absurd (other here) | inr rest ↦ rest ] in
          let found = in_row h xs (λ k d within. some (suc k) d (omega (arith, within))) later in
          record {
            nodes = found.nodes;
            place = suc found.place;
            others = found.others;
            picked = cond-false _ _ _ (ne_eqb (head_node x) h other) ∙ found.picked;
            at = found.at;
            begins = found.begins;
          }
    ]

-- a row without the head
not_in_row : (h : ℕ) (ms : List (List ℕ)) → has h (map head_node ms) ≡ false → filter (λ m. head_node m == h) ms ≡ []
not_in_row h [] none = refl
not_in_row h (x ∷ xs) none =
    elim (cases_eq (head_node x) h) [
      | inl same ↦ absurd (false≢true (sym none ∙ has_head (head_node x) h (map head_node xs) same))
      | inr other ↦ cond-false _ _ _ (ne_eqb (head_node x) h other) ∙ not_in_row h xs (of_rest (has h (map head_node xs)) refl)
    ]
  where
    of_rest : (b : Bool) → has h (map head_node xs) ≡ b → b ≡ false
    of_rest true is = absurd (false≢true (sym none ∙ has_tail (head_node x) h (map head_node xs) is))
    of_rest false is = refl

-- the message on some shelf that is found by its head
record IsOnSome (shelves : List (List (List ℕ))) (h : ℕ) : Type 0 where
  nodes : List ℕ
  shelf : ℕ
  place : ℕ
  first : with_head head_node h (flat_map (λ ms. ms) shelves) ≡ Some nodes
  at : get_or (shelf_in shelves shelf) place [] ≡ nodes
  begins : slice_get nodes 0 ≡ Some h

-- one that is found past the first shelf, where that has none
on_rest : {h : ℕ} (ms : List (List ℕ)) {shelves : List (List (List ℕ))} → has h (map head_node ms) ≡ false → IsOnSome shelves h → IsOnSome (ms ∷ shelves) h
on_rest {h} ms {shelves} none found = record {
  nodes = found.nodes;
  shelf = suc found.shelf;
  place = found.place;
  first =
      ap (λ xs. slice_get xs 0) (filter-append (λ m. head_node m == h) ms (flat_map (λ x. x) shelves) ∙ ap (λ xs. xs ++ filter (λ m. head_node m == h) (flat_map (λ x. x) shelves)) (not_in_row h ms none))
      ∙ found.first;
  at = found.at;
  begins = found.begins;
}

-- the message on some shelf that has this head
on_some : (h : ℕ) (shelves : List (List (List ℕ))) (q : ℕ) → ((s : ℕ) → All (λ m. 0 < length m) (shelf_in shelves s)) → has h (map head_node (shelf_in shelves q)) ≡ true → IsOnSome shelves h
on_some h [] q some there = absurd (false≢true there)
on_some h (ms ∷ shelves) q some there = elim (has h (map head_node ms)) as (λ b. has h (map head_node ms) ≡ b → IsOnSome (ms ∷ shelves) h) [
  | true ↦ λ here.
      let found = in_row h ms (some 0) here in
      record {
        nodes = found.nodes;
        shelf = 0;
        place = found.place;
        first = ap (λ xs. slice_get xs 0) (filter-append (λ m. head_node m == h) ms (flat_map (λ x. x) shelves) ∙ ap (λ xs. xs ++ filter (λ m. head_node m == h) (flat_map (λ x. x) shelves)) found.picked);
        at = found.at;
        begins = found.begins;
      }
  | false ↦ λ none.
      elim q as (λ p. has h (map head_node (shelf_in (ms ∷ shelves) p)) ≡ true → IsOnSome (ms ∷ shelves) h) [
        | zero ↦ λ here. absurd (false≢true (sym none ∙ here))
        | suc p ↦ λ later. on_rest ms none (on_some h shelves p (λ s. some (suc s)) later)
      ] there
] refl

-- the messages of all shelves
rows-seen : (fields : List Fields) (shelves : List (List (List ℕ))) → flat_map (λ (ms : List Message). ms) (map (map (message_of fields)) shelves) ≡ map (message_of fields) (flat_map (λ ms. ms) shelves)
rows-seen fields [] = refl
rows-seen fields (ms ∷ shelves) = ap (λ xs. map (message_of fields) ms ++ xs) (rows-seen fields shelves) ∙ sym (map-append (message_of fields) ms (flat_map (λ x. x) shelves))

-- the blocks of the message with head h on some shelf of a
pub record IsHead (s : CountedStore) (fields : List Fields) (v : ChainLists) (a : Arena) (h : ℕ) : Type 0 where
  pub nodes : List ℕ
  pub shelf : ℕ
  pub place : ℕ
  pub at : shelved_nodes v shelf place ≡ nodes
  pub begins : slice_get nodes 0 ≡ Some h
  pub message : shelved_message a h ≡ message_of fields nodes
  pub block : head_block a h ≡ Some (block_at fields h)
  pub there : h < length fields
  pub placed : IsPlaced s.store (fields_at fields h)

-- what is there
some_is : (o : Option ℕ) → is_some o ≡ true → (x : ℕ) × (o ≡ Some x)
some_is None some = absurd (false≢true some)
some_is (Some x) some = (x, refl)

module _ {id : ℕ} {s : CountedStore} {fields : List Fields} {v : ChainLists} (filled : IsFilled s fields v (arena_of id s.store fields v)) where
  heads_there : (h : ℕ) → is_some (shelf_of (arena_of id s.store fields v) h) ≡ true → IsHead s fields v (arena_of id s.store fields v) h
  heads_there h some =
      let a = arena_of id s.store fields v in
      let shelf = some_is (shelf_of a h) some in
      let on = position-Some (λ ms. has h (map head_of ms)) a.shelves shelf.0 [] shelf.1 in
      let is = on_some h v.shelves shelf.0 filled.parted.parts.shelved (ap (has h) (sym (heads_at-seen id s.store fields v shelf.0)) ∙ on.1) in
      let message : shelved_message a h ≡ message_of fields is.nodes =
      ap (λ ms. blocks_of (with_head head_of h ms)) (rows-seen fields v.shelves)
      ∙ ap blocks_of (sym (with-seen fields h (flat_map (λ ms. ms) v.shelves)) ∙ ap (option_map (message_of fields)) is.first) in
      let there : h < length fields = omega (arith, shelved_within filled shelf.0 h on.0 on.1, length-map v.held (option_map (message_of fields)), filled.listed) in
      record {
        nodes = is.nodes;
        shelf = is.shelf;
        place = is.place;
        at = is.at;
        begins = is.begins;
        message = message;
        block = ap (λ m. slice_get m 0) message ∙ slice_get-map (block_at fields) is.nodes 0 ∙ ap (option_map (block_at fields)) is.begins;
        there = there;
        placed = filled.placed h there;
      }

  pub is_head : {a : Arena} → arena_of id s.store fields v ≡ a → (h : ℕ) → is_some (shelf_of a h) ≡ true → IsHead s fields v a h
  is_head is h some = subst (λ b. IsHead s fields v b h) is (heads_there h (ap (λ b. is_some (shelf_of b h)) is ∙ some))

-- a message of a shelf is among all of it
among_row : (ms : List (List ℕ)) (k : ℕ) → length (get_or ms k []) ≤ length (flat_map (λ m. m) ms)
among_row [] k = omega arith
among_row (x ∷ xs) zero = omega (arith, length-append x (flat_map (λ m. m) xs))
among_row (x ∷ xs) (suc k) = omega (arith, length-append x (flat_map (λ m. m) xs), among_row xs k)

-- and among all shelves
among_rows : (shelves : List (List (List ℕ))) (q k : ℕ) → length (get_or (shelf_in shelves q) k []) ≤ length (blocks_on shelves)
among_rows [] q k = omega arith
among_rows (ms ∷ shelves) zero k = omega (arith, among_row ms k, length-append (flat_map (λ m. m) ms) (blocks_on shelves))
among_rows (ms ∷ shelves) (suc q) k = omega (arith, among_rows shelves q k, length-append (flat_map (λ m. m) ms) (blocks_on shelves))

module _ {id : ℕ} {s : CountedStore} {fields : List Fields} {v : ChainLists} (filled : IsFilled s fields v (arena_of id s.store fields v)) {a : Arena} (is : arena_of id s.store fields v ≡ a) (h : ℕ) (some : is_some (shelf_of a h) ≡ true) where
  head : IsHead s fields v a h
  head = is_head filled is h some

  -- no message on a shelf has more blocks than all
  few_blocks : length (shelved_message a h) ≤ length (shelved_blocks a)
  few_blocks =
      omega (
        arith,
        ap length head.message,
        length-map head.nodes (block_at fields),
        ap length head.at,
        among_rows v.shelves head.shelf head.place,
        ap length (shelved-seen id s.store fields v),
        length-map (blocks_on v.shelves) (block_at fields),
        ap (λ x. length (shelved_blocks x)) is,
      )

  -- the most bytes that it has
  pub small : size_of (shelved_message a h) ≤ most_message_blocks * most_data_block_bytes
  small = omega (
    arith,
    few_blocks,
    ap length head.message,
    length-map head.nodes (block_at fields),
    ap size_of head.message,
    size_most fields head.nodes (len_most filled),
    ap (λ x. length (shelved_blocks x)) is,
    all_there filled,
    filled.few,
    filled.listed,
  )
