-- The arena that message blocks in memory show, and its law.
use Rattle.std.proofs.Common.{◌≡◌, ℕ, List, [], ◌∷◌, ◌++◌, map, Option, Some, None, refl, sym, ap, ◌∙◌, ◌<◌, set, arith, get_or-set_other, ◌+◌, ◌^◌, ◌≤◌, ◌&&◌, ◌==◌, length, get_or, subst, if◌then◌else◌, ◌*◌}
use Rattle.std.specs.Prelude.{option_map, nat_lt}
use Rattle.std.specs.List.{flat_map, All, range_with_len}
use Rattle.std.proofs.Math.ListN.{get_or-map}
use Rattle.std.proofs.lemmas.List.{map-append, ext_get_or, get_or_past, length-map}
use Rattle.std.proofs.lemmas.List.FromFn.{get_or-map-range_with_len, length-map-range_with_len}
use Rattle.std.specs.Option.{IfSome}
use Rattle.std.proofs.lemmas.List.Elements.{All-map}
use Rattle.std.proofs.lemmas.List.Sums.{sum_by-append}
use Rattle.strm_data.specs.DataStore.{DataStore, times, class_of}
use Rattle.strm_links.proofs.lists.Counting.{times-cons, times_here}
use Rattle.strm_data.specs.CountedStore.{CountedStore, IsKept, count_of}
use Rattle.strm_data.proofs.store.Kept.{capacity_range}
use Rattle.strm_data.specs.Limits.{most_data_block_bytes}
use Rattle.strm_mblk.specs.declared.blocks.Fields.{Fields}
use Rattle.strm_mblk.specs.Arena.{blocks_in, held_at, message_at, shelf_at, Arena, IsParted, IsWithin, counted_in, held_blocks, references_to, shelved_blocks}
use Rattle.strm_mblk.specs.Block.{Message, numbers_of, Block, head_of, size_of}
use Rattle.strm_mblk.specs.BlocksLayout.{arena_of, block_at, fields_at, message_of, no_fields, IsFilled, IsSound, arena_in, block_of}
use Rattle.strm_mblk.specs.Messages.{blocks_of, held_in, shelf_in, blocks_on, blocks_held}
use Rattle.strm_links.specs.ChainLists.{ChainLists, nodes_at, head_node}
use Rattle.strm_mblk.specs.declared.blocks.Blocks.TheInside.{Inside}
use Rattle.strm_mblk.specs.Limits.{most_message_blocks}
use Rattle.strm_mblk.proofs.arena.Counts.{IsCounted, makes_arena}
use Rattle.std.proofs.lemmas.Grind.{common_steps}

-- ==== what a contract sees of message blocks that are listed by number

-- ---- by place

pub numbers_of-message : (fields : List Fields) (ns : List ℕ) → numbers_of (message_of fields ns) ≡ ns
numbers_of-message fields [] = refl
numbers_of-message fields (n ∷ ns) = ap (λ xs. n ∷ xs) (numbers_of-message fields ns)

pub blocks_of-mapped : (fields : List Fields) (o : Option (List ℕ)) → blocks_of (option_map (message_of fields) o) ≡ message_of fields (blocks_of o)
blocks_of-mapped fields None = refl
blocks_of-mapped fields (Some ns) = refl

module _ (id : ℕ) (s : DataStore) (fields : List Fields) (v : ChainLists) where
  -- the message held at h
  pub held_at-seen : (h : ℕ) → held_at (arena_of id s fields v) h ≡ option_map (message_of fields) (held_in v.held h)
  held_at-seen h = get_or-map (option_map (message_of fields)) v.held h None

  pub message_at-seen : (h : ℕ) → message_at (arena_of id s fields v) h ≡ message_of fields (nodes_at v h)
  message_at-seen h = ap blocks_of (held_at-seen h) ∙ blocks_of-mapped fields (held_in v.held h)

  -- the messages on a shelf
  pub shelf_at-seen : (q : ℕ) → shelf_at (arena_of id s fields v) q ≡ map (message_of fields) (shelf_in v.shelves q)
  shelf_at-seen q = get_or-map (map (message_of fields)) v.shelves q []

-- ---- all blocks

-- the blocks of messages that were mapped
flat-mapped : (fields : List Fields) (ms : List (List ℕ)) → flat_map (λ (m : Message). m) (map (message_of fields) ms) ≡ message_of fields (flat_map (λ m. m) ms)
flat-mapped fields [] = refl
flat-mapped fields (m ∷ ms) = ap (λ bs. message_of fields m ++ bs) (flat-mapped fields ms) ∙ sym (map-append (block_at fields) m (flat_map (λ x. x) ms))

blocks_on-mapped : (fields : List Fields) (shelves : List (List (List ℕ))) → blocks_on (map (map (message_of fields)) shelves) ≡ message_of fields (blocks_on shelves)
blocks_on-mapped fields [] = refl
blocks_on-mapped fields (ms ∷ shelves) = grind (arith, common_steps, (blocks_on-mapped fields shelves), flat-mapped, map-append)

blocks_held-mapped : (fields : List Fields) (held : List (Option (List ℕ))) → blocks_held (map (option_map (message_of fields)) held) ≡ message_of fields (blocks_held held)
blocks_held-mapped fields [] = refl
blocks_held-mapped fields (o ∷ held) = grind (arith, common_steps, (blocks_held-mapped fields held), blocks_of-mapped, map-append)

-- the numbers of the blocks of all messages
abbrev pub nodes_in : ChainLists → List ℕ
nodes_in v = blocks_on v.shelves ++ blocks_held v.held

module _ (id : ℕ) (s : DataStore) (fields : List Fields) (v : ChainLists) where
  pub shelved-seen : blocks_on (arena_of id s fields v).shelves ≡ message_of fields (blocks_on v.shelves)
  shelved-seen = blocks_on-mapped fields v.shelves

  pub held-seen : blocks_held (arena_of id s fields v).held ≡ message_of fields (blocks_held v.held)
  held-seen = blocks_held-mapped fields v.held

  pub blocks_in-seen : blocks_in (arena_of id s fields v) ≡ message_of fields (nodes_in v)
  blocks_in-seen = grind (arith, common_steps, shelved-seen, held-seen, map-append)

  pub numbers-seen : numbers_of (blocks_in (arena_of id s fields v)) ≡ nodes_in v
  numbers-seen = ap numbers_of blocks_in-seen ∙ numbers_of-message fields (nodes_in v)

-- ---- a message block says something else

-- two tables of message blocks say the same of each number of a list
abbrev pub AreAlike : List Fields → List Fields → List ℕ → Type 0
AreAlike old new [] = Unit {0}
AreAlike old new (n ∷ ns) = (fields_at new n ≡ fields_at old n) × AreAlike old new ns

-- so they do of both parts of a list
pub alike_parts : (old new : List Fields) (xs ys : List ℕ) → AreAlike old new (xs ++ ys) → AreAlike old new xs × AreAlike old new ys
alike_parts old new [] ys alike = (tt, alike)
alike_parts old new (x ∷ xs) ys alike = let parts = alike_parts old new xs ys alike.1 in ((alike.0, parts.0), parts.1)

-- two tables say the same of a list where they do of each number of it
pub alike_each : (old new : List Fields) (ms : List ℕ) → ((k : ℕ) → 0 < times k ms → fields_at new k ≡ fields_at old k) → AreAlike old new ms
alike_each old new [] each = tt
alike_each old new (m ∷ ms) each = grind (arith, common_steps, (alike_each old new ms), times_here, times-cons)

-- a number that isn't in a list may say something else
pub alike_off : (fields : List Fields) (n : ℕ) (x : Fields) (ns : List ℕ) → times n ns ≡ 0 → AreAlike fields (set fields n x) ns
alike_off fields n x ns none =
    alike_each fields (set fields n x) ns (λ k some. get_or-set_other fields n k x no_fields (λ same. absurd (omega (arith, none, some, ap (λ j. times j ns) same))))

module _ (old new : List Fields) where
  pub message-alike : (ns : List ℕ) → AreAlike old new ns → message_of new ns ≡ message_of old ns
  message-alike [] alike = refl
  message-alike (n ∷ ns) alike = grind (arith, common_steps, (message-alike ns alike.1))

  shelf-alike : (ms : List (List ℕ)) → AreAlike old new (flat_map (λ m. m) ms) → map (message_of new) ms ≡ map (message_of old) ms
  shelf-alike [] alike = refl
  shelf-alike (m ∷ ms) alike = let parts = alike_parts old new m (flat_map (λ x. x) ms) alike in λ i. message-alike m parts.0 i ∷ shelf-alike ms parts.1 i

  pub shelves-alike : (shelves : List (List (List ℕ))) → AreAlike old new (blocks_on shelves) → map (map (message_of new)) shelves ≡ map (map (message_of old)) shelves
  shelves-alike [] alike = refl
  shelves-alike (ms ∷ shelves) alike =
      let parts = alike_parts old new (flat_map (λ m. m) ms) (blocks_on shelves) alike in
      λ i. shelf-alike ms parts.0 i ∷ shelves-alike shelves parts.1 i

  pub option-alike : (o : Option (List ℕ)) → AreAlike old new (blocks_of o) → option_map (message_of new) o ≡ option_map (message_of old) o
  option-alike None alike = refl
  option-alike (Some ns) alike = ap Some (message-alike ns alike)

  pub held-alike : (held : List (Option (List ℕ))) → AreAlike old new (blocks_held held) → map (option_map (message_of new)) held ≡ map (option_map (message_of old)) held
  held-alike [] alike = refl
  held-alike (o ∷ held) alike =
      let parts = alike_parts old new (blocks_of o) (blocks_held held) alike in
      λ i. option-alike o parts.0 i ∷ held-alike held parts.1 i

-- ==== what holds of all message blocks, whatever calls made them so

-- a message that begins with h
head-seen : (fields : List Fields) (o : Option (List ℕ)) (h : ℕ) → IfSome o (λ m. (0 < length m) × (head_node m ≡ h))
    → IfSome (option_map (message_of fields) o) (λ m. (0 < length m) × (head_of m ≡ h))
head-seen fields None h is = tt
head-seen fields (Some []) h is = absurd (omega (arith, is.0))
head-seen fields (Some (n ∷ ns)) h is = (omega arith, is.1)

module _ {id : ℕ} {s : CountedStore} {fields : List Fields} {v : ChainLists} (filled : IsFilled s fields v (arena_of id s.store fields v)) where
  -- each number is in one place, each held message is at its head, and counts are references
  pub counted : IsCounted (arena_of id s.store fields v) s
  counted = record {
    numbers = λ n.
        ap (λ ns. times n (v.free ++ ns)) (numbers-seen id s.store fields v) ∙ filled.parted.parts.once n
        ∙ ap (λ l. if nat_lt n l then 1 else 0) (sym (length-map v.held (option_map (message_of fields))));
    heads = λ h. subst (λ o. IfSome o (λ m. (0 < length m) × (head_of m ≡ h))) (sym (held_at-seen id s.store fields v h)) (head-seen fields (held_in v.held h) h (filled.parted.parts.heads h));
    counts = filled.counts;
  }

  -- a data block that something uses is there
  named_there : (d : ℕ) → 0 < count_of s d → d < length s.store.blocks
  named_there d some = grind (arith, common_steps, get_or_past, counted)

  pub law_parted : IsParted (arena_of id s.store fields v)
  law_parted = record {
    chains = record {
      once = counted.numbers;
      heads = counted.heads;
      shelved = λ q.
          subst (All (λ m. 0 < length m)) (sym (shelf_at-seen id s.store fields v q))
          (All-map (λ m. 0 < length m) (message_of fields) (shelf_in v.shelves q) (λ k d within. omega (arith, filled.parted.parts.shelved q k d within, length-map (get_or (shelf_in v.shelves q) k d) (block_at fields))));
    };
    free_data = λ c d. filled.kept.listed c d ∙ ap (λ n. if nat_lt d (length s.store.blocks) && (class_of s.store d == c && n == 0) then 1 else 0) (filled.counts d);
    named = λ d some. named_there d (omega (arith, some, filled.counts d));
    few_references = λ d. omega (arith, filled.counts d, filled.kept.few_references d);
  }

  pub law_whole : length (arena_of id s.store fields v).free + length (shelved_blocks (arena_of id s.store fields v)) + length (held_blocks (arena_of id s.store fields v)) ≡ length (arena_of id s.store fields v).held
  law_whole = makes_arena counted

  -- the blocks on shelves, and those of held messages
  pub all_there : length v.free + length (shelved_blocks (arena_of id s.store fields v)) + length (held_blocks (arena_of id s.store fields v)) ≡ length fields
  all_there = omega (arith, law_whole, length-map v.held (option_map (message_of fields)), filled.listed)

  -- the stored counts are the references
  pub counted_is : counted_in (arena_of id s.store fields v) ≡ s
  counted_is =
      let a = arena_of id s.store fields v in
      let many = length-map-range_with_len (references_to a) 0 (length s.store.blocks) in
      λ i. record {
        store = s.store;
        counts =
            ext_get_or 0 (map (references_to a) (range_with_len 0 (length s.store.blocks))) s.counts (many ∙ sym filled.kept.counted)
            (λ d within. get_or-map-range_with_len (references_to a) 0 (length s.store.blocks) d d 0 (omega (arith, within, many)) (omega arith) ∙ sym (filled.counts d)) i;
      }

  pub law_kept : IsKept (counted_in (arena_of id s.store fields v))
  law_kept = subst IsKept (sym counted_is) filled.kept

  -- what holds of each message block, and of an absent one, holds of each block of a message
  law_all : (P : Block → Type 0) → ((n : ℕ) → P (block_of n no_fields)) → ((n : ℕ) → n < length fields → P (block_at fields n)) → All P (blocks_in (arena_of id s.store fields v))
  law_all P none each = subst (All P) (sym (blocks_in-seen id s.store fields v)) (All-map P (block_at fields) (nodes_in v) (λ k d within. at (get_or (nodes_in v) k d)))
    where
      at : (n : ℕ) → P (block_at fields n)
      at n = grind (arith, common_steps, get_or_past)

  pub law_within : All (IsWithin s.store) (blocks_in (arena_of id s.store fields v))
  law_within = law_all (IsWithin s.store) (λ n. omega arith) (λ n there. (filled.placed n there).within)

  pub law_bands : All (λ b. b.band < 2 ^ 8) (blocks_in (arena_of id s.store fields v))
  law_bands = law_all (λ b. b.band < 2 ^ 8) (λ n. omega arith) (λ n there. (filled.placed n there).banded)

  pub law_few : length (arena_of id s.store fields v).held ≤ most_message_blocks
  law_few = omega (arith, filled.few, length-map v.held (option_map (message_of fields)))

-- a message block has no more bytes than the largest data block has room for
pub len_most : {id : ℕ} {s : CountedStore} {fields : List Fields} {v : ChainLists} → IsFilled s fields v (arena_of id s.store fields v) → (n : ℕ) → (fields_at fields n).len ≤ most_data_block_bytes
len_most filled n = grind (arith, common_steps, capacity_range, get_or_past)

-- so a message has no more than that for each of its blocks
pub size_most : (fields : List Fields) (ns : List ℕ) → ((n : ℕ) → (fields_at fields n).len ≤ most_data_block_bytes) → size_of (message_of fields ns) ≤ length ns * most_data_block_bytes
size_most fields [] few = omega arith
size_most fields (n ∷ ns) few = omega (arith, sum_by-append (λ (c : Block). c.len) (block_at fields n ∷ []) (message_of fields ns), few n, size_most fields ns few)

-- message blocks as they lie in memory are parted
pub parted_inside : {i : Inside} → IsSound i → {a : Arena} → arena_in i ≡ a → IsParted a
parted_inside whole is = subst IsParted is (law_parted whole.filled)

-- they still are, where no block comes on a shelf or leaves one
pub still_whole : {i : Inside} (j : Inside) {a : Arena} → IsSound i → arena_in i ≡ a → j.queued ≡ i.queued → IsFilled j.data j.chains.loads j.chains.lists (arena_in j) → shelved_blocks (arena_in j) ≡ shelved_blocks a → IsSound j
still_whole j whole is queued filled shelved = record { filled = filled; queued = queued ∙ whole.queued ∙ ap (λ x. length (shelved_blocks x)) is ∙ ap length (sym shelved) }

-- message blocks store what they stored
pub reloaded : {id : ℕ} {s : CountedStore} {v : ChainLists} {old new : List Fields} → new ≡ old → IsFilled s old v (arena_of id s.store old v) → IsFilled s new v (arena_of id s.store new v)
reloaded {id} {s} {v} same filled = subst (λ fields. IsFilled s fields v (arena_of id s.store fields v)) (sym same) filled

pub reviewed : {id : ℕ} (s : DataStore) (v : ChainLists) {old new : List Fields} {a : Arena} → new ≡ old → arena_of id s old v ≡ a → arena_of id s new v ≡ a
reviewed {id} s v same is = ap (λ fields. arena_of id s fields v) same ∙ is
