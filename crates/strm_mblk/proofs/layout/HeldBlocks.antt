-- Blocks of a held message: where they are in memory, and one rewritten.
use Rattle.std.proofs.Common.{get_or, ◌≡◌, ℕ, zero, suc, ◌+◌, ◌<◌, ◌≤◌, List, [], ◌∷◌, map, length, set, Option, Some, None, refl, sym, ap, ◌∙◌, arith, get_or-set_same, get_or-set_other, length-set, true, subst}
use Rattle.std.specs.Prelude.{count_by, option_map, slice_get, take, unwrap_or}
use Rattle.std.proofs.lemmas.Option.{same_Some, none-some, slice_get-get_or, slice_get-map, unwrap_or-slice_get}
use Rattle.std.specs.Option.{IsSome, is_some}
use Rattle.std.proofs.lemmas.List.{get_or_past, length-map}
use Rattle.std.proofs.Math.Seq.{take-length}
use Rattle.strm_data.specs.CountedStore.{CountedStore, IsKept, count_of}
use Rattle.strm_data.specs.DataStore.{DataStore, times}
use Rattle.strm_links.proofs.lists.Counting.{times_here, times_other}
use Rattle.strm_mblk.specs.declared.blocks.Fields.{Fields}
use Rattle.strm_mblk.specs.Arena.{held_at, Arena, has, message_at, references_to, token_of}
use Rattle.strm_mblk.specs.Block.{Message, uses_data, Block}
use Rattle.strm_mblk.specs.BlocksLayout.{IsFilled, IsPlaced, arena_of, block_at, fields_at, message_of, data_used_by, no_fields, IsReached}
use Rattle.strm_mblk.specs.Messages.{blocks_held, blocks_on, held_in, blocks_of}
use Rattle.strm_links.specs.ChainLists.{ChainLists, nodes_at}
use Rattle.strm_mblk.specs.declared.token.TokenValue.{TokenValue}
use Rattle.strm_mblk.proofs.layout.StoredArena.{AreAlike, alike_each, alike_off, alike_parts, blocks_in-seen, held-alike, held_at-seen, message-alike, nodes_in, option-alike, shelves-alike, message_at-seen}
use Rattle.strm_mblk.proofs.Freeing.{naming-named}
use Rattle.strm_mblk.proofs.Lists.{in_range, times_at, at_first}
use Rattle.strm_mblk.proofs.layout.Rooms.{HasRooms, placed-set}
use Rattle.strm_mblk.proofs.Nodes.{all_parts, begins_with, held_parts, one_of_all}
use Rattle.strm_mblk.proofs.arena.Counts.{had_message, held_is, token_had}
use Rattle.std.proofs.lemmas.Grind.{common_steps}

-- ==== blocks of a held message say something else

-- the blocks of one held message alone say something else
held-one : (old new : List Fields) (held : List (Option (List ℕ))) (h : ℕ) {ns : List ℕ} → held_in held h ≡ Some ns → AreAlike old new (blocks_held (set held h None))
    → map (option_map (message_of new)) held ≡ set (map (option_map (message_of old)) held) h (Some (message_of new ns))
held-one old new [] h {ns} is alike = absurd (none-some ns is)
held-one old new (o ∷ held) zero is alike =
    λ i. (ap (option_map (message_of new)) is) i ∷ held-alike old new held alike i
held-one old new (o ∷ held) (suc h) {ns} is alike = grind (arith, common_steps, (held-one old new held h is), alike_parts, option-alike)

-- one block of a message says something else
message-one : (fields : List Fields) {n : ℕ} (x : Fields) (ns : List ℕ) (k : ℕ) → slice_get ns k ≡ Some n → times n ns ≤ 1
    → message_of (set fields n x) ns ≡ set (message_of fields ns) k (block_at (set fields n x) n)
message-one fields {n} x [] k is once = absurd (none-some n is)
message-one fields {n} x (y ∷ ns) zero is once =
    let same : y ≡ n = same_Some y n is in
    λ i. block_at (set fields n x) (same i) ∷ message-alike fields (set fields n x) ns (alike_off fields n x ns (omega (arith, once, times_here n y ns same))) i
message-one fields {n} x (y ∷ ns) (suc k) is once = grind (arith, common_steps, (message-one fields x ns k is), times_here, times_at, get_or-set_other, times_other)

-- ---- all blocks of a message

-- of all message blocks only those of a list say something else, and each uses the data block that it used
pub record AreRewritten (old new : List Fields) (ns : List ℕ) : Type 0 where
  pub many : length new ≡ length old
  pub named : (n : ℕ) → (fields_at new n).data_number ≡ (fields_at old n).data_number
  pub apart : (n : ℕ) → times n ns ≡ 0 → fields_at new n ≡ fields_at old n

-- a list that has none of these is as it was
pub alike_apart : (old new : List Fields) (ns : List ℕ) → ((n : ℕ) → times n ns ≡ 0 → fields_at new n ≡ fields_at old n) → (ms : List ℕ) → ((n : ℕ) → times n ms + times n ns ≤ 1) → AreAlike old new ms
alike_apart old new ns apart ms once = alike_each old new ms (λ n some. apart n (omega (arith, some, once n)))

-- blocks that name what they named
pub named-same : (old new : List Fields) → ((n : ℕ) → (fields_at new n).data_number ≡ (fields_at old n).data_number) → (ns : List ℕ) → data_used_by new ns ≡ data_used_by old ns
named-same old new same [] = refl
named-same old new same (n ∷ ns) = λ i. same n i ∷ named-same old new same ns i

module _ {id : ℕ} {s : CountedStore} {fields : List Fields} {v : ChainLists} (filled : IsFilled s fields v (arena_of id s.store fields v)) (h : ℕ) {ns : List ℕ} (held : held_in v.held h ≡ Some ns) where
  -- no number is in the message twice
  pub once_within : (n : ℕ) → times n ns ≤ 1
  once_within n = omega (arith, one_of_all filled.parted n, held_parts v h n held)

  -- a number in the message is that of a block
  pub within_room : (n : ℕ) → 0 < times n ns → n < length fields
  within_room n some = omega (arith, filled.listed, in_range n (length v.held) (omega (arith, all_parts filled.parted n, held_parts v h n held, some)))

  -- what a contract sees once they alone say something else, whatever becomes of the data blocks
  pub message_shows : (store : DataStore) (now : List Fields) → ((n : ℕ) → times n ns ≡ 0 → fields_at now n ≡ fields_at fields n)
      → arena_of id store now v ≡ record (arena_of id s.store fields v) { store = store; held = set (arena_of id s.store fields v).held h (Some (message_of now ns)) }
  message_shows store now apart =
      let held_now = held-one fields now v.held h held (alike_apart fields now ns apart (blocks_held (set v.held h None)) (λ n. omega (arith, one_of_all filled.parted n, held_parts v h n held))) in
      let shelves_now = shelves-alike fields now v.shelves (alike_apart fields now ns apart (blocks_on v.shelves) (λ n. omega (arith, one_of_all filled.parted n, held_parts v h n held))) in
      λ i. record { id = id; store = store; free = v.free; held = held_now i; shelves = shelves_now i; least = v.least }

  module _ (t : CountedStore) {now : List Fields} (change : AreRewritten fields now ns) where
    pub message_filled : IsKept t → t.counts ≡ s.counts → ((n : ℕ) → n < length now → IsPlaced t.store (fields_at now n)) → IsFilled t now v (arena_of id t.store now v)
    message_filled kept counts placed = record {
      kept = kept;
      parted = filled.parted;
      few = filled.few;
      listed = change.many ∙ filled.listed;
      placed = placed;
      counts = λ d.
          ap (λ cs. get_or cs d 0) counts ∙ filled.counts d ∙ ap (count_by (uses_data d)) (blocks_in-seen id s.store fields v) ∙ naming-named fields d (nodes_in v)
          ∙ sym (ap (count_by (uses_data d)) (blocks_in-seen id t.store now v) ∙ naming-named now d (nodes_in v) ∙ ap (times d) (named-same fields now change.named (nodes_in v)));
    }

-- ---- one of them

module _ {id : ℕ} {s : CountedStore} {fields : List Fields} {v : ChainLists} (filled : IsFilled s fields v (arena_of id s.store fields v))
    (h k : ℕ) {n : ℕ} {ns : List ℕ} (held : held_in v.held h ≡ Some ns) (at : slice_get ns k ≡ Some n) where
  -- the block itself is one of those that there are
  pub node_room : n < length fields
  node_room = within_room filled h held n (times_at n ns k at)

  apart_one : (x : Fields) (m : ℕ) → times m ns ≡ 0 → fields_at (set fields n x) m ≡ fields_at fields m
  apart_one x m none = get_or-set_other fields n m x no_fields (λ same. absurd (omega (arith, none, times_at n ns k at, ap (λ j. times j ns) same)))

  pub written_shows : (store : DataStore) (x : Fields)
      → arena_of id store (set fields n x) v ≡ record (arena_of id s.store fields v) { store = store; held = set (arena_of id s.store fields v).held h (Some (set (message_of fields ns) k (block_at (set fields n x) n))) }
  written_shows store x =
      message_shows filled h held store (set fields n x) (apart_one x)
      ∙ ap (λ m. record (arena_of id s.store fields v) { store = store; held = set (arena_of id s.store fields v).held h (Some m) })
      (message-one fields x ns k at (once_within filled h held n))

  module _ {t : CountedStore} {x : Fields} (kept : IsKept t) (counts : t.counts ≡ s.counts) (rooms : HasRooms s.store t.store) (placed : IsPlaced t.store x) (named : x.data_number ≡ (fields_at fields n).data_number) where
    abbrev now : List Fields
    now = set fields n x

    change : AreRewritten fields now ns
    change = grind (arith, common_steps, length-set, get_or-set_same, node_room, get_or-set_other, apart_one)

    pub rewrite_filled : IsFilled t now v (arena_of id t.store now v)
    rewrite_filled = message_filled filled h held t change kept counts (placed-set s.store fields n rooms placed filled.placed)

-- ---- the message that a token names

-- the numbers of a message that is held
pub record AreHeld (fields : List Fields) (v : ChainLists) (h : ℕ) (m : Message) (ns : List ℕ) : Type 0 where
  pub held : held_in v.held h ≡ Some ns
  pub message : m ≡ message_of fields ns

pub held_nodes : (id : ℕ) (s : DataStore) (fields : List Fields) (v : ChainLists) (h : ℕ) {m : Message} → held_at (arena_of id s fields v) h ≡ Some m → (ns : List ℕ) × AreHeld fields v h m ns
held_nodes id s fields v h {m} is = of_nodes (held_in v.held h) refl
  where
    of_nodes : (o : Option (List ℕ)) → held_in v.held h ≡ o → (ns : List ℕ) × AreHeld fields v h m ns
    of_nodes None none = absurd (none-some m (sym (held_at-seen id s fields v h ∙ ap (option_map (message_of fields)) none) ∙ is))
    of_nodes (Some ns) some = grind (arith, common_steps, same_Some, held_at-seen)

-- ==== the blocks of a held message by their place, as the code finds them

-- the numbers of the message that a token names
pub token_nodes : (id : ℕ) (s : CountedStore) (fields : List Fields) (v : ChainLists) (t : TokenValue) → has (arena_of id s.store fields v) t ≡ true
    → (held_in v.held t.head ≡ Some (nodes_at v t.head)) × (t.blocks ≡ length (nodes_at v t.head))
token_nodes id s fields v t is = grind (arith, common_steps, had_message, held_nodes, length-map)

-- the same where the token is known under another name
pub token_held : {id : ℕ} (s : CountedStore) (fields : List Fields) (v : ChainLists) {a : Arena} → arena_of id s.store fields v ≡ a → (t u : TokenValue) → u ≡ t → has a t ≡ true
    → held_in v.held u.head ≡ Some (nodes_at v u.head)
token_held s fields v is t u same had = grind (arith, common_steps, token_nodes)

-- it has as many blocks as the token says
pub token_counted : {id : ℕ} (s : CountedStore) (fields : List Fields) (v : ChainLists) {a : Arena} → arena_of id s.store fields v ≡ a → {t u : TokenValue} → u ≡ t → has a t ≡ true
    → u.blocks ≡ length (nodes_at v u.head)
token_counted s fields v is same had = grind (arith, common_steps, token_nodes)

-- and the data blocks that it uses are those of as many blocks as the token says
pub token_named : {id : ℕ} (s : CountedStore) (fields : List Fields) (v : ChainLists) {a : Arena} → arena_of id s.store fields v ≡ a → {t u : TokenValue} → u ≡ t → has a t ≡ true
    → take u.blocks (data_used_by fields (nodes_at v u.head)) ≡ data_used_by fields (nodes_at v u.head)
token_named s fields v is same had = grind (arith, common_steps, token_nodes, length-map, take-length)

-- a held message has a place in range
pub nodes_room : (v : ChainLists) (h : ℕ) {n : ℕ} → slice_get (nodes_at v h) 0 ≡ Some n → h < length v.held
nodes_room v h is = grind (arith, common_steps, none-some, get_or_past)

-- block n is at place k of the message that a token names
pub record IsAt (s : CountedStore) (fields : List Fields) (v : ChainLists) (a : Arena) (h k n : ℕ) (ns : List ℕ) : Type 0 where
  pub held : held_in v.held h ≡ Some ns
  pub at : slice_get ns k ≡ Some n
  pub message : message_at a h ≡ message_of fields ns
  pub block : slice_get (message_at a h) k ≡ Some (block_at fields n)
  pub there : n < length fields
  pub placed : IsPlaced s.store (fields_at fields n)
  pub named : count_of s (fields_at fields n).data_number ≡ references_to a (fields_at fields n).data_number

module _ {id : ℕ} {s : CountedStore} {fields : List Fields} {v : ChainLists} (filled : IsFilled s fields v (arena_of id s.store fields v)) {a : Arena} (is : arena_of id s.store fields v ≡ a) (h k : ℕ) where
  -- the block at place k, if the message has more than k
  block-get : slice_get (message_at a h) k ≡ option_map (block_at fields) (slice_get (nodes_at v h) k)
  block-get = grind (arith, common_steps, message_at-seen, slice_get-map)

  -- there is none
  pub block_none : slice_get (nodes_at v h) k ≡ None → slice_get (message_at a h) k ≡ None
  block_none none = block-get ∙ ap (option_map (block_at fields)) none

  -- there is one
  pub block_some : (t : TokenValue) → t.head ≡ h → has a t ≡ true → {n : ℕ} → slice_get (nodes_at v h) k ≡ Some n → IsAt s fields v a h k n (nodes_at v h)
  block_some t head had {n} found =
      let message = had_message a t had in
      let nodes = held_nodes id s.store fields v t.head (ap (λ x. Rattle.strm_mblk.specs.Arena.held_at x t.head) is ∙ message.1.held) in
      let held : held_in v.held h ≡ Some (nodes_at v h) = ap (held_in v.held) (sym head) ∙ nodes.1.held ∙ ap Some (sym (ap (λ o. Rattle.strm_mblk.specs.Messages.blocks_of o) (ap (held_in v.held) (sym head) ∙ nodes.1.held))) in
      let there : n < length fields = node_room filled h k held found in
      record {
        held = held;
        at = found;
        message = ap (λ x. message_at x h) (sym is) ∙ message_at-seen id s.store fields v h;
        block = block-get ∙ ap (option_map (block_at fields)) found;
        there = there;
        placed = filled.placed n there;
        named = filled.counts (fields_at fields n).data_number ∙ ap (λ x. references_to x (fields_at fields n).data_number) is;
      }

  -- there is one, by what a contract sees
  pub block_given : {b : Block} → slice_get (message_at a h) k ≡ Some b → IsAt s fields v a h k b.number (nodes_at v h)
  block_given {b} found = block_some (token_of a h) refl had (number_of (slice_get (nodes_at v h) k) refl)
    where
      had_by : (o : Option Message) → held_at a h ≡ o → has a (token_of a h) ≡ true
      had_by None none = absurd (none-some b (sym (ap (λ o. slice_get (blocks_of o) k) none) ∙ found))
      had_by (Some m) held = token_had a h m held

      had : has a (token_of a h) ≡ true
      had = had_by (held_at a h) refl

      number_of : (o : Option ℕ) → slice_get (nodes_at v h) k ≡ o → o ≡ Some b.number
      number_of None none = absurd (none-some b (sym (block-get ∙ ap (option_map (block_at fields)) none) ∙ found))
      number_of (Some n) some =
          ap (λ (c : Block). Some c.number) (same_Some (block_at fields n) b (sym (block-get ∙ ap (option_map (block_at fields)) some) ∙ found))

  -- a walk that has come to a block of it
  pub block_reached : (t : TokenValue) → t.head ≡ h → has a t ≡ true → {n : ℕ} → IsReached v h k n → k < t.blocks → IsAt s fields v a h k n (nodes_at v h)
  block_reached t head had reached few = grind (arith, common_steps, token_nodes, block_some)

  -- a walk that begins at place k, as far as there is a block
  pub starts_at : (t : TokenValue) → t.head ≡ h → has a t ≡ true → {n : ℕ} (d : ℕ) → n ≡ unwrap_or (slice_get (nodes_at v h) k) d → IsReached v h k n
  starts_at t head had {n} d found = record { here = here; in_range = λ within. omega (arith, (block_some t head had (here within)).there, filled.listed) }
    where
      here : k < length (nodes_at v h) → slice_get (nodes_at v h) k ≡ Some n
      here within = slice_get-get_or (nodes_at v h) k d within ∙ ap Some (sym (found ∙ unwrap_or-slice_get (nodes_at v h) k d))

-- the message at h is held
pub record IsHeldHead (fields : List Fields) (v : ChainLists) (h : ℕ) : Type 0 where
  pub held : held_in v.held h ≡ Some (nodes_at v h)
  pub first : slice_get (nodes_at v h) 0 ≡ Some h
  pub there : h < length fields

pub seen_head : {id : ℕ} {s : CountedStore} {fields : List Fields} {v : ChainLists} → IsFilled s fields v (arena_of id s.store fields v) → (h : ℕ) {a : Arena} → arena_of id s.store fields v ≡ a → IsSome (held_at a h)
    → IsHeldHead fields v h
seen_head filled h is some = grind (arith, common_steps, held_nodes, held_is, at_first, begins_with, node_room)

-- a walk begins at the head
pub reached_head : {id : ℕ} {s : CountedStore} {fields : List Fields} {v : ChainLists} → IsFilled s fields v (arena_of id s.store fields v) → {a : Arena} → arena_of id s.store fields v ≡ a
    → (t : TokenValue) → has a t ≡ true → {n : ℕ} → n ≡ t.head → IsReached v t.head 0 n
reached_head filled {a} is t had same =
    let head = seen_head filled t.head is (ap is_some (had_message a t had).1.held) in
    record { here = λ some. head.first ∙ ap Some (sym same); in_range = λ some. omega (arith, head.there, filled.listed, same) }

-- a walk goes on as before, whatever message blocks store
pub still_on : {v w : ChainLists} {n m : ℕ} → v ≡ w → ((h i : ℕ) → IsReached v h i n → IsReached v h (i + 1) m) → (h i : ℕ) → IsReached w h i n → IsReached w h (i + 1) m
still_on {n = n} {m = m} same on = subst (λ v. (h i : ℕ) → IsReached v h i n → IsReached v h (i + 1) m) same on
