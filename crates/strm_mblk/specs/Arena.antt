-- What a contract sees of message blocks: which are free, and the messages of the others, held or on shelves.
use Rattle.std.specs.Prelude.{◌≡◌, ℕ, ◌+◌, ◌<◌, ◌≤◌, min, Bool, false, ◌&&◌, ◌==◌, nat_lt, List, [], ◌++◌, length, map, count_by, replicate, Option, None, Some, IfSome, slice_set, if◌then◌else◌}
use Rattle.std.specs.List.{All, range_with_len}
use Rattle.strm_data.specs.declared.class_spec.ClassSpec.{ClassSpec}
use Rattle.strm_data.specs.CountedStore.{CountedStore}
use Rattle.strm_data.specs.DataStore.{DataStore, IsLeast, times, capacity_of, class_of, free_of, opening_store, with_data_reset}
use Rattle.strm_data.specs.Limits.{most_references}
use Rattle.strm_mblk.specs.declared.census.Census.{Census}
use Rattle.strm_mblk.specs.declared.token.TokenValue.{TokenValue}
use Rattle.strm_mblk.specs.Block.{Block, Message, head_of, uses_data, numbers_of}
use Rattle.strm_links.specs.Chains.{AreParted}
use Rattle.strm_mblk.specs.Messages.{blocks_of, held_in, shelf_in, blocks_on, blocks_held}

-- the pool's id and data blocks, and the free message blocks, the next to be taken first. For each block number the held message that
-- begins with it, if any. The messages on each shelf, front to back. The fewest message blocks that were free since the arena was made or
-- `least` was reset
pub record Arena : Type 0 where
  pub id : ℕ
  pub store : DataStore
  pub free : List ℕ
  pub held : List (Option Message)
  pub shelves : List (List Message)
  pub least : ℕ

-- new message blocks: all are free, in rising order, and all shelves are empty
abbrev pub opening_arena : ℕ → ℕ → List ClassSpec → ℕ → Arena
opening_arena id mblks classes shelves = record {
  id = id;
  store = opening_store classes;
  free = range_with_len 0 mblks;
  held = replicate mblks None;
  shelves = replicate shelves [];
  least = mblks;
}

-- ---- what is where

-- the message held at h, if any
abbrev pub held_at : Arena → ℕ → Option Message
held_at a h = held_in a.held h

-- the blocks of the message held at h; none if there is no such message
abbrev pub message_at : Arena → ℕ → Message
message_at a h = blocks_of (held_at a h)

-- the messages on shelf s
abbrev pub shelf_at : Arena → ℕ → List Message
shelf_at a s = shelf_in a.shelves s

-- the blocks of the messages on shelves
abbrev pub shelved_blocks : Arena → List Block
shelved_blocks a = blocks_on a.shelves

-- the blocks of the held messages
abbrev pub held_blocks : Arena → List Block
held_blocks a = blocks_held a.held

-- the blocks of all messages
abbrev pub blocks_in : Arena → List Block
blocks_in a = shelved_blocks a ++ held_blocks a

-- the number of references to data block d: the blocks of all messages that use it
abbrev pub references_to : Arena → ℕ → ℕ
references_to a d = count_by (uses_data d) (blocks_in a)

-- the numbers of message blocks that are free, on shelves and held
abbrev pub census_of : Arena → Census
census_of a = record { free = length a.free; queued = length (shelved_blocks a); held = length (held_blocks a) }

-- the arena after the message held at h has left
abbrev pub without_held : ℕ → Arena → Arena
without_held h a = record a { held = slice_set a.held h None }

-- the arena after m became the message held at h
abbrev pub with_message : ℕ → Message → Arena → Arena
with_message h m a = record a { held = slice_set a.held h (Some m) }

-- the arena after m became held, at its own head
abbrev pub with_held : Message → Arena → Arena
with_held m a = with_message (head_of m) m a

-- the arena with these messages on shelf s
abbrev pub with_shelf : ℕ → List Message → Arena → Arena
with_shelf s ms a = record a { shelves = slice_set a.shelves s ms }

-- the arena with these message blocks left as free, after others were taken
abbrev pub with_free_left : List ℕ → Arena → Arena
with_free_left ns a = record a { free = ns; least = min a.least (length ns) }

-- the arena once the fewest that were free, of message blocks and of each class's data blocks, are those that are free now
abbrev pub with_least_reset : Arena → Arena
with_least_reset a = record a { store = with_data_reset a.store; least = length a.free }

-- no fewer are free than the fewest that were free
pub record IsLeastFree (a : Arena) : Type 0 where
  pub message_blocks : a.least ≤ length a.free
  pub data_blocks : IsLeast a.store

-- ---- tokens

-- whether there is a message with this number of blocks
abbrev pub is_of_length : ℕ → Option Message → Bool
is_of_length n None = false
is_of_length n (Some m) = length m == n

-- whether the arena has the token: it has the arena's id, and a held message has its head and its number of blocks
abbrev pub has : Arena → TokenValue → Bool
has a t = t.pool == a.id && is_of_length t.blocks (held_at a t.head)

-- the token of the message held at h
abbrev pub token_of : Arena → ℕ → TokenValue
token_of a h = record { pool = a.id; head = h; blocks = length (message_at a h) }

-- ---- each block is in one place

-- whether d is a data block of class c without references
abbrev pub is_free_in : Arena → ℕ → ℕ → Bool
is_free_in a c d = nat_lt d (length a.store.blocks) && (class_of a.store d == c && references_to a d == 0)

-- Each message block is in exactly one place: free, in one message on one shelf, or in one held message, which is at its head. Each
-- data block either has no references, and is once in its class's free list, or has 1 to most_references references, and is
-- in no free list.
pub record IsParted (a : Arena) : Type 0 where
  pub chains : AreParted numbers_of head_of a.free a.shelves a.held
  pub free_data : (c d : ℕ) → times d (free_of a.store c) ≡ (if is_free_in a c d then 1 else 0)
  pub named : (d : ℕ) → 0 < references_to a d → d < length a.store.blocks
  pub few_references : (d : ℕ) → references_to a d ≤ most_references

-- ---- data blocks and the blocks of messages

-- the data blocks, each with its number of references
abbrev pub counted_in : Arena → CountedStore
counted_in a = record { store = a.store; counts = map (references_to a) (range_with_len 0 (length a.store.blocks)) }

-- the places of the block are inside its data block
abbrev pub IsWithin : DataStore → Block → Type 0
IsWithin s b = b.offset + b.len ≤ capacity_of s b.data_number
