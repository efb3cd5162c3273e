-- What the calls on shelves do to the arena, and what they return.
use Rattle.std.specs.Prelude.{ℕ, Bool, List, map, Option, None, slice_get, slice_set}
use Rattle.std.specs.List.{flat_map, position}
use Rattle.strm_links.specs.Rows as rows
use Rattle.strm_mblk.specs.Arena.{Arena, message_at, shelf_at}
use Rattle.strm_mblk.specs.Block.{Block, Message, head_of}
use Rattle.strm_mblk.specs.Messages.{blocks_of, put_before_head, with_head, without_head}

-- the heads of the messages on a shelf, front to back
abbrev pub heads_at : Arena → ℕ → List ℕ
heads_at a s = map head_of (shelf_at a s)

-- whether a message with this head is on shelf s
abbrev pub is_on : Arena → ℕ → ℕ → Bool
is_on a s h = rows.has h (heads_at a s)

-- the shelf that has a message with this head, if any
abbrev pub shelf_of : Arena → ℕ → Option ℕ
shelf_of a h = position (λ ms. rows.has h (map head_of ms)) a.shelves

-- the message with this head, which is on some shelf
abbrev pub shelved_message : Arena → ℕ → Message
shelved_message a h = blocks_of (with_head head_of h (flat_map (λ ms. ms) a.shelves))

-- the first block of the message with this head, if any
abbrev pub head_block : Arena → ℕ → Option Block
head_block a h = slice_get (shelved_message a h) 0

-- puts the message held at h on shelf s, before the one with the given head, or last
abbrev pub shelve : ℕ → Option ℕ → ℕ → Arena → Arena
shelve s before h a = record a {
  held = slice_set a.held h None;
  shelves = slice_set a.shelves s (put_before_head head_of before (message_at a h) (shelf_at a s));
}

-- takes the message with head h off shelf s; it is then held
abbrev pub unshelve : ℕ → ℕ → Arena → Arena
unshelve s h a = record a {
  held = slice_set a.held h (with_head head_of h (shelf_at a s));
  shelves = slice_set a.shelves s (without_head head_of h (shelf_at a s));
}
