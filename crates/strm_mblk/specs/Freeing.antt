-- How message blocks are freed, and data blocks that lose their last reference.
use Rattle.std.specs.Prelude.{◌+◌, ◌==◌, ℕ, List, [], ◌∷◌, count_by, if◌then◌else◌}
use Rattle.strm_data.specs.DataStore.{with_data_freed}
use Rattle.strm_mblk.specs.declared.token.TokenValue.{TokenValue}
use Rattle.strm_mblk.specs.Arena.{Arena, has, message_at, references_to, without_held}
use Rattle.strm_mblk.specs.Block.{Block, uses_data}

-- Blocks that have left their message, but are not free yet, still use their data blocks. They are `loose`.

-- the arena after data block d lost a reference: d is freed if no message and no loose block uses it
abbrev pub with_reference_dropped : ℕ → List Block → Arena → Arena
with_reference_dropped d loose a = record a {
  store = if references_to a d + count_by (uses_data d) loose == 0 then with_data_freed d a.store else a.store;
}

-- the arena after block b was freed: its number goes to the front of the free list, and its data block loses a reference
abbrev pub with_block_freed : Block → List Block → Arena → Arena
with_block_freed b loose a = with_reference_dropped b.data_number loose (record a { free = b.number ∷ a.free })

-- the arena after all these blocks were freed, first to last
abbrev pub with_blocks_freed : List Block → Arena → Arena
with_blocks_freed [] a = a
with_blocks_freed (b ∷ loose) a = with_blocks_freed loose (with_block_freed b loose a)

-- frees all blocks of the message held at h
abbrev pub freemsg : ℕ → Arena → Arena
freemsg h a = with_blocks_freed (message_at a h) (without_held h a)

-- the arena after a token was spent: its message, if any, is freed
abbrev pub with_token_spent : Arena → TokenValue → Arena
with_token_spent a t = if has a t then freemsg t.head a else a
