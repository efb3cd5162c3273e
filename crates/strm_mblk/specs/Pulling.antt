-- How bytes are brought into the first block of a message, step by step. No public clause cites this module.
use Rattle.std.specs.Prelude.{ℕ, List, [], ◌∷◌, take}
use Rattle.strm_data.specs.CountedStore.{CountedStore}
use Rattle.strm_data.specs.DataStore.{take_data, with_bytes_written}
use Rattle.strm_mblk.specs.Arena.{Arena, message_at, with_message}
use Rattle.strm_mblk.specs.Block.{Block, Message, bytes_of}
use Rattle.strm_mblk.specs.Freeing.{with_reference_dropped, with_blocks_freed}
use Rattle.strm_mblk.specs.Given.{Given, answer_map}
use Rattle.strm_mblk.specs.Trimming.{blocks_left_over, store_with_front, blocks_used_up}

-- ---- the first block

-- the store after the first n bytes of these blocks were written into d, from its first byte on
abbrev pub with_front_copied : ℕ → ℕ → List Block → CountedStore → CountedStore
with_front_copied d n bs s = record s { store = with_bytes_written d 0 (take n (bytes_of s.store bs)) s.store }

-- the block over data block d, with n bytes from the first on
abbrev pub over_data : ℕ → ℕ → Block → Block
over_data d n b = record b { data_number = d; offset = 0; len = n }

-- The first block has data block d with the first n bytes of the message, and its old data block has lost a reference. The
-- other blocks are unchanged.
abbrev pub front_pulled : ℕ → ℕ → Message → Arena → ℕ → Arena
front_pulled h n [] a d = a
front_pulled h n (b ∷ bs) a d =
    with_reference_dropped b.data_number [] (with_message h (over_data d n b ∷ bs) (record a { store = store_with_front n (b ∷ bs) a.store d }))

abbrev pub pull_front : ℕ → ℕ → Arena → Given Arena (Unit {0})
pull_front h n a = answer_map (λ d. (tt, front_pulled h n (message_at a h) a d)) (take_data n a.store)

-- ---- the blocks after it

-- n bytes are removed from the blocks after the first, and the used-up blocks are freed
abbrev pub with_bytes_drained : ℕ → ℕ → Message → Arena → Arena
with_bytes_drained h n [] a = a
with_bytes_drained h n (b ∷ bs) a = with_blocks_freed (blocks_used_up n bs) (with_message h (b ∷ blocks_left_over n bs) a)
