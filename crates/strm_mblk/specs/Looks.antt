-- Looks at one block of a message. A call gets the head of a message; that of a held one stands for its token.
use Rattle.std.specs.Prelude.{ℕ, List, Result, ok_or, slice_get}
use Rattle.strm_data.specs.declared.refusal.Refusal.{Refusal}
use Rattle.strm_data.specs.declared.refusal.Refusal.TheVariants.{NoSuchBlock}
use Rattle.strm_mblk.specs.Arena.{Arena}
use Rattle.strm_mblk.specs.Block.{bytes_of_block}
use Rattle.strm_mblk.specs.BlockCalls.{block_found}
use Rattle.strm_mblk.specs.Given.{answer_map}
use Rattle.strm_mblk.specs.Shelves.{shelved_message}

-- the number of block k of the message held at h
abbrev pub number : ℕ → ℕ → Arena → Result ℕ Refusal
number h k a = answer_map (λ b. b.number) (block_found h k a)

-- the bytes of block k of the message on a shelf with head h
abbrev pub shelved_bytes : ℕ → ℕ → Arena → Result (List ℕ) Refusal
shelved_bytes h k a = answer_map (bytes_of_block a.store) (ok_or (slice_get (shelved_message a h) k) NoSuchBlock)
