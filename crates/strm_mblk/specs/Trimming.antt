-- Removing bytes at an end of a message (`adjmsg`), and bringing bytes into its first block (`pullupmsg`).
use Rattle.std.specs.Prelude.{ℕ, zero, suc, ◌+◌, ◌-◌, ℤ, pos, negsuc, min, Bool, ◌&&◌, nat_lt, nat_le, List, [], ◌∷◌, reverse, take, Option, None, Some, Result, Ok, Err, slice_set, if◌then◌else◌}
use Rattle.std.specs.List.{take_while}
use Rattle.strm_data.specs.declared.refusal.Refusal.{Refusal}
use Rattle.strm_data.specs.declared.refusal.Refusal.TheVariants.{Short}
use Rattle.strm_data.specs.DataStore.{DataStore, take_data, with_data_taken, with_kind, with_bytes_written}
use Rattle.strm_data.specs.MsgType.{same_kind}
use Rattle.strm_mblk.specs.Arena.{Arena, message_at, with_message}
use Rattle.strm_mblk.specs.Block.{Block, Message, bytes_of, kind_of, size_of}
use Rattle.strm_mblk.specs.Freeing.{with_reference_dropped, with_blocks_freed}
use Rattle.strm_mblk.specs.Given.{Given, answer_map}

-- the leading blocks that have the type of the first
abbrev pub run_of : DataStore → List Block → List Block
run_of s [] = []
run_of s (b ∷ bs) = b ∷ take_while (λ c. same_kind (kind_of s c) (kind_of s b)) bs

-- a list, from its last item to its first if `from_tail`
abbrev pub from_end : {X : Type 0} → Bool → List X → List X
from_end from_tail xs = if from_tail then reverse xs else xs

-- ---- adjmsg

-- the blocks without their first n bytes: each loses those that it has, and emptied blocks stay
abbrev pub blocks_cut_front : ℕ → List Block → List Block
blocks_cut_front n [] = []
blocks_cut_front n (b ∷ bs) = record b { offset = b.offset + min n b.len; len = b.len - n } ∷ blocks_cut_front (n - b.len) bs

-- the blocks, listed last to first, without their last n bytes: each loses those that it has, and emptied blocks stay
abbrev pub blocks_cut_back : ℕ → List Block → List Block
blocks_cut_back n [] = []
blocks_cut_back n (b ∷ bs) = record b { len = b.len - n } ∷ blocks_cut_back (n - b.len) bs

-- The message without its first n bytes or, if n is below 0, without its last -n bytes. Refused as `Short` if the blocks of one
-- type at that end have fewer.
abbrev pub message_cut : ℤ → DataStore → Message → Result Message Refusal
message_cut (pos n) s m = if nat_lt (size_of (run_of s m)) n then Err Short else Ok (blocks_cut_front n m)
message_cut (negsuc n) s m =
    if nat_lt (size_of (run_of s (reverse m))) (suc n) then Err Short else Ok (reverse (blocks_cut_back (suc n) (reverse m)))

-- removes n bytes at the head of the message held at h or, if n is below 0, -n bytes at its tail
abbrev pub adjmsg : ℕ → ℤ → Arena → Given Arena (Unit {0})
adjmsg h n a = answer_map (λ m. (tt, with_message h m a)) (message_cut n a.store (message_at a h))

-- ---- pullupmsg

-- the number of bytes that are asked for: -1 asks for all of the run; none if the number is below -1
abbrev pub bytes_asked : ℤ → List Block → Option ℕ
bytes_asked (pos n) run = Some n
bytes_asked (negsuc zero) run = Some (size_of run)
bytes_asked (negsuc (suc n)) run = None

-- whether the block has no more than the next n bytes, and n is above 0
abbrev pub is_used_up : ℕ → Block → Bool
is_used_up n b = nat_lt 0 n && nat_le b.len n

-- of the blocks after the first, those that the next n bytes use up
abbrev pub blocks_used_up : ℕ → List Block → List Block
blocks_used_up n [] = []
blocks_used_up n (b ∷ bs) = if is_used_up n b then b ∷ blocks_used_up (n - b.len) bs else []

-- of the blocks after the first, those that stay; the first of them loses the bytes that are left to remove
abbrev pub blocks_left_over : ℕ → List Block → List Block
blocks_left_over n [] = []
blocks_left_over n (b ∷ bs) = if is_used_up n b then blocks_left_over (n - b.len) bs else record b { offset = b.offset + n; len = b.len - n } ∷ bs

-- the store after d was taken for the first n bytes of the message, with the type of its first block
abbrev pub store_with_front : ℕ → Message → DataStore → ℕ → DataStore
store_with_front n [] s d = s
store_with_front n (b ∷ bs) s d = with_bytes_written d 0 (take n (bytes_of s (b ∷ bs))) (with_kind d (kind_of s b) (with_data_taken d s))

-- the first block has data block d, with the first n bytes; the old data block loses its reference, and then the used-up blocks are freed
abbrev pub with_front_pulled : ℕ → ℕ → Message → Arena → ℕ → Arena
with_front_pulled h n [] a d = a
with_front_pulled h n (b ∷ bs) a d =
    let out = blocks_used_up (n - b.len) bs in
    with_blocks_freed out (with_reference_dropped b.data_number out (record a {
      store = store_with_front n (b ∷ bs) a.store d;
      held = slice_set a.held h (Some (record b { data_number = d; offset = 0; len = n } ∷ blocks_left_over (n - b.len) bs));
    }))

-- brings n bytes of the message m held at h into its first block, which has them already or takes a data block for them
abbrev pub pull : ℕ → ℕ → Message → Arena → Given Arena (Unit {0})
pull h n [] a = Err Short
pull h n (b ∷ bs) a =
    if nat_lt (size_of (run_of a.store (b ∷ bs))) n then Err Short
    else (if nat_le n b.len then Ok (tt, a)
    else answer_map (λ d. (tt, with_front_pulled h n (b ∷ bs) a d)) (take_data n a.store))

-- brings the given number of bytes of the message m held at h into its first block; refused as `Short` if no number is given
abbrev pub pull_asked : ℕ → Option ℕ → Message → Arena → Given Arena (Unit {0})
pull_asked h None m a = Err Short
pull_asked h (Some n) m a = pull h n m a

-- brings n bytes of the message held at h, or with -1 all of its run, into its first block
abbrev pub pullupmsg : ℕ → ℤ → Arena → Given Arena (Unit {0})
pullupmsg h n a = pull_asked h (bytes_asked n (run_of a.store (message_at a h))) (message_at a h) a
