-- Which messages `flushq` and `flushband` free (FLUSHALL, FLUSHDATA), and what becomes of them.
use Rattle.std.specs.Prelude.{ℕ, Bool, true, false, ◌&&◌, List, [], ◌∷◌, Option, None, Some}
use Rattle.std.specs.List.{flat_map}
use Rattle.strm_data.specs.declared.msg_type.MsgType.{MsgType}
use Rattle.strm_data.specs.declared.msg_type.MsgType.TheVariants.{MData, MDelay, MPcproto, MProto}
use Rattle.strm_data.specs.DataStore.{DataStore}
use Rattle.strm_mblk.specs.Arena.{Arena}
use Rattle.strm_mblk.specs.Block.{Message, kind_of}
use Rattle.strm_mblk.specs.Freeing.{with_blocks_freed}
use Rattle.strm_queue.specs.Flow.{is_of_band}
use Rattle.strm_queue.specs.declared.flush.Flush.{Flush}
use Rattle.strm_queue.specs.declared.flush.Flush.TheVariants.{All, Data}

-- whether messages of this type carry data
abbrev pub carries_data : MsgType → Bool
carries_data MData = true
carries_data MProto = true
carries_data MPcproto = true
carries_data MDelay = true
carries_data kind = false

-- whether a flush of all bands frees a message: all messages, or those whose first block carries data
abbrev pub is_flushed : DataStore → Flush → Message → Bool
is_flushed s All m = true
is_flushed s Data [] = false
is_flushed s Data (b ∷ bs) = carries_data (kind_of s b)

-- whether a flush of one band, or of all bands if none is given, frees a message
abbrev pub is_picked : DataStore → Option ℕ → Flush → Message → Bool
is_picked s None flush m = is_flushed s flush m
is_picked s (Some band) flush m = is_of_band s band m && is_flushed s flush m

-- The blocks of these messages, which are neither held nor on a shelf, are freed, first to last. Each keeps its reference until
-- then.
abbrev pub with_freed : List Message → Arena → Arena
with_freed ms a = with_blocks_freed (flat_map (λ m. m) ms) a
