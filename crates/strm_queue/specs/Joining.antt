-- What a held message needs to join the shelf of a queue. No public contract cites this module.
use Rattle.std.specs.Prelude.{◌≡◌, ◌≢◌, ◌<◌, ℕ, List, Option, None}
use Rattle.strm_mblk.specs.declared.token.TokenValue.{TokenValue}
use Rattle.strm_mblk.specs.Arena.{Arena, message_at, shelf_at}
use Rattle.strm_mblk.specs.Block.{Message, head_of}
use Rattle.strm_mblk.specs.BlockCalls.{with_band}
use Rattle.strm_mblk.specs.Messages.{put_before_head}
use Rattle.strm_queue.specs.Ends.{first_of_rank}
use Rattle.strm_queue.specs.Limits.{high_rank, ranks}
use Rattle.strm_queue.specs.Rank.{as_queued, put_behind, rank_of}

-- r is the rank of token t's message
pub record IsRank (a : Arena) (t : TokenValue) (r : ℕ) : Type 0 where
  pub value : r ≡ rank_of a.store (message_at a t.head)
  pub few : r < ranks
  -- a queue has a high priority message with band 0
  pub high : r ≡ high_rank → as_queued a.store (message_at a t.head) ≡ with_band 0 (message_at a t.head)

-- the messages of shelf q once the one held at h is there, before the one with this head, or last
abbrev pub shelf_with : Arena → ℕ → Option ℕ → ℕ → List Message
shelf_with a q before h = put_before_head head_of before (as_queued a.store (message_at a h)) (shelf_at a q)

-- token t's message, of rank r, goes there after the last message of its rank, and there is one
pub record IsAfterEqual (a : Arena) (q : ℕ) (before : Option ℕ) (t : TokenValue) (r : ℕ) : Type 0 where
  pub place : shelf_with a q before t.head ≡ put_behind (rank_of a.store) (as_queued a.store (message_at a t.head)) (shelf_at a q)
  pub some : first_of_rank (rank_of a.store) r (shelf_at a q) ≢ None
