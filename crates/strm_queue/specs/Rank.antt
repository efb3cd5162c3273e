-- The rank of a message, and the place among others that `putq`, `putbq` and `insq` give it.
use Rattle.std.specs.Prelude.{ℕ, Bool, true, ◌&&◌, nat_le, List, [], ◌∷◌, ◌++◌, take, drop, if◌then◌else◌}
use Rattle.std.specs.List.{list_any, list_all}
use Rattle.strm_data.specs.MsgType.{is_high_priority}
use Rattle.strm_data.specs.DataStore.{DataStore}
use Rattle.strm_mblk.specs.Block.{Message, kind_of}
use Rattle.strm_queue.specs.Limits.{high_rank}

-- `high_rank` for high priority, otherwise the band of the first block; a queue gives greater ranks first
abbrev pub rank_of : DataStore → Message → ℕ
rank_of s [] = 0
rank_of s (b ∷ bs) = if is_high_priority (kind_of s b) then high_rank else b.band

-- whether ranks never rise from front to back
abbrev pub is_ordered : (Message → ℕ) → List Message → Bool
is_ordered rank [] = true
is_ordered rank (x ∷ xs) = list_all (λ y. nat_le (rank y) (rank x)) xs && is_ordered rank xs

-- a message as it is on a queue: the first block of a high priority message has band 0
abbrev pub as_queued : DataStore → Message → Message
as_queued s [] = []
as_queued s (b ∷ bs) = (if is_high_priority (kind_of s b) then record b { band = 0 } else b) ∷ bs

-- m after the last message whose rank is at least its own
abbrev pub put_behind : (Message → ℕ) → Message → List Message → List Message
put_behind rank m [] = m ∷ []
put_behind rank m (x ∷ xs) = if list_any (λ y. nat_le (rank m) (rank y)) (x ∷ xs) then x ∷ put_behind rank m xs else m ∷ x ∷ xs

-- m before the first message whose rank is at most its own, or last
abbrev pub put_ahead : (Message → ℕ) → Message → List Message → List Message
put_ahead rank m [] = m ∷ []
put_ahead rank m (x ∷ xs) = if nat_le (rank x) (rank m) then m ∷ x ∷ xs else x ∷ put_ahead rank m xs

-- m at place k, before the message that was there
abbrev pub put_at : ℕ → Message → List Message → List Message
put_at k m ms = take k ms ++ (m ∷ drop k ms)
