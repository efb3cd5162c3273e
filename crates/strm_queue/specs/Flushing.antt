-- The messages that a flush of one band has still to go over. No public clause cites this module.
use Rattle.std.specs.Prelude.{ℕ, List, [], ◌∷◌, Option, None, Some, if◌then◌else◌}
use Rattle.strm_data.specs.DataStore.{DataStore}
use Rattle.strm_mblk.specs.Block.{Message}
use Rattle.strm_queue.specs.Flow.{is_of_band}

-- the messages from the first one on that counts with the band; all of them, if no band is given
abbrev pub messages_from_band : DataStore → Option ℕ → List Message → List Message
messages_from_band s None ms = ms
messages_from_band s (Some band) [] = []
messages_from_band s (Some band) (m ∷ ms) = if is_of_band s band m then m ∷ ms else messages_from_band s (Some band) ms
