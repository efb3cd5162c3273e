use Rattle.std.proofs.Common.{◌+◌, ◌*◌, ◌<◌, ◌≤◌}
use Rattle.strm_queue.proofs.bands.Bands.{AreNone}
use Rattle.strm_queue.proofs.band_set.BandSet.at_least.Given as goal

-- the words so far have no band from the first one on
abbrev pub invariant-loop-word : goal.invariant-loop-word
invariant-loop-word l = (l.from < 64) × (l.band ≤ l.word * 64 + l.from) × AreNone l.self-inside.words l.band (l.word * 64 + l.from)
