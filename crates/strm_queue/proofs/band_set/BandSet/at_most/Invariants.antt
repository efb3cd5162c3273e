use Rattle.std.proofs.Common.{◌+◌, ◌*◌, ◌<◌, ◌≤◌}
use Rattle.strm_queue.proofs.bands.Bands.{AreNone}
use Rattle.strm_queue.proofs.band_set.BandSet.at_most.Given as goal

-- the words so far have no band up to the last one
abbrev pub invariant-loop-word : goal.invariant-loop-word
invariant-loop-word l = (l.to < 64) × (l.word * 64 + l.to ≤ l.band) × AreNone l.self-inside.words (l.word * 64 + l.to + 1) (l.band + 1)
