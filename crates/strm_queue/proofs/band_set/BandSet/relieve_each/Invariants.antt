use Rattle.std.proofs.Common.{◌≡◌, ℕ, ◌-◌, Bool, true, List, slice_index_or}
use Rattle.std.specs.Option.{IfSome, unwrap_or}
use Rattle.strm_queue.specs.declared.marks.Marks.{Marks}
use Rattle.strm_queue.specs.Flow.{has_band, has_drained, no_marks}
use Rattle.strm_queue.specs.Limits.{bands}
use Rattle.strm_queue.proofs.bands.Bands.{AreLookedAt}
use Rattle.strm_queue.proofs.band_set.BandSet.relieve_each.Given as goal

-- whether a band has drained
abbrev pub has_drained_at : List ℕ → List Marks → ℕ → Bool
has_drained_at counts marks band = has_drained (slice_index_or marks band no_marks).lowat (slice_index_or counts band 0)

-- the bands before the next one were looked at, which is one of the set
abbrev pub invariant-loop-next : goal.invariant-loop-next
invariant-loop-next l =
    AreLookedAt l.fn.self (has_drained_at l.fn.counts l.fn.marks) (unwrap_or l.next bands) l.self l.some × IfSome l.next (λ band. has_band l.fn.self band ≡ true)

-- how many bands are left
abbrev pub decreases-loop-next : goal.decreases-loop-next
decreases-loop-next l = bands - unwrap_or l.next bands
