use Rattle.std.proofs.Common.{ℕ, Bool, List, false, length, ap, sym, ◌∙◌}
use Rattle.std.specs.Prelude.{slice_index_or}
use Rattle.strm_queue.specs.declared.marks.Marks.{Marks}
use Rattle.strm_queue.specs.Flow.{has_band, has_drained, no_marks}
use Rattle.strm_queue.proofs.bands.Bands.{looked_at_last, looked_at_none}
use Rattle.strm_queue.proofs.band_set.Wanted.relieve.Goals as goal

-- whether a band has drained
abbrev may : List ℕ → List Marks → ℕ → Bool
may counts marks band = has_drained (slice_index_or marks band no_marks).lowat (slice_index_or counts band 0)

pub returns-then-not-self-clause-left : goal.returns-then-not-self-clause-left
returns-then-not-self-clause-left c =
    let drained = may c.args.counts.now c.args.marks.now in
    (looked_at_last c.args.self.now drained c.args.self.now false (looked_at_none c.args.self.now drained (ap length (sym c.self.view_is) ∙ c.lawful.ensures) (λ band. ap (λ ms. has_band ms band) (sym c.self.view_is) ∙ c.self.invariant.0 c.if-not-self.true band))).0

pub returns-then-not-self-clause-some : goal.returns-then-not-self-clause-some
returns-then-not-self-clause-some c =
    let drained = may c.args.counts.now c.args.marks.now in
    (looked_at_last c.args.self.now drained c.args.self.now false (looked_at_none c.args.self.now drained (ap length (sym c.self.view_is) ∙ c.lawful.ensures) (λ band. ap (λ ms. has_band ms band) (sym c.self.view_is) ∙ c.self.invariant.0 c.if-not-self.true band))).1
