use Rattle.std.proofs.Common.{true, false, arith, ap, sym, ◌∙◌, get_or-set_same}
use Rattle.std.proofs.lemmas.Bool.{false≢true}
use Rattle.strm_queue.specs.Flow.{has_band}
use Rattle.strm_queue.proofs.band_set.Wanted.insert.Goals as goal

pub invariant_of-self : goal.invariant_of-self
invariant_of-self c = (
  λ no. absurd (false≢true (sym no)),
  λ none. sym (ap (λ s. has_band s c.args.band) c.insert.ensures ∙ get_or-set_same c.self.inside.set c.args.band true false (omega (arith, c.ranges.band.fits, c.marks_each.ensures))) ∙ none c.args.band,
)
