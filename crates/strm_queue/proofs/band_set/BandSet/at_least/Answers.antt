use Rattle.std.proofs.Common.{◌+◌, ◌*◌, ◌∙◌, sym, ap, arith, rules, subst}
use Rattle.strm_queue.specs.BandSets.{IsFirstFrom}
use Rattle.strm_queue.specs.Flow.{has_band}
use Rattle.strm_queue.proofs.bands.Bands.{first_in, none_marked}
use Rattle.strm_queue.proofs.band_set.BandSet.at_least.Goals as goal

pub returns-in-Some-clause-some : goal.returns-in-Some-clause-some
returns-in-Some-clause-some c =
    subst (λ ms. IsFirstFrom ms c.args.band (c.loop-word.word * 64 + c.in-Some.place)) c.self.view_is
    (first_in c.self.inside.words c.loop-word.word (search rules) c.args.band c.loop-word.from c.loop-word.invariant.1 c.loop-word.invariant.2 c.in-Some.place
    (rw c.from.ensures at c.in-Some.ensures.some))

pub returns-clause-none : goal.returns-clause-none
returns-clause-none c x above =
    ap (λ ms. has_band ms x) (sym c.self.view_is)
    ∙ none_marked c.self.inside.words c.args.band (c.loop-word.word * 64 + c.loop-word.from) c.loop-word.invariant.2 x above (λ in_range. omega (arith, in_range, c.loop-word-test.false))
