use Rattle.std.proofs.Common.{◌≡◌, ◌+◌, ◌*◌, ◌∙◌, sym, ap, arith, rules, subst}
use Rattle.strm_queue.specs.BandSets.{IsLastTo}
use Rattle.strm_queue.specs.Flow.{has_band}
use Rattle.strm_queue.proofs.bands.Bands.{last_in, none_marked, word_before}
use Rattle.strm_queue.proofs.band_set.BandSet.at_most.Goals as goal

pub returns-in-Some-clause-some : goal.returns-in-Some-clause-some
returns-in-Some-clause-some c =
    let (within, end, none) = c.loop-word.invariant in
    subst (λ ms. IsLastTo ms c.args.band (c.loop-word.word * 64 + c.in-Some.place)) c.self.view_is
    (last_in c.self.inside.words c.loop-word.word (search rules) c.args.band c.loop-word.to within end none c.in-Some.place (rw c.from.ensures at c.in-Some.ensures.some))

pub returns-in_default-clause-none : goal.returns-in_default-clause-none
returns-in_default-clause-none c x below =
    let (within, end, none) = c.loop-word.invariant in
    let before = word_before c.self.inside.words c.loop-word.word (search rules) c.args.band c.loop-word.to within end none (rw c.from.ensures at c.in_default.ensures.none) in
    let last : c.loop-word.word ≡ 0 = search rules in
    ap (λ ms. has_band ms x) (sym c.self.view_is) ∙ none_marked c.self.inside.words (c.loop-word.word * 64) (c.args.band + 1) before x (omega (arith, last)) (λ in_range. omega (arith, below))
