use Rattle.std.proofs.Common.{◌==◌, ◌*◌, ◌%◌, ◌^◌, ◌∙◌, ◌/◌, bit_and, false, w64, ap, arith}
use Rattle.std.specs.Int.{bit_not}
use Rattle.std.specs.Prelude.{slice_index_or, slice_set}
use Rattle.std.proofs.lemmas.Nat.Bits.{bit_at_clear_other, bit_at_clear_same}
use Rattle.strm_queue.specs.BandSets.{bands_in}
use Rattle.strm_queue.proofs.bands.Bands.{bands-set}
use Rattle.strm_queue.proofs.band_set.BandSet.remove.Goals as goal

pub returns : goal.returns
returns c =
    let old = slice_index_or c.self.inside.words (c.args.band / 64) 0 in
    ap (λ w. bands_in (record { words = slice_set c.self.inside.words w (bit_and (slice_index_or c.self.inside.words w 0) (bit_not w64 (1 * 2 ^ (c.args.band % 64) % 2 ^ 64))) })) c.from.ensures
    ∙ bands-set c.self.inside.words c.args.band _ false (omega (arith, c.self.told, c.ranges.band)) (omega (arith, c.ranges.band)) (ap (λ n. n == 1) (bit_at_clear_same w64 old (c.args.band % 64) (omega arith)))
    (bit_at_clear_other w64 old (c.args.band % 64) (omega arith)) ∙ ap (λ ms. slice_set ms c.args.band false) c.self.view_is
