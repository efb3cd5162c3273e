use Rattle.std.proofs.Common.{◌==◌, ◌*◌, ◌%◌, ◌^◌, ◌∙◌, ◌/◌, bit_or, true, ap, arith, w64}
use Rattle.std.specs.Prelude.{slice_index_or, slice_set}
use Rattle.std.proofs.lemmas.Nat.Bits.{bit_at_set_other, bit_at_set_same}
use Rattle.strm_queue.specs.BandSets.{bands_in}
use Rattle.strm_queue.proofs.bands.Bands.{bands-set}
use Rattle.strm_queue.proofs.band_set.BandSet.insert.Goals as goal

pub returns : goal.returns
returns c =
    let old = slice_index_or c.self.inside.words (c.args.band / 64) 0 in
    ap (λ w. bands_in (record { words = slice_set c.self.inside.words w (bit_or (slice_index_or c.self.inside.words w 0) (1 * 2 ^ (c.args.band % 64) % 2 ^ 64)) })) c.from.ensures
    ∙ bands-set c.self.inside.words c.args.band _ true (omega (arith, c.self.told, c.ranges.band)) (omega (arith, c.ranges.band)) (ap (λ n. n == 1) (bit_at_set_same w64 old (c.args.band % 64) (omega arith)))
    (λ i below. bit_at_set_other w64 old (c.args.band % 64) (omega arith) i) ∙ ap (λ ms. slice_set ms c.args.band true) c.self.view_is
