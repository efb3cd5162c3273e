use Rattle.std.proofs.Common.{ap, ◌∙◌, ◌++◌, arith, sym}
use Rattle.strm_script.specs.Text.{band_lines}
use Rattle.strm_pool.specs.PoolValue.{queued_blocks_of}
use Rattle.strm_script.proofs.Reports.{bands-start, bands-next, bands-end, told_band}
use Rattle.strm_script.proofs.report.BandsPiece.append.Goals as goal

pub loop-band-init : goal.loop-band-init
loop-band-init c = bands-start (band_lines (queued_blocks_of c.args.self.pool.now) c.args.self.queue) c.args.text.now.items

pub loop-band-preserved : goal.loop-band-preserved
loop-band-preserved c =
    bands-next (band_lines (queued_blocks_of c.args.self.pool.now) c.args.self.queue) c.args.text.now.items c.loop-band.text.items c.append.new.text.items _ c.loop-band.band (omega arith)
    (c.in_ok-append.ensures.ok ∙ ap (λ bs. c.loop-band.text.items ++ bs) (told_band (queued_blocks_of c.args.self.pool.now) c.args.self.queue c.loop-band.band c.in-Ok.info (sym c.band_info.ensures ∙ c.in-Ok.is)))
    c.loop-band.invariant

pub returns-in_ok-append-clause-ok : goal.returns-in_ok-append-clause-ok
returns-in_ok-append-clause-ok c =
    bands-end (band_lines (queued_blocks_of c.args.self.pool.now) c.args.self.queue) c.args.text.now.items c.loop-band.text.items c.append.new.text.items _ c.loop-band.band (omega arith)
    (c.in_ok-append.ensures.ok ∙ ap (λ bs. c.loop-band.text.items ++ bs) (told_band (queued_blocks_of c.args.self.pool.now) c.args.self.queue c.loop-band.band c.in-Ok.info (sym c.band_info.ensures ∙ c.in-Ok.is)))
    c.loop-band.invariant
