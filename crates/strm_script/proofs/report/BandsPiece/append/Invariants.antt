use Rattle.std.proofs.Common.{◌+◌}
use Rattle.std.specs.List.{flat_map}
use Rattle.strm_pool.specs.PoolValue.{queued_blocks_of}
use Rattle.strm_script.specs.Text.{band_lines, bands_text}
use Rattle.strm_script.proofs.Reports.{IsPartly, downwards}
use Rattle.strm_script.proofs.report.BandsPiece.append.Given as goal

-- the text so far, and the lines of the bands that are left
abbrev pub invariant-loop-band : goal.invariant-loop-band
invariant-loop-band l =
    IsPartly l.fn.text.items l.text.items (flat_map (band_lines (queued_blocks_of l.self.pool.now) l.self.queue) (downwards (l.band + 1))) (bands_text (queued_blocks_of l.self.pool.now) l.self.queue)
