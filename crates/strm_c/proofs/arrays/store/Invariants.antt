use Rattle.std.proofs.Common.{◌≡◌, map}
use Rattle.strm_c.specs.Exports.{array_with}
use Rattle.strm_c.specs.InC.{block_in_c}
use Rattle.strm_c.proofs.arrays.store.Given as goal

-- what was stored so far
abbrev pub invariant-loop-place : goal.invariant-loop-place
invariant-loop-place l = l.into ≡ array_with l.place (map block_in_c l.blocks) l.fn.into
