use Rattle.std.proofs.Common.{◌≡◌, drop}
use Rattle.strm_data.specs.Classes.{sizes_rise}
use Rattle.strm_pool.proofs.config.sizes_rise.Given as goal

-- the sizes that are left rise from the last one seen as all do from 0
abbrev pub invariant-loop-class : goal.invariant-loop-class
invariant-loop-class l = sizes_rise l.below (drop l.class-index l.classes) ≡ sizes_rise 0 l.classes
