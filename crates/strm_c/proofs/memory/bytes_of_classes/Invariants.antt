use Rattle.std.proofs.Common.{◌≡◌, take}
use Rattle.std.specs.Prelude.{sum_by}
use Rattle.strm_c.specs.Memory.{bytes_of_class}
use Rattle.strm_c.proofs.memory.bytes_of_classes.Given as goal

-- the bytes of the classes so far
abbrev pub invariant-loop-class : goal.invariant-loop-class
invariant-loop-class l = l.bytes ≡ sum_by bytes_of_class (take l.class-index l.classes)
