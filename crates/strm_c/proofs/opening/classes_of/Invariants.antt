use Rattle.std.proofs.Common.{◌≡◌, length, map, take}
use Rattle.strm_c.specs.Opening.{class_spec_of}
use Rattle.strm_c.proofs.opening.classes_of.Given as goal

-- the classes so far
abbrev pub invariant-loop-class : goal.invariant-loop-class
invariant-loop-class l = (l.array.items ≡ map class_spec_of (take l.class-index l.classes)) × (length l.array.items ≡ l.class-index)
