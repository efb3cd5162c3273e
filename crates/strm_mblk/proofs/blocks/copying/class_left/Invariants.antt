use Rattle.std.proofs.Common.{◌<◌, ℕ}
use Rattle.strm_mblk.specs.Copying.{IsLeft}
use Rattle.strm_mblk.proofs.blocks.copying.class_left.Given as goal

-- the classes seen do not serve
abbrev pub invariant-loop-class : goal.invariant-loop-class
invariant-loop-class l = (k : ℕ) → k < l.class → IsLeft l.size l.stored.store.classes l.left k → ⊥
