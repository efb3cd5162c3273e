use Rattle.std.proofs.Common.{◌-◌, ◌++◌, length, drop, codes}
use Rattle.std.specs.List.{flat_map}
use Rattle.strm_script.specs.Text.{wish_text}
use Rattle.strm_script.proofs.Reports.{IsPartly}
use Rattle.strm_script.proofs.report.WishesPiece.append.Given as goal

-- the text so far, and the wishes that are left
abbrev pub invariant-loop-id : goal.invariant-loop-id
invariant-loop-id l =
    IsPartly (l.fn.text.items ++ codes "wishes") l.text.items (flat_map wish_text (drop l.place l.pool.wishes.pending)) (flat_map wish_text l.pool.wishes.pending)

-- the wishes that are left
abbrev pub decreases-loop-id : goal.decreases-loop-id
decreases-loop-id l = length l.pool.wishes.pending - l.place
