use Rattle.std.proofs.Common.{◌-◌, length, drop}
use Rattle.std.specs.List.{flat_map}
use Rattle.strm_data.specs.DataStore.{class_infos}
use Rattle.strm_script.specs.Text.{class_text, classes_text}
use Rattle.strm_script.proofs.Reports.{IsPartly}
use Rattle.strm_script.proofs.report.ClassesPiece.append.Given as goal

-- the text so far, and the lines of the classes that are left
abbrev pub invariant-loop-info : goal.invariant-loop-info
invariant-loop-info l =
    IsPartly l.fn.text.items l.text.items (flat_map class_text (drop l.class (class_infos l.pool.arena.store))) (classes_text (class_infos l.pool.arena.store))

-- the classes that are left
abbrev pub decreases-loop-info : goal.decreases-loop-info
decreases-loop-info l = length (class_infos l.pool.arena.store) - l.class
