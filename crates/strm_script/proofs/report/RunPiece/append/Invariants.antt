use Rattle.std.proofs.Common.{◌-◌, ◌++◌, length, drop, codes}
use Rattle.std.specs.List.{flat_map}
use Rattle.strm_script.specs.Text.{waiting_text}
use Rattle.strm_script.proofs.Reports.{IsPartly}
use Rattle.strm_script.proofs.report.RunPiece.append.Given as goal

-- the text so far, and the queues of the run list that are left
abbrev pub invariant-loop-queue : goal.invariant-loop-queue
invariant-loop-queue l =
    IsPartly (l.fn.text.items ++ codes "run") l.text.items (flat_map waiting_text (drop l.place l.pool.queues.run)) (flat_map waiting_text l.pool.queues.run)

-- the queues that are left
abbrev pub decreases-loop-queue : goal.decreases-loop-queue
decreases-loop-queue l = length l.pool.queues.run - l.place
