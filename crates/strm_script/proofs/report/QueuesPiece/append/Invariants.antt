use Rattle.std.proofs.Common.{◌-◌, length, drop}
use Rattle.std.specs.List.{flat_map, range_with_len}
use Rattle.strm_pool.specs.PoolValue.{queued_blocks_of}
use Rattle.strm_script.specs.Text.{queue_lines, queues_text}
use Rattle.strm_script.proofs.Reports.{IsPartly}
use Rattle.strm_script.proofs.report.QueuesPiece.append.Given as goal

-- the text so far, and the lines of the queues that are left
abbrev pub invariant-loop-info : goal.invariant-loop-info
invariant-loop-info l =
    IsPartly l.fn.text.items l.text.items (flat_map (queue_lines (queued_blocks_of l.pool)) (drop l.queue (range_with_len 0 (length l.pool.queues.specs)))) (queues_text (queued_blocks_of l.pool))

-- the queues that are left
abbrev pub decreases-loop-info : goal.decreases-loop-info
decreases-loop-info l = length l.pool.queues.specs - l.queue
