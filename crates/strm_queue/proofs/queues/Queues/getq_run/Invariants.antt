use Rattle.std.proofs.Common.{◌-◌}
use Rattle.strm_queue.proofs.moving.Fronts.{IsLed}
use Rattle.strm_queue.proofs.queues.Queues.getq_run.Given as goal

-- what has left so far
abbrev pub invariant-loop-leaving : goal.invariant-loop-leaving
invariant-loop-leaving g l = IsLed g.R.Receiver.receives l.fn.self l.fn.blocks l.queue l.most l.rank l.fn.into l.leaving l.blocks l.into

abbrev pub decreases-loop-leaving : goal.decreases-loop-leaving
decreases-loop-leaving g l = l.most - l.leaving.len
