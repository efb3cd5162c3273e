use Rattle.std.proofs.Common.{◌≡◌, drop}
use Rattle.std.specs.List.{list_all, enumerate_from}
use Rattle.strm_queue.specs.QueueSpecs.{next_fits, nexts_fit}
use Rattle.strm_pool.proofs.config.nexts_fit.Given as goal

-- the queues that are left fit as all do
abbrev pub invariant-loop-number : goal.invariant-loop-number
invariant-loop-number l = list_all (λ p. next_fits l.queues p.0 p.1.next) (enumerate_from l.number (drop l.number l.queues)) ≡ nexts_fit l.queues
