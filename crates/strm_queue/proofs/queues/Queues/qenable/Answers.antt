use Rattle.std.proofs.Common.{subst, sym, true}
use Rattle.strm_queue.specs.QueuedBlocks.{Agrees}
use Rattle.strm_queue.proofs.Agreeing.{agrees_enabled}
use Rattle.strm_queue.proofs.queues.Queues.qenable.Goals as goal

pub returns-clause-agrees : goal.returns-clause-agrees
returns-clause-agrees c arena agrees = subst (λ v. Agrees v arena) (sym c.enable.ensures) (agrees_enabled c.args.self.now arena true c.args.queue agrees)
