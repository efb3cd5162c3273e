-- If there is none, each writer that waits is refused still.
use Rattle.std.proofs.Common.{◌∙◌, sym}
use Rattle.strm_scheduler.proofs.Wanting.{all_wait}
use Rattle.strm_scheduler.proofs.writers.Writers.next.Goals as goal

pub returns-in_err-queue-clause-waits : goal.returns-in_err-queue-clause-waits
returns-in_err-queue-clause-waits c = λ none. all_wait c.args.pool.now c.lawful.ensures c.args.self.now (sym c.first_ready.ensures ∙ c.in_err-queue.was)
