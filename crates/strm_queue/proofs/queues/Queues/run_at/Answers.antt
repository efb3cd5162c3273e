use Rattle.std.proofs.Common.{arith}
use Rattle.std.proofs.lemmas.Grind.{common_steps}
use Rattle.strm_queue.proofs.Laid.{run_fits, run_within}
use Rattle.strm_queue.proofs.queues.Queues.run_at.Goals as goal

pub overflow_cast-result : goal.overflow_cast-result
overflow_cast-result c = grind (arith, common_steps, run_fits, run_within)
