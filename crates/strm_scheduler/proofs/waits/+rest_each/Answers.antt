-- One queue leaves the run list, and then others do.
use Rattle.strm_scheduler.proofs.Resting.{rest_more}
use Rattle.strm_scheduler.proofs.waits.+rest_each.Goals as goal

pub returns-then-count-gt0 : goal.returns-then-count-gt0
returns-then-count-gt0 t c = rest_more c.args.waits.now c.args.pool.now c.rest_first.new.pool c.rest_each.new.pool c.args.count c.if-count-gt0.true c.rest_first.ensures c.rest_each.ensures
