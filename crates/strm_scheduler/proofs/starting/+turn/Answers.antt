-- One queue goes to the end of the run list, and then others do.
use Rattle.strm_scheduler.proofs.Turning.{turn_more}
use Rattle.strm_scheduler.proofs.starting.+turn.Goals as goal

pub returns-then-count-gt0 : goal.returns-then-count-gt0
returns-then-count-gt0 t c = turn_more c.args.pool.now c.turn_first.new.pool c.turn.new.pool c.args.count c.if-count-gt0.true c.turn_first.ensures c.turn.ensures
