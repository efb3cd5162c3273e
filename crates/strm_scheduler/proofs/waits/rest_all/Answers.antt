use Rattle.std.proofs.Common.{[], append-nil, sym}
use Rattle.strm_scheduler.proofs.waits.rest_all.Goals as goal

pub returns-then-is_some-clause-rests : goal.returns-then-is_some-clause-rests
returns-then-is_some-clause-rests g c =
    let run = c.args.pool.now.queues.run in
    record { pool = c.rest_each.ensures run [] (sym (append-nil run)) (sym c.count_enabled-enabled.ensures); entries = c.ask.ensures }

pub returns-else-is_some-clause-rests : goal.returns-else-is_some-clause-rests
returns-else-is_some-clause-rests g c =
    let run = c.args.pool.now.queues.run in
    record { pool = c.rest_each.ensures run [] (sym (append-nil run)) (sym c.count_enabled-enabled.ensures); entries = c.ask.ensures }
