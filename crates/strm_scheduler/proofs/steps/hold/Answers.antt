-- The queue is enabled once the message is back, so all queues stay awake.
use Rattle.strm_scheduler.proofs.Kept.{back_held, back_refused, back_there, hold_kept, still_awake}
use Rattle.strm_scheduler.proofs.steps.hold.Goals as goal

pub enable-requires : goal.enable-requires
enable-requires c = back_there c.args.pool.now c.lawful.ensures c.args.queue c.args.token c.putbq.new.self c.in-Ok.ensures

pub returns-in-Ok-clause-puts : goal.returns-in-Ok-clause-puts
returns-in-Ok-clause-puts c =
    back_held c.args.pool.now c.lawful.ensures c.args.queue c.args.token c.putbq.new.self c.in-Ok.ensures c.enable.new.pool c.enable.ensures

pub returns-in-Ok-clause-awake : goal.returns-in-Ok-clause-awake
returns-in-Ok-clause-awake c kept =
    still_awake c.args.pool.now c.enable.new.pool (hold_kept c.args.pool.now c.lawful.ensures c.args.queue c.args.token kept.sides c.enable.new.pool (returns-in-Ok-clause-puts c).after) kept

pub returns-in-Err-clause-puts : goal.returns-in-Err-clause-puts
returns-in-Err-clause-puts c = back_refused c.args.pool.now c.lawful.ensures c.args.queue c.args.token c.putbq.new.self c.in-Err.rejected c.in-Err.ensures

pub returns-in-Err-clause-awake : goal.returns-in-Err-clause-awake
returns-in-Err-clause-awake c kept =
    still_awake c.args.pool.now c.putbq.new.self (hold_kept c.args.pool.now c.lawful.ensures c.args.queue c.args.token kept.sides c.putbq.new.self (returns-in-Err-clause-puts c).after) kept
