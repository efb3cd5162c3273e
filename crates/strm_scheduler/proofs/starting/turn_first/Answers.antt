-- It is enabled again.
use Rattle.strm_scheduler.proofs.Resting.{first_given, turn_on}
use Rattle.strm_scheduler.proofs.starting.turn_first.Goals as goal

pub returns-in-Some : goal.returns-in-Some
returns-in-Some c =
    turn_on c.args.pool.now c.next_service.new.self c.qenable.new.self c.lawful.ensures c.in-Some.queue c.next_service.ensures.after
    (first_given c.args.pool.now.queues.run c.next_service.result c.in-Some.queue c.next_service.ensures.answer c.in-Some.is) c.qenable.ensures.after
