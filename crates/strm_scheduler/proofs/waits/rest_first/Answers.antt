-- It does not wait, and is enabled again.
use Rattle.std.proofs.Common.{sym, ◌∙◌}
use Rattle.strm_scheduler.proofs.Resting.{first_given, rest_on}
use Rattle.strm_scheduler.proofs.waits.rest_first.Goals as goal

pub returns-then-not-has : goal.returns-then-not-has
returns-then-not-has c =
    rest_on c.args.pool.now c.next_service.new.self c.qenable.new.self c.lawful.ensures c.in-Some.queue c.next_service.ensures.after
    (first_given c.args.pool.now.queues.run c.next_service.result c.in-Some.queue c.next_service.ensures.answer c.in-Some.is) c.qenable.ensures.after c.args.waits.now (sym c.has.ensures ∙ c.if-not-has.true)
