-- A service keeps all queues awake, and leaves less work.
use Rattle.std.proofs.Common.{ap, sym, ◌∙◌}
use Rattle.strm_pool.specs.PoolValue.{queued_blocks_of}
use Rattle.strm_scheduler.proofs.Beginning.{falls_begun, falls_forwarded, kept_forwarded, none_served, order_begun, served_begun}
use Rattle.strm_scheduler.proofs.serving.serve_first.Goals as goal

pub forward-requires : goal.forward-requires
forward-requires c = record { apart = c.in-Some.ensures.begun.apart }

pub returns-in_default-clause-served : goal.returns-in_default-clause-served
returns-in_default-clause-served c =
    none_served (queued_blocks_of c.args.pool.now) (c.begin.ensures.idle c.requires c.in_default.is) ∙ sym (ap queued_blocks_of (c.begin.ensures.same c.in_default.is))

pub returns-clause-awake : goal.returns-clause-awake
returns-clause-awake c =
    let begun = c.in-Some.ensures.begun in
    kept_forwarded c.in-Some.queue c.in-Some.next c.begin.new.pool begun.lawful (begun.serving c.requires) c.forward.new.pool c.in-Ok.field-0 c.in-Ok.ensures.does c.in-Ok.ensures.forwards

pub returns-clause-served : goal.returns-clause-served
returns-clause-served c =
    served_begun c.args.pool.now c.begin.new.pool c.in-Some.queue c.in-Some.next c.in-Some.ensures.begun c.forward.new.pool c.in-Ok.field-0 c.in-Ok.ensures.does

pub returns-clause-falls : goal.returns-clause-falls
returns-clause-falls c =
    let begun = c.in-Some.ensures.begun in
    λ some. falls_begun c.args.pool.now c.begin.new.pool c.in-Some.queue c.in-Some.next begun c.forward.new.pool c.in-Ok.ensures.forwards.rest.specs c.lawful.ensures
    (falls_forwarded c.in-Some.queue c.in-Some.next c.begin.new.pool begun.lawful (begun.serving c.requires) c.forward.new.pool c.in-Ok.field-0 c.in-Ok.ensures.does c.in-Ok.ensures.forwards)

pub returns-clause-order : goal.returns-clause-order
returns-clause-order c =
    order_begun c.args.pool.now c.begin.new.pool c.in-Some.queue c.in-Some.next c.in-Some.ensures.begun c.forward.new.pool c.in-Ok.field-0 c.in-Ok.ensures.does c.requires c.in-Ok.ensures.forwards
