-- The first queue of the run list exists. On sides it has a next queue.
use Rattle.std.proofs.Common.{inl, inr, sym, ◌∙◌}
use Rattle.strm_scheduler.proofs.Beginning.{begun, blocked, blocked_not, none_at, refused_not}
use Rattle.strm_scheduler.proofs.starting.begin.Goals as goal

pub unreachable-requires : goal.unreachable-requires
unreachable-requires c =
    refused_not c.args.pool.now c.in-Some.queue (sym c.run_at.ensures ∙ c.in-Some.is) c.lawful.ensures c.queue_spec.result c.queue_spec.ensures
    c.in_default-queue_spec.field-0 c.in_default-queue_spec.is

-- ---- the list is empty

pub returns-in_default-clause-stops : goal.returns-in_default-clause-stops
returns-in_default-clause-stops c = λ none. inl (none_at c.args.pool.now.queues.run (sym c.run_at.ensures ∙ c.in_default.is))

pub returns-in_default-clause-idle : goal.returns-in_default-clause-idle
returns-in_default-clause-idle c = λ kept none. none_at c.args.pool.now.queues.run (sym c.run_at.ensures ∙ c.in_default.is)

-- ---- the queue has no next one

pub returns-in_default-next-clause-stops : goal.returns-in_default-next-clause-stops
returns-in_default-next-clause-stops c =
    λ none. inr (blocked c.args.pool.now c.in-Some.queue (sym c.run_at.ensures ∙ c.in-Some.is) c.lawful.ensures c.in-Ok.spec c.in-Ok.ensures c.in_default-next.is)

pub returns-in_default-next-clause-idle : goal.returns-in_default-next-clause-idle
returns-in_default-next-clause-idle c =
    let here = blocked c.args.pool.now c.in-Some.queue (sym c.run_at.ensures ∙ c.in-Some.is) c.lawful.ensures c.in-Ok.spec c.in-Ok.ensures c.in_default-next.is in
    λ kept none. absurd (blocked_not c.args.pool.now c.lawful.ensures kept.sides here)

-- ---- it is served

pub returns-clause-begun : goal.returns-clause-begun
returns-clause-begun c =
    begun c.args.pool.now c.in-Some.queue (sym c.run_at.ensures ∙ c.in-Some.is) c.lawful.ensures c.in-Ok.spec c.in-Ok.ensures c.in-Some-next.next c.in-Some-next.is
    c.next_service.new.self c.next_service.ensures.after c.lawful-2.ensures
