-- A queue without a service procedure has the target of its next queue, which comes later.
use Rattle.std.proofs.Common.{◌≡◌, ◌∙◌, Some, ap, arith, sym}
use Rattle.std.specs.Option.{option_map_or}
use Rattle.std.proofs.lemmas.Bool.{cond-false}
use Rattle.strm_pool.specs.PoolValue.{queued_blocks_of}
use Rattle.strm_queue.specs.declared.queue_spec.QueueSpec.{QueueSpec}
use Rattle.strm_queue.specs.Flow.{spec_at, target, target_from}
use Rattle.strm_scheduler.proofs.Hops.{hop_ahead}
use Rattle.strm_scheduler.proofs.Wanting.{spec_found, spec_lacks, target_past, target_step}
use Rattle.strm_scheduler.proofs.writers.+target.Goals as goal

pub returns-in_default : goal.returns-in_default
returns-in_default t c =
    let v = queued_blocks_of c.args.pool.now in
    sym (target_past v.queues.specs c.args.queue (spec_lacks v c.args.queue c.queue_spec.result c.in_default.field-0 c.queue_spec.ensures c.in_default.is))

pub target-requires : goal.target-requires
target-requires t c =
    let v = queued_blocks_of c.args.pool.now in
    let found = spec_found v c.args.queue c.queue_spec.result c.in-Ok.spec c.queue_spec.ensures c.in-Ok.is in
    let next : (spec_at v.queues.specs c.args.queue).next ≡ Some c.in-Some.next = ap (λ (s : QueueSpec). s.next) found.1 ∙ c.in-Some.is in
    (omega (arith, found.0, (hop_ahead v.queues.specs c.lawful.ensures.lawful_queues c.args.queue c.in-Some.next next).greater), tt)

pub returns-in-Some : goal.returns-in-Some
returns-in-Some t c =
    let v = queued_blocks_of c.args.pool.now in
    let found = spec_found v c.args.queue c.queue_spec.result c.in-Ok.spec c.queue_spec.ensures c.in-Ok.is in
    let step : target v.queues.specs c.args.queue ≡ target v.queues.specs c.in-Some.next =
    target_step v.queues.specs c.lawful.ensures.lawful_queues c.args.queue
    ∙ ap (target_from (target v.queues.specs) c.args.queue) found.1
    ∙ cond-false _ _ _ c.if-spec.false
    ∙ ap (λ o. option_map_or (target v.queues.specs) o c.args.queue) c.in-Some.is in
    c.target.ensures ∙ sym step
