-- One more queue rests, or the first one gives a message. At the end only queues that are held back are left.
use Rattle.std.proofs.Common.{inl, ap, suc, sym, ◌∙◌}
use Rattle.std.specs.Option.{is_some}
use Rattle.strm_scheduler.specs.Steps.{with_queue_enabled}
use Rattle.strm_scheduler.proofs.Holding.{place_past, place_within}
use Rattle.strm_scheduler.proofs.Started.{gives, gives_awake, gives_held, rests, rests_awake, rests_held, rests_id, rests_less}
use Rattle.strm_scheduler.proofs.starting.serve.Goals as goal

-- ---- it gives a message

pub returns-in-Some-taken-clause-awake : goal.returns-in-Some-taken-clause-awake
returns-in-Some-taken-clause-awake c =
    let after = c.enable.ensures ∙ ap (with_queue_enabled c.in-Some.queue) c.put_woken_first.ensures in
    λ kept. gives_awake c.in-Some.queue c.in-Some.next c.loop-pool.pool c.begin.new.pool c.in-Some.ensures.begun c.in-Some-taken.token c.take_allowed-taken.new.pool c.in-Some-taken.ensures.takes
    c.count_enabled-enabled.result c.enable.new.pool after (c.loop-pool.invariant.awake kept)

pub returns-in-Some-taken-clause-serves : goal.returns-in-Some-taken-clause-serves
returns-in-Some-taken-clause-serves c =
    let rested = c.loop-pool.invariant.rested in
    let here = place_within c.loop-pool.pool.queues.run c.args.held (sym (ap is_some c.run_at.ensures) ∙ sym c.is_some.ensures ∙ c.loop-pool-test.true) in
    let after = c.enable.ensures ∙ ap (with_queue_enabled c.in-Some.queue) c.put_woken_first.ensures in
    let given =
    gives c.in-Some.queue c.in-Some.next c.loop-pool.pool c.begin.new.pool c.in-Some.ensures.begun c.in-Some-taken.token c.take_allowed-taken.new.pool c.in-Some-taken.ensures.takes
    c.count_enabled-enabled.result c.enable.new.pool after c.args.held c.count_enabled-enabled.ensures in
    (rested.0, c.loop-pool.pool, rested.1, here, given)

pub returns-in-Some-taken-clause-starts : goal.returns-in-Some-taken-clause-starts
returns-in-Some-taken-clause-starts c = λ kept. returns-in-Some-taken-clause-serves c

pub returns-in-Some-taken-clause-holds : goal.returns-in-Some-taken-clause-holds
returns-in-Some-taken-clause-holds c =
    let after = c.enable.ensures ∙ ap (with_queue_enabled c.in-Some.queue) c.put_woken_first.ensures in
    gives_held c.in-Some.queue c.in-Some.next c.loop-pool.pool c.begin.new.pool c.in-Some.ensures.begun c.in-Some-taken.token c.take_allowed-taken.new.pool c.in-Some-taken.ensures.takes
    c.count_enabled-enabled.result c.enable.new.pool after c.args.pool.now c.loop-pool.invariant.held c.loop-pool.invariant.id c.in-Some-taken.ensures.unheld

-- ---- it rests

pub loop-pool-preserved : goal.loop-pool-preserved
loop-pool-preserved c =
    let rested = c.loop-pool.invariant.rested in
    let here = place_within c.loop-pool.pool.queues.run c.args.held (sym (ap is_some c.run_at.ensures) ∙ sym c.is_some.ensures ∙ c.loop-pool-test.true) in
    let v = c.loop-pool.pool in
    let x = c.begin.new.pool in
    let begun = c.in-Some.ensures.begun in
    let left = c.take_allowed-taken.new.pool in
    let ended = c.in_default-taken.ensures.takes in
    let rest = c.take_allowed-taken.ensures.rest in
    let enabled = c.count_enabled-enabled.result in
    let w = c.put_woken_first.new.pool in
    let after = c.put_woken_first.ensures in
    record {
      awake = λ kept. rests_awake c.in-Some.queue c.in-Some.next v x begun left ended rest enabled w after (c.loop-pool.invariant.awake kept);
      rested = (suc rested.0, (v, rested.1, here, rests c.in-Some.queue c.in-Some.next v x begun left ended rest enabled w after c.count_enabled-enabled.ensures));
      held = rests_held c.in-Some.queue c.in-Some.next v x begun left ended rest enabled w after ∙ c.loop-pool.invariant.held;
      id = rests_id c.in-Some.queue c.in-Some.next v x begun left ended rest enabled w after ∙ c.loop-pool.invariant.id;
    }

pub loop-pool-smaller : goal.loop-pool-smaller
loop-pool-smaller c =
    rests_less c.in-Some.queue c.in-Some.next c.loop-pool.pool c.begin.new.pool c.in-Some.ensures.begun c.take_allowed-taken.new.pool c.in_default-taken.ensures.takes c.take_allowed-taken.ensures.rest
    c.count_enabled-enabled.result c.put_woken_first.new.pool c.put_woken_first.ensures

-- ---- no other queue is enabled

pub returns-clause-serves : goal.returns-clause-serves
returns-clause-serves c =
    let rested = c.loop-pool.invariant.rested in
    let past = place_past c.loop-pool.pool.queues.run c.args.held (sym (ap is_some c.run_at.ensures) ∙ sym c.is_some.ensures ∙ c.loop-pool-test.false) in
    inl (rested.0, rested.1, past)

pub returns-clause-starts : goal.returns-clause-starts
returns-clause-starts c =
    let rested = c.loop-pool.invariant.rested in
    let past = place_past c.loop-pool.pool.queues.run c.args.held (sym (ap is_some c.run_at.ensures) ∙ sym c.is_some.ensures ∙ c.loop-pool-test.false) in
    λ kept. (rested.0, rested.1, past)
