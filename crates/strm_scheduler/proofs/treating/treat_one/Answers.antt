-- A message that was treated left its queue, and its steps keep all other queues awake. If none was, all queues are awake.
use Rattle.std.proofs.Common.{arith, ◌∙◌}
use Rattle.strm_scheduler.proofs.Moving.{there_still}
use Rattle.strm_scheduler.proofs.Needing.{ready}
use Rattle.strm_scheduler.proofs.Stepping.{stepped_few, stepped_serving, stepped_specs, stepped_weighs}
use Rattle.strm_scheduler.proofs.Treated.{awake_ended, fewer_taken, hands_passed, less_taken, next_there, order_ended, order_passed, q_apart, queue_there, run_ended, serving_taken, weigh_ended}
use Rattle.strm_scheduler.proofs.treating.treat_one.Goals as goal

pub take_allowed-requires-clause-apart : goal.take_allowed-requires-clause-apart
take_allowed-requires-clause-apart g c = q_apart c.args.queue c.args.next c.args.pool.now c.lawful.ensures c.requires.serving

pub take_allowed-requires-clause-ahead : goal.take_allowed-requires-clause-ahead
take_allowed-requires-clause-ahead g c = next_there c.args.queue c.args.next c.args.pool.now c.lawful.ensures c.requires.serving

-- ---- none is taken

pub returns-in_default-clause-awake : goal.returns-in_default-clause-awake
returns-in_default-clause-awake g c =
    λ none. awake_ended c.args.queue c.args.next c.args.pool.now c.lawful.ensures c.requires.serving c.take_allowed.new.pool c.in_default.ensures.takes c.take_allowed.ensures.rest.specs

pub returns-in_default-clause-same : goal.returns-in_default-clause-same
returns-in_default-clause-same g c = λ none. weigh_ended c.args.queue c.args.next c.args.pool.now c.lawful.ensures c.requires.serving c.take_allowed.new.pool c.in_default.ensures.takes

pub returns-in_default-clause-run : goal.returns-in_default-clause-run
returns-in_default-clause-run g c = λ none. run_ended c.args.queue c.args.next c.args.pool.now c.lawful.ensures c.requires.serving c.take_allowed.new.pool c.in_default.ensures.takes

pub returns-in_default-clause-order : goal.returns-in_default-clause-order
returns-in_default-clause-order g c = λ passes. order_ended c.args.queue c.args.next c.args.pool.now c.lawful.ensures c.requires.serving c.take_allowed.new.pool c.in_default.ensures.takes

-- ---- one is treated

pub treat-requires-clause-has : goal.treat-requires-clause-has
treat-requires-clause-has g c = c.in-Some.ensures.takes.had

pub treat-requires-clause-met : goal.treat-requires-clause-met
treat-requires-clause-met g c =
    ready g.M.Module.needs c.args.handler.now c.args.queue c.args.next c.args.pool.now c.take_allowed.new.pool c.in-Some.token c.in-Some.ensures.takes c.lawful.ensures
    (queue_there c.args.queue c.args.next c.args.pool.now c.lawful.ensures c.requires.serving) c.requires.met

pub treat-requires-clause-ahead : goal.treat-requires-clause-ahead
treat-requires-clause-ahead g c =
    there_still c.args.pool.now c.take_allowed.new.pool c.args.next c.take_allowed.ensures.rest (next_there c.args.queue c.args.next c.args.pool.now c.lawful.ensures c.requires.serving)

pub treat-requires-clause-apart : goal.treat-requires-clause-apart
treat-requires-clause-apart g c = q_apart c.args.queue c.args.next c.args.pool.now c.lawful.ensures c.requires.serving

pub returns-clause-serving : goal.returns-clause-serving
returns-clause-serving g c =
    let taken = serving_taken c.args.queue c.args.next c.args.pool.now c.lawful.ensures c.requires.serving c.in-Some.token c.take_allowed.new.pool c.in-Some.ensures.takes in
    λ some. stepped_serving c.args.queue c.args.next c.take_allowed.new.pool c.lawful-2.ensures taken c.treat.new.pool c.treat.ensures.0 c.treat.ensures.2

pub returns-clause-treated : goal.returns-clause-treated
returns-clause-treated g c =
    λ some. record {
      token = c.in-Some.token;
      held = c.take_allowed.new.pool;
      taken = c.in-Some.ensures.takes;
      ready = ready g.M.Module.needs c.args.handler.now c.args.queue c.args.next c.args.pool.now c.take_allowed.new.pool c.in-Some.token c.in-Some.ensures.takes c.lawful.ensures
          (queue_there c.args.queue c.args.next c.args.pool.now c.lawful.ensures c.requires.serving) c.requires.met;
      steps = c.treat.ensures.0;
      treated = c.treat.ensures.1;
      stepped = c.treat.ensures.2;
    }

pub returns-clause-fewer : goal.returns-clause-fewer
returns-clause-fewer g c =
    let v = c.args.pool.now in
    let x = c.take_allowed.new.pool in
    let taken = serving_taken c.args.queue c.args.next v c.lawful.ensures c.requires.serving c.in-Some.token x c.in-Some.ensures.takes in
    let fewer = fewer_taken c.args.queue c.args.next v c.lawful.ensures c.requires.serving c.in-Some.token x c.in-Some.ensures.takes in
    let few = stepped_few c.args.queue c.args.next x c.lawful-2.ensures taken c.treat.new.pool c.treat.ensures.0 c.treat.ensures.2 in
    λ some. omega (arith, fewer, few)

pub returns-clause-less : goal.returns-clause-less
returns-clause-less g c =
    let v = c.args.pool.now in
    let x = c.take_allowed.new.pool in
    let taken = serving_taken c.args.queue c.args.next v c.lawful.ensures c.requires.serving c.in-Some.token x c.in-Some.ensures.takes in
    λ some passes.
    let one = passes c.args.handler.now c.treat.new.self x c.treat.new.pool c.args.queue c.args.next c.in-Some.token c.treat.ensures.0 c.treat.ensures.1 in
    less_taken c.args.queue c.args.next v c.lawful.ensures c.requires.serving c.in-Some.token x c.in-Some.ensures.takes _
    (stepped_weighs c.args.queue c.args.next x c.lawful-2.ensures taken c.treat.new.pool c.treat.ensures.0 c.treat.ensures.2 one)

pub returns-clause-order : goal.returns-clause-order
returns-clause-order g c =
    let v = c.args.pool.now in
    let x = c.take_allowed.new.pool in
    λ passes.
    order_passed c.args.queue c.args.next v c.lawful.ensures c.requires.serving c.in-Some.token x c.in-Some.ensures.takes c.treat.new.pool c.treat.ensures.0
    (passes c.args.handler.now c.treat.new.self x c.treat.new.pool c.args.queue c.args.next c.in-Some.token c.treat.ensures.0 c.treat.ensures.1) c.treat.ensures.2

pub returns-clause-hands : goal.returns-clause-hands
returns-clause-hands g c =
    let v = c.args.pool.now in
    let x = c.take_allowed.new.pool in
    λ some passes.
    hands_passed c.args.queue c.args.next v c.lawful.ensures c.requires.serving c.in-Some.token x c.in-Some.ensures.takes c.take_allowed.ensures.rest c.in-Some.ensures.unheld c.treat.new.pool c.treat.ensures.0
    (passes c.args.handler.now c.treat.new.self x c.treat.new.pool c.args.queue c.args.next c.in-Some.token c.treat.ensures.0 c.treat.ensures.1) c.treat.ensures.2

pub returns-clause-specs : goal.returns-clause-specs
returns-clause-specs g c =
    let taken = serving_taken c.args.queue c.args.next c.args.pool.now c.lawful.ensures c.requires.serving c.in-Some.token c.take_allowed.new.pool c.in-Some.ensures.takes in
    stepped_specs c.args.queue c.args.next c.take_allowed.new.pool c.lawful-2.ensures taken c.treat.new.pool c.treat.ensures.0 c.treat.ensures.2 ∙ c.take_allowed.ensures.rest.specs
