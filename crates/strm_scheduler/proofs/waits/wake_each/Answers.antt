-- One more queue was woken, or waits still.
use Rattle.std.proofs.Common.{arith, ap, length, sym, ◌∙◌, ◌≡◌, ◌||◌}
use Rattle.strm_scheduler.specs.Waits.{with_queues_woken}
use Rattle.strm_scheduler.proofs.Waking.{below_all, below_more, more_here, more_woken, none_below, none_more}
use Rattle.strm_scheduler.proofs.waits.wake_each.Goals as goal
use Rattle.strm_scheduler.proofs.waits.wake_each.Goals.{else-any, then-any}

pub loop-needs-preserved : goal.loop-needs-preserved
loop-needs-preserved c =
    let all = c.args.all in
    let old = c.args.needs.now in
    let v = c.args.pool.now in
    let k = c.loop-needs.queue in
    let now = c.loop-needs.needs in
    let new = c.wake_one-waits.new.needs in
    let before = c.loop-needs.invariant in
    let step = c.wake_one-waits.ensures in
    let here = more_here all v c.loop-needs.pool k old now before.table before.pool _ step.here in
    let either : c.if-any.any ≡ (c.loop-needs.any || c.wake_one-waits.result) =
    elim c.if-any.branch [
      | then-any w ↦ w.any-is ∙ w.if-any.true ∙ sym (ap (λ b. b || c.wake_one-waits.result) w.if-any.true)
      | else-any w ↦ w.any-is ∙ sym (ap (λ b. b || c.wake_one-waits.result) w.if-any.false)
    ] in
    record {
      within = omega (arith, c.loop-needs-test.true, c.from.ensures);
      pool = more_woken all v c.loop-needs.pool k old now before.table before.pool c.wake_one-waits.new.pool step.pool;
      table = below_more all v.arena k old now new before.table here step.others;
      long = step.long ∙ before.long;
      none = none_more all v.arena k old now new before.table here step.others c.loop-needs.any c.wake_one-waits.result c.if-any.any step.left either before.none;
    }

pub returns-clause-waits : goal.returns-clause-waits
returns-clause-waits c =
    let before = c.loop-needs.invariant in
    below_all c.args.all c.args.pool.now.arena c.loop-needs.queue c.args.needs.now c.loop-needs.needs before.table before.long
    (omega (arith, c.loop-needs-test.false, c.from.ensures, c.told-needs))

pub returns-clause-none : goal.returns-clause-none
returns-clause-none c none =
    let before = c.loop-needs.invariant in
    none_below c.loop-needs.queue c.loop-needs.needs (omega (arith, c.loop-needs-test.false, c.from.ensures, c.told-needs, before.long)) (before.none none)

pub returns-clause-pool : goal.returns-clause-pool
returns-clause-pool c =
    let before = c.loop-needs.invariant in
    let all_of : c.loop-needs.queue ≡ length c.args.needs.now = omega (arith, c.loop-needs-test.false, c.from.ensures, c.told-needs, before.within) in
    before.pool ∙ ap (λ k. with_queues_woken c.args.all c.args.needs.now k c.args.pool.now) all_of
