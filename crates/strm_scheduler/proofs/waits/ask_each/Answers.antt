-- One more entry is written.
use Rattle.std.proofs.Common.{arith, refl, set, subst, sym, length-set, ℕ, ◌+◌, ◌<◌, ◌∙◌}
use Rattle.strm_scheduler.specs.Sides.{need_at}
use Rattle.strm_scheduler.specs.Waits.{IsEntry}
use Rattle.strm_scheduler.proofs.Resting.{entries_all, entries_more}
use Rattle.strm_scheduler.proofs.waits.ask_each.Goals as goal

pub loop-needs-init : goal.loop-needs-init
loop-needs-init g c = record { within = omega arith; long = refl; done = λ q below. absurd (omega (arith, below)) }

pub loop-needs-preserved : goal.loop-needs-preserved
loop-needs-preserved g c =
    let before = c.loop-needs.invariant in
    let place = c.from-in-loop-needs.result in
    record {
      within = omega (arith, c.loop-needs-test.true, c.from.ensures);
      long = length-set c.loop-needs.needs place c.entry_of.result ∙ before.long;
      done =
          subst (λ k. (q : ℕ) → q < c.loop-needs.queue + 1 → IsEntry g.M.Module.needs c.args.handler.now q c.args.pool.now (need_at (set c.loop-needs.needs k c.entry_of.result) q)) (sym c.from-in-loop-needs.ensures)
          (entries_more g.M.Module.needs c.args.handler.now c.args.pool.now c.loop-needs.queue c.loop-needs.needs c.entry_of.result
          (omega (arith, c.loop-needs-test.true, c.from.ensures, c.told-needs, before.long)) before.done c.entry_of.ensures);
    }

pub returns : goal.returns
returns g c =
    let before = c.loop-needs.invariant in
    entries_all g.M.Module.needs c.args.handler.now c.args.pool.now c.lawful.ensures c.loop-needs.queue c.loop-needs.needs
    (omega (arith, c.loop-needs-test.false, c.from.ensures, c.lawful.ensures.few_queues))
    (omega (arith, c.loop-needs-test.false, c.from.ensures, c.told-needs, before.long)) before.done
