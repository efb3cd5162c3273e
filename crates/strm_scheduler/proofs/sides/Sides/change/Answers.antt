-- The closure leaves the queues and the messages on them. What it freed may end the wait of queues, which are woken.
use Rattle.std.proofs.Common.{refl, subst, sym}
use Rattle.std.specs.Fn.{FnOnceReturnsAtMut}
use Rattle.strm_pool.specs.PoolValue.{PoolValue}
use Rattle.strm_scheduler.specs.Laws.{KeepsQueued}
use Rattle.strm_scheduler.specs.Sides.{SidesValue}
use Rattle.strm_scheduler.proofs.Waking.{wakes_after, woken_after}
use Rattle.strm_scheduler.proofs.sides.Sides.change.Goals as goal

pub invariant_of-self : goal.invariant_of-self
invariant_of-self g c =
    let v = c.self.inside.pool in
    let x = c.call-returned.new.arg2 in
    let gave : FnOnceReturnsAtMut g.F.FnOnce c.args.call v c.call-returned.result x = record { shown = _; shows = refl; left = _; met = c.call-returned.ensures; leaves = refl } in
    let keeps = c.requires.keeps c.call-returned.result x (subst (λ (s : SidesValue). FnOnceReturnsAtMut g.F.FnOnce c.args.call s.pool c.call-returned.result x) c.self.view_is gave) in
    woken_after v x c.wake.new.pool c.self.inside.waits c.wake.new.self c.wake.ensures.pool c.wake.ensures.waits
    (subst (λ (s : SidesValue). KeepsQueued s.pool x) (sym c.self.view_is) keeps) c.self.invariant

pub returns : goal.returns
returns g c =
    let v = c.self.inside.pool in
    let x = c.call-returned.new.arg2 in
    let gave : FnOnceReturnsAtMut g.F.FnOnce c.args.call v c.call-returned.result x = record { shown = _; shows = refl; left = _; met = c.call-returned.ensures; leaves = refl } in
    let does : PoolValue → PoolValue → Type 0 = λ v left. FnOnceReturnsAtMut g.F.FnOnce c.args.call v c.call-returned.result left in
    wakes_after does v x c.wake.new.pool c.self.inside.waits c.wake.new.self c.wake.ensures.pool c.wake.ensures.waits gave c.args.self.now c.self.view_is
