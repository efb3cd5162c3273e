-- The queues that wait are enabled, and then all are awake.
use Rattle.std.proofs.Common.{subst}
use Rattle.strm_pool.specs.PoolValue.{PoolValue}
use Rattle.strm_scheduler.specs.Running.{Starts}
use Rattle.strm_scheduler.specs.Sides.{SidesValue}
use Rattle.strm_scheduler.specs.Waits.{with_all_woken}
use Rattle.strm_scheduler.proofs.Waking.{awake_kept, begun_awake, begun_none}
use Rattle.strm_scheduler.proofs.sides.Sides.serve.Goals as goal

pub invariant_of-self : goal.invariant_of-self
invariant_of-self c =
    awake_kept c.serve.new.pool c.wake.new.self (begun_none c.self.inside.pool c.self.inside.waits c.self.invariant c.wake.new.self c.wake.ensures.waits)
    (c.serve.ensures.awake (begun_awake c.self.inside.pool c.self.inside.waits c.self.invariant c.wake.new.pool c.wake.ensures.pool))

pub returns-clause-starts : goal.returns-clause-starts
returns-clause-starts c =
    subst (λ (s : SidesValue). Starts c.args.held (with_all_woken s).pool c.serve.result c.serve.new.pool) c.self.view_is
    (subst (λ (p : PoolValue). Starts c.args.held p c.serve.result c.serve.new.pool) c.wake.ensures.pool
    (c.serve.ensures.starts (begun_awake c.self.inside.pool c.self.inside.waits c.self.invariant c.wake.new.pool c.wake.ensures.pool)))

pub returns-clause-none : goal.returns-clause-none
returns-clause-none c = begun_none c.self.inside.pool c.self.inside.waits c.self.invariant c.wake.new.self c.wake.ensures.waits
