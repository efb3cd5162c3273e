-- Where no queue waits, none is woken.
use Rattle.std.proofs.Common.{length, subst, sym}
use Rattle.strm_scheduler.specs.Sides.{NoneWaits}
use Rattle.strm_scheduler.proofs.Waking.{none_left, none_woken}
use Rattle.strm_scheduler.proofs.waits.Waits.wake.Goals as goal

pub returns-else-self-clause-waits : goal.returns-else-self-clause-waits
returns-else-self-clause-waits c =
    sym (none_left c.args.all c.args.pool.now.arena c.args.self.now (subst NoneWaits c.self.view_is (c.self.invariant c.if-self.false)))

pub returns-else-self-clause-pool : goal.returns-else-self-clause-pool
returns-else-self-clause-pool c =
    sym (none_woken c.args.all c.args.self.now c.args.pool.now (subst NoneWaits c.self.view_is (c.self.invariant c.if-self.false)) (length c.args.self.now))
