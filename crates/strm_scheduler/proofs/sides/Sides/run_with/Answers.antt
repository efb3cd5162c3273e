-- The queues that wait are enabled, and then all are awake. If queues are held back in the end, those rest that wait for blocks.
use Rattle.std.proofs.Common.{refl, subst}
use Rattle.strm_pool.specs.PoolValue.{PoolValue}
use Rattle.strm_scheduler.specs.Modules.{IsRunWith}
use Rattle.strm_scheduler.specs.Sides.{SidesValue}
use Rattle.strm_scheduler.specs.Waits.{with_all_woken}
use Rattle.strm_scheduler.proofs.Waking.{awake_kept, begun_awake, begun_none}
use Rattle.strm_scheduler.proofs.Resting.{rests_kept}
use Rattle.strm_scheduler.proofs.sides.Sides.run_with.Goals as goal

pub treat_all-requires-clause-awake : goal.treat_all-requires-clause-awake
treat_all-requires-clause-awake g c = begun_awake c.self.inside.pool c.self.inside.waits c.self.invariant c.wake.new.pool c.wake.ensures.pool

pub invariant_of-self : goal.invariant_of-self
invariant_of-self g c =
    rests_kept g.M.Module.needs c.treat_all.new.handler c.treat_all.new.pool (record { pool = c.rest_all.new.pool; waits = c.rest_all.new.waits }) c.treat_all.ensures.awake c.rest_all.ensures.rests

pub invariant_of-self-in_default : goal.invariant_of-self-in_default
invariant_of-self-in_default g c =
    awake_kept c.treat_all.new.pool c.wake.new.self (begun_none c.self.inside.pool c.self.inside.waits c.self.invariant c.wake.new.self c.wake.ensures.waits) c.treat_all.ensures.awake

pub returns-in_default : goal.returns-in_default
returns-in_default g c = record {
  left = c.treat_all.new.pool;
  before = c.treat_all.result;
  ran =
      subst (λ (s : SidesValue). IsRunWith g.M.Module.needs g.M.Module.treats c.args.budget c.args.handler.now (with_all_woken s).pool c.treat_all.result c.treat_all.new.handler c.treat_all.new.pool) c.self.view_is
      (subst (λ (p : PoolValue). IsRunWith g.M.Module.needs g.M.Module.treats c.args.budget c.args.handler.now p c.treat_all.result c.treat_all.new.handler c.treat_all.new.pool) c.wake.ensures.pool c.treat_all.ensures.ran);
  rests = λ is. absurd (c.in_default.not-HeldBack is);
  ends = λ not. (refl, begun_none c.self.inside.pool c.self.inside.waits c.self.invariant c.wake.new.self c.wake.ensures.waits, refl);
}
