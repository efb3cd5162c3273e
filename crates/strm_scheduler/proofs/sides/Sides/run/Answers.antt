-- The queues that wait are enabled, and then all are awake.
use Rattle.std.proofs.Common.{ap, subst, ◌∙◌}
use Rattle.strm_scheduler.specs.Sides.{KeepsOrder, SidesValue}
use Rattle.strm_scheduler.proofs.Waking.{awake_kept, begun_awake, begun_none, begun_order, begun_wishes}
use Rattle.strm_scheduler.proofs.sides.Sides.run.Goals as goal

pub serve_all-requires : goal.serve_all-requires
serve_all-requires c = begun_awake c.self.inside.pool c.self.inside.waits c.self.invariant c.wake.new.pool c.wake.ensures.pool

pub invariant_of-self : goal.invariant_of-self
invariant_of-self c =
    awake_kept c.serve_all.new.pool c.wake.new.self (begun_none c.self.inside.pool c.self.inside.waits c.self.invariant c.wake.new.self c.wake.ensures.waits) c.serve_all.ensures.awake

pub returns-clause-none : goal.returns-clause-none
returns-clause-none c = begun_none c.self.inside.pool c.self.inside.waits c.self.invariant c.wake.new.self c.wake.ensures.waits

pub returns-clause-wishes : goal.returns-clause-wishes
returns-clause-wishes c =
    c.serve_all.ensures.wishes ∙ begun_wishes c.self.inside.pool c.self.inside.waits c.self.invariant c.wake.new.pool c.wake.ensures.pool ∙ ap (λ (s : SidesValue). s.pool.wishes) c.self.view_is

pub returns-clause-order : goal.returns-clause-order
returns-clause-order c =
    subst (λ (s : SidesValue). KeepsOrder s.pool c.serve_all.new.pool) c.self.view_is
    (begun_order c.self.inside.pool c.self.inside.waits c.self.invariant c.wake.new.pool c.wake.ensures.pool c.serve_all.new.pool c.serve_all.ensures.order)
