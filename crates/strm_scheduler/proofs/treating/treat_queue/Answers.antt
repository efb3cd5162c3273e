-- One more message was treated. Where the service ends, messages have moved, or nothing has changed before.
use Rattle.std.proofs.Common.{◌+◌, ap, arith, inl, inr, refl, subst, suc, sym, zero, ◌∙◌}
use Rattle.strm_pool.specs.PoolValue.{PoolValue}
use Rattle.strm_scheduler.specs.Laws.{AreKeptAwake}
use Rattle.strm_scheduler.specs.Modules.{AreTreated, IsMet, PassesOne}
use Rattle.strm_scheduler.specs.Serving.{weigh}
use Rattle.strm_scheduler.proofs.Beginning.{order_more}
use Rattle.strm_scheduler.proofs.Ordering.{order_alike}
use Rattle.strm_scheduler.proofs.Holding.{enabled_specs, kept_enabled, there_same}
use Rattle.strm_scheduler.proofs.Looping.{begun, ended_whole, further}
use Rattle.strm_scheduler.proofs.Needing.{never_held}
use Rattle.strm_scheduler.proofs.Treated.{falls_ended, moved_more}
use Rattle.strm_scheduler.proofs.treating.treat_queue.Goals as goal

pub loop-pool-init : goal.loop-pool-init
loop-pool-init g c = record { serving = c.requires.serving; met = c.requires.met; treated = (zero, (refl, refl)); moved = inl refl; order = λ passes end rank last there. refl; on = λ passes. (zero, begun c.args.queue c.args.next c.args.pool.now); specs = refl }

pub loop-pool-preserved : goal.loop-pool-preserved
loop-pool-preserved g c =
    let before = c.loop-pool.invariant in
    let step = c.loop-pool-test.ensures in
    record {
      serving = step.serving refl;
      met = c.held_back.ensures.met c.in_default.is;
      treated = (suc before.treated.0, (c.loop-pool.handler, c.loop-pool.pool, before.treated.1, step.treated refl));
      moved = inr (moved_more (PassesOne g.M.Module.treats) c.args.pool.now c.loop-pool.pool c.treat_one.new.pool before.moved (step.less refl));
      order = λ passes. order_more c.args.pool.now c.loop-pool.pool c.treat_one.new.pool before.specs (before.order passes) (step.order passes);
      on = λ passes.
          let on = before.on passes in
          let hands = step.hands refl passes in
          (on.0 + 1, further c.args.queue c.args.next c.args.pool.now on.0 c.loop-pool.pool c.treat_one.new.pool on.1 hands.1 hands.0);
      specs = step.specs ∙ before.specs;
    }

-- ---- a message is held back

pub enable-requires : goal.enable-requires
enable-requires g c = there_same c.args.queue c.args.pool.now c.treat_one.new.pool (c.loop-pool-test.ensures.specs ∙ c.loop-pool.invariant.specs) c.requires.behind

pub returns-in-Some-clause-awake : goal.returns-in-Some-clause-awake
returns-in-Some-clause-awake g c = subst AreKeptAwake (sym c.enable.ensures) (kept_enabled c.args.queue c.args.next c.treat_one.new.pool (c.loop-pool-test.ensures.serving refl))

pub returns-in-Some-clause-treated : goal.returns-in-Some-clause-treated
returns-in-Some-clause-treated g c =
    let before = c.loop-pool.invariant in
    record {
      count = suc before.treated.0;
      last = c.treat_one.new.pool;
      treated = (c.loop-pool.handler, c.loop-pool.pool, before.treated.1, c.loop-pool-test.ensures.treated refl);
      ends = inr (c.in-Some._ever, c.in-Some.ensures.held, c.enable.ensures);
      wishes = ap (λ (p : PoolValue). p.wishes) c.enable.ensures;
    }

pub returns-in-Some-clause-falls : goal.returns-in-Some-clause-falls
returns-in-Some-clause-falls g c =
    λ passes.
    let less = moved_more (PassesOne g.M.Module.treats) c.args.pool.now c.loop-pool.pool c.treat_one.new.pool c.loop-pool.invariant.moved (c.loop-pool-test.ensures.less refl) passes in
    inl (omega (arith, less, ap (λ (p : PoolValue). weigh p.arena.shelves) c.enable.ensures))

pub returns-in-Some-clause-order : goal.returns-in-Some-clause-order
returns-in-Some-clause-order g c =
    let before = c.loop-pool.invariant in
    let step = c.loop-pool-test.ensures in
    let v = c.args.pool.now in
    let x = c.treat_one.new.pool in
    λ passes.
    order_more v x c.enable.new.pool (step.specs ∙ before.specs) (order_more v c.loop-pool.pool x before.specs (before.order passes) (step.order passes))
    (order_alike x c.enable.new.pool (ap (λ (p : PoolValue). p.arena.store) c.enable.ensures) (ap (λ (p : PoolValue). p.arena.shelves) c.enable.ensures))

pub returns-in-Some-clause-forwards : goal.returns-in-Some-clause-forwards
returns-in-Some-clause-forwards g c =
    λ nothing passes. absurd (never_held g.M.Module.needs c.treat_one.new.handler c.args.queue c.treat_one.new.pool c.in-Some._ever nothing c.in-Some.ensures.held)

pub returns-in-Some-clause-specs : goal.returns-in-Some-clause-specs
returns-in-Some-clause-specs g c =
    ap (λ (p : PoolValue). p.queues.specs) c.enable.ensures ∙ enabled_specs c.args.queue c.treat_one.new.pool ∙ c.loop-pool-test.ensures.specs ∙ c.loop-pool.invariant.specs

-- ---- none is left, or one may not go

pub returns-clause-treated : goal.returns-clause-treated
returns-clause-treated g c =
    let before = c.loop-pool.invariant in
    let step = c.loop-pool-test.ensures in
    let same = sym (step.rest refl).0 in
    record {
      count = before.treated.0;
      last = c.loop-pool.pool;
      treated = subst (λ k. AreTreated g.M.Module.needs g.M.Module.treats c.args.queue c.args.next before.treated.0 c.args.handler.now c.args.pool.now k c.loop-pool.pool) same before.treated.1;
      ends = inl (subst (λ k. IsMet g.M.Module.needs k c.args.queue c.loop-pool.pool) same before.met, step.ends refl);
      wishes = (step.rest refl).1;
    }

pub returns-clause-order : goal.returns-clause-order
returns-clause-order g c =
    let before = c.loop-pool.invariant in
    λ passes. order_more c.args.pool.now c.loop-pool.pool c.treat_one.new.pool before.specs (before.order passes) (c.loop-pool-test.ensures.order passes)

pub returns-clause-forwards : goal.returns-clause-forwards
returns-clause-forwards g c =
    λ nothing passes.
    let on = c.loop-pool.invariant.on passes in
    (on.0, ended_whole c.args.queue c.args.next c.args.pool.now on.0 c.loop-pool.pool c.treat_one.new.pool on.1 (c.loop-pool-test.ensures.ends refl))

pub returns-clause-falls : goal.returns-clause-falls
returns-clause-falls g c =
    falls_ended (PassesOne g.M.Module.treats) c.args.queue c.args.pool.now c.loop-pool.pool c.treat_one.new.pool c.loop-pool.invariant.moved (c.loop-pool-test.ensures.same refl) (c.loop-pool-test.ensures.run refl)

pub loop-pool-smaller : goal.loop-pool-smaller
loop-pool-smaller g c = c.loop-pool-test.ensures.fewer refl
