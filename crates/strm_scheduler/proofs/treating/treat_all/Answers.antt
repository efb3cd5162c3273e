-- One more queue was served, or found held back. At the end, each one on the run list is held back, or the budget is spent.
use Rattle.std.proofs.Common.{inl, inr, ◌<◌, ap, arith, false, length, refl, subst, suc, sym, true, zero, [], ◌∷◌, ◌∙◌}
use Rattle.std.proofs.lemmas.Bool.{false≢true}
use Rattle.std.specs.Option.{is_some}
use Rattle.strm_scheduler.specs.Waits.{work_left}
use Rattle.strm_pool.specs.PoolValue.{PoolValue, queued_blocks_of}
use Rattle.strm_scheduler.specs.Modules.{IsTurned, turns_moves}
use Rattle.strm_scheduler.specs.Steps.{AreMoved}
use Rattle.strm_scheduler.proofs.Accounting.{turns_moved}
use Rattle.strm_scheduler.proofs.Beginning.{order_more, served_more, served_none}
use Rattle.strm_scheduler.proofs.Holding.{IsLeft, left_done, last_all, last_more, last_none, left_none, left_served, left_spent, left_within, left_without, none_long, place_past, place_within, served_left, turned_left}
use Rattle.strm_scheduler.proofs.treating.treat_all.Goals as goal

pub loop-left-init : goal.loop-left-init
loop-left-init g c = record {
  awake = c.requires.awake;
  last = last_none g.M.Module.needs c.args.handler.now c.args.pool.now;
  turns = ([], (refl, refl), left_none c.args.budget, refl);
  fresh = λ spent. refl;
  order = λ passes end rank last there. refl;
  served = λ nothing passes. (zero, served_none (queued_blocks_of c.args.pool.now));
  specs = refl;
}

pub treat_first-requires : goal.treat_first-requires
treat_first-requires g c = record {
  awake = c.loop-left.invariant.awake;
  some = let here = place_within c.loop-left.pool.queues.run c.loop-left.count (sym (ap is_some c.run_at.ensures) ∙ sym c.is_some.ensures ∙ c.loop-left-test.true) in omega (arith, here);
}

-- ---- the budget is spent

pub returns-then-is_spent-clause-ran : goal.returns-then-is_spent-clause-ran
returns-then-is_spent-clause-ran g c =
    let before = c.loop-left.invariant in
    let here = place_within c.loop-left.pool.queues.run c.loop-left.count (sym (ap is_some c.run_at.ensures) ∙ sym c.is_some.ensures ∙ c.loop-left-test.true) in
    let spent = sym c.is_spent.ensures ∙ c.if-is_spent.true in
    record {
      turns = before.turns.0;
      module_left = c.loop-left.handler;
      pool_left = c.loop-left.pool;
      taken = before.turns.1;
      within = left_within c.args.budget c.loop-left.left before.turns.0 before.turns.2;
      spent = λ is. left_spent c.args.budget c.loop-left.left before.turns.0 spent before.turns.2;
      stops = λ all. inl refl;
      ends = (refl, refl, omega (arith, here), before.turns.3 ∙ before.fresh spent);
      moved = turns_moved g.M.Module.needs g.M.Module.treats before.turns.0 c.args.handler.now c.args.pool.now c.loop-left.handler c.loop-left.pool before.turns.1 c.lawful.ensures.shelves;
      order = before.order;
      served = before.served;
    }

-- ---- a queue was served

pub loop-left-smaller-in-None : goal.loop-left-smaller-in-None
loop-left-smaller-in-None g c =
    let before = c.loop-left.invariant in
    subst (λ o. work_left o c.treat_first.new.pool 0 < work_left c.loop-left.left c.loop-left.pool c.loop-left.count) (sym c.one_less-left.ensures)
    (served_left c.loop-left.pool c.treat_first.new.pool c.loop-left.left c.loop-left.count (sym c.is_spent.ensures ∙ c.if-is_spent.false)
    (λ none. c.treat_first.ensures.falls c.in-None.is (c.requires.ends (left_without c.args.budget c.loop-left.left before.turns.0 before.turns.2 none)))
    (omega (arith, c.treat_first.ensures.short c.in-None.is, ap length c.treat_first.ensures.specs, c.lawful-in-loop-left.ensures.few_queues)))

pub loop-left-preserved-in-None : goal.loop-left-preserved-in-None
loop-left-preserved-in-None g c =
    let before = c.loop-left.invariant in
    let step = c.treat_first.ensures in
    record {
      awake = step.awake;
      last = last_none g.M.Module.needs c.treat_first.new.handler c.treat_first.new.pool;
      turns = (
        true ∷ before.turns.0,
        (c.loop-left.handler, c.loop-left.pool, before.turns.1, step.treated c.in-None.is),
        subst (λ o. IsLeft c.args.budget o (true ∷ before.turns.0)) (sym c.one_less-left.ensures)
            (left_served c.args.budget c.loop-left.left before.turns.0 (sym c.is_spent.ensures ∙ c.if-is_spent.false) before.turns.2),
        refl,
      );
      fresh = λ spent. refl;
      order = λ passes. order_more c.args.pool.now c.loop-left.pool c.treat_first.new.pool before.specs (before.order passes) (step.order passes);
      served = λ nothing passes.
          let some = before.served nothing passes in
          (suc some.0, served_more some.0 (queued_blocks_of c.args.pool.now) (queued_blocks_of c.loop-left.pool) (queued_blocks_of c.treat_first.new.pool) some.1 (step.served nothing passes));
      specs = step.specs ∙ before.specs;
    }

-- ---- a queue is held back

pub loop-left-smaller : goal.loop-left-smaller
loop-left-smaller g c =
    turned_left g.M.Module.needs c.loop-left.handler c.treat_first.new.handler c.loop-left.pool c.treat_first.new.pool c.loop-left.left c.loop-left.count c.in-Some.held.queue c.in-Some.held.ever
    c.in-Some.ensures.turned
    (place_within c.loop-left.pool.queues.run c.loop-left.count (sym (ap is_some c.run_at.ensures) ∙ sym c.is_some.ensures ∙ c.loop-left-test.true))

pub loop-left-preserved : goal.loop-left-preserved
loop-left-preserved g c =
    let before = c.loop-left.invariant in
    let step = c.treat_first.ensures in
    let turned = subst (λ e. IsTurned g.M.Module.needs c.in-Some.held.queue e c.loop-left.handler c.loop-left.pool c.treat_first.new.handler c.treat_first.new.pool) c.if-held.true c.in-Some.ensures.turned in
    record {
      awake = step.awake;
      last =
          last_more g.M.Module.needs c.loop-left.handler c.treat_first.new.handler c.loop-left.pool c.treat_first.new.pool c.loop-left.count c.in-Some.held.queue
          (place_within c.loop-left.pool.queues.run c.loop-left.count (sym (ap is_some c.run_at.ensures) ∙ sym c.is_some.ensures ∙ c.loop-left-test.true)) before.last turned;
      turns = (
        false ∷ before.turns.0,
        (c.loop-left.handler, c.loop-left.pool, before.turns.1, (c.in-Some.held.queue, turned)),
        before.turns.2,
        omega (arith, before.turns.3),
      );
      fresh = λ spent. absurd (false≢true (sym (sym c.is_spent.ensures ∙ c.if-is_spent.false) ∙ spent));
      order = λ passes. order_more c.args.pool.now c.loop-left.pool c.treat_first.new.pool before.specs (before.order passes) (step.order passes);
      served = λ nothing passes.
          let some = before.served nothing passes in
          (suc some.0, served_more some.0 (queued_blocks_of c.args.pool.now) (queued_blocks_of c.loop-left.pool) (queued_blocks_of c.treat_first.new.pool) some.1 (step.served nothing passes));
      specs = step.specs ∙ before.specs;
    }

-- ---- the need of a queue is never met

pub returns-in-Some-2-clause-ran : goal.returns-in-Some-2-clause-ran
returns-in-Some-2-clause-ran g c =
    let before = c.loop-left.invariant in
    record {
      turns = before.turns.0;
      module_left = c.loop-left.handler;
      pool_left = c.loop-left.pool;
      taken = before.turns.1;
      within = left_within c.args.budget c.loop-left.left before.turns.0 before.turns.2;
      spent = λ is. absurd (cc);
      stops = λ all. absurd (false≢true (sym (sym c.is_spent.ensures ∙ c.if-is_spent.false) ∙ left_done c.args.budget c.loop-left.left before.turns.0 before.turns.2 all));
      ends = subst (λ e. IsTurned g.M.Module.needs c.in-Some.held.queue e c.loop-left.handler c.loop-left.pool c.treat_first.new.handler c.treat_first.new.pool) c.if-held.false c.in-Some.ensures.turned;
      moved =
          subst (AreMoved (turns_moves g.M.Module.needs g.M.Module.treats before.turns.0 c.args.handler.now c.args.pool.now c.loop-left.handler c.loop-left.pool before.turns.1) c.args.pool.now.arena)
          (sym (ap (λ (v : PoolValue). v.arena) c.in-Some.ensures.turned.after))
          (turns_moved g.M.Module.needs g.M.Module.treats before.turns.0 c.args.handler.now c.args.pool.now c.loop-left.handler c.loop-left.pool before.turns.1 c.lawful.ensures.shelves);
      order = λ passes. order_more c.args.pool.now c.loop-left.pool c.treat_first.new.pool before.specs (before.order passes) (c.treat_first.ensures.order passes);
      served = λ nothing passes.
          let some = before.served nothing passes in
          (suc some.0, served_more some.0 (queued_blocks_of c.args.pool.now) (queued_blocks_of c.loop-left.pool) (queued_blocks_of c.treat_first.new.pool) some.1 (c.treat_first.ensures.served nothing passes));
    }

-- ---- all are held back, or there are none

pub returns-then-count-gt0-clause-ran : goal.returns-then-count-gt0-clause-ran
returns-then-count-gt0-clause-ran g c =
    let before = c.loop-left.invariant in
    let past = place_past c.loop-left.pool.queues.run c.loop-left.count (sym (ap is_some c.run_at.ensures) ∙ sym c.is_some.ensures ∙ c.loop-left-test.false) in
    let all = last_all g.M.Module.needs c.loop-left.handler c.loop-left.pool c.loop-left.count past before.last in
    record {
      turns = before.turns.0;
      module_left = c.loop-left.handler;
      pool_left = c.loop-left.pool;
      taken = before.turns.1;
      within = left_within c.args.budget c.loop-left.left before.turns.0 before.turns.2;
      spent = λ is. absurd (cc);
      stops = λ done. let none = before.fresh (left_done c.args.budget c.loop-left.left before.turns.0 before.turns.2 done) in absurd (omega (arith, none, c.if-count-gt0.true));
      ends = (refl, refl, omega (arith, c.if-count-gt0.true, all.1), all.0, before.turns.3 ∙ sym all.1);
      moved = turns_moved g.M.Module.needs g.M.Module.treats before.turns.0 c.args.handler.now c.args.pool.now c.loop-left.handler c.loop-left.pool before.turns.1 c.lawful.ensures.shelves;
      order = before.order;
      served = before.served;
    }

pub returns-else-count-gt0-clause-ran : goal.returns-else-count-gt0-clause-ran
returns-else-count-gt0-clause-ran g c =
    let before = c.loop-left.invariant in
    let past = place_past c.loop-left.pool.queues.run c.loop-left.count (sym (ap is_some c.run_at.ensures) ∙ sym c.is_some.ensures ∙ c.loop-left-test.false) in
    let long = (last_all g.M.Module.needs c.loop-left.handler c.loop-left.pool c.loop-left.count past before.last).1 in
    record {
      turns = before.turns.0;
      module_left = c.loop-left.handler;
      pool_left = c.loop-left.pool;
      taken = before.turns.1;
      within = left_within c.args.budget c.loop-left.left before.turns.0 before.turns.2;
      spent = λ is. absurd (cc);
      stops = λ all. inr refl;
      ends = (refl, refl, none_long c.loop-left.pool.queues.run (omega (arith, long, c.if-count-gt0.false)));
      moved = turns_moved g.M.Module.needs g.M.Module.treats before.turns.0 c.args.handler.now c.args.pool.now c.loop-left.handler c.loop-left.pool before.turns.1 c.lawful.ensures.shelves;
      order = before.order;
      served = before.served;
    }
