-- A service keeps all queues awake, and leaves less work. A queue that is held back is enabled again.
use Rattle.std.proofs.Common.{ap, arith, length, subst, sym, ◌∙◌}
use Rattle.strm_pool.specs.PoolValue.{PoolValue}
use Rattle.strm_scheduler.specs.Laws.{AreKeptAwake}
use Rattle.strm_scheduler.specs.Modules.{IsMet, IsQueueTreated}
use Rattle.strm_scheduler.specs.Sides.{KeepsOrder}
use Rattle.strm_scheduler.specs.Steps.{with_queue_enabled}
use Rattle.strm_scheduler.proofs.Beginning.{falls_begun, served_begun}
use Rattle.strm_scheduler.proofs.Ordering.{order_alike}
use Rattle.strm_scheduler.proofs.Holding.{enabled_specs, kept_enabled, turned}
use Rattle.strm_scheduler.proofs.Needing.{never_held}
use Rattle.strm_scheduler.proofs.treating.treat_first.Goals as goal

pub unreachable-requires : goal.unreachable-requires
unreachable-requires g c = omega (arith, c.requires.some, ap length (c.begin.ensures.idle c.requires.awake c.in_default.is))

-- ---- the queue is held back

pub enable-requires : goal.enable-requires
enable-requires g c = c.in-Some.ensures.begun.behind

pub returns-in-Some-held_back-clause-awake : goal.returns-in-Some-held_back-clause-awake
returns-in-Some-held_back-clause-awake g c = subst AreKeptAwake (sym c.enable.ensures) (kept_enabled c.in-Some.queue c.in-Some.next c.begin.new.pool (c.in-Some.ensures.begun.serving c.requires.awake))

pub returns-in-Some-held_back-clause-turned : goal.returns-in-Some-held_back-clause-turned
returns-in-Some-held_back-clause-turned g c =
    turned g.M.Module.needs c.args.handler.now c.in-Some.queue c.in-Some.next c.args.pool.now c.begin.new.pool c.enable.new.pool c.in-Some-held_back.ever c.requires.awake c.in-Some.ensures.begun
    c.in-Some-held_back.ensures.held c.enable.ensures

pub returns-in-Some-held_back-clause-order : goal.returns-in-Some-held_back-clause-order
returns-in-Some-held_back-clause-order g c =
    let same = c.enable.ensures ∙ ap (with_queue_enabled c.in-Some.queue) c.in-Some.ensures.begun.after in
    λ passes. order_alike c.args.pool.now c.enable.new.pool (ap (λ (p : PoolValue). p.arena.store) same) (ap (λ (p : PoolValue). p.arena.shelves) same)

pub returns-in-Some-held_back-clause-served : goal.returns-in-Some-held_back-clause-served
returns-in-Some-held_back-clause-served g c =
    λ nothing passes. absurd (never_held g.M.Module.needs c.args.handler.now c.in-Some.queue c.begin.new.pool c.in-Some-held_back.ever nothing c.in-Some-held_back.ensures.held)

pub returns-in-Some-held_back-clause-specs : goal.returns-in-Some-held_back-clause-specs
returns-in-Some-held_back-clause-specs g c =
    ap (λ (p : PoolValue). p.queues.specs) c.enable.ensures ∙ enabled_specs c.in-Some.queue c.begin.new.pool ∙ ap (λ (p : PoolValue). p.queues.specs) c.in-Some.ensures.begun.after

-- ---- it is served

pub treat_queue-requires : goal.treat_queue-requires
treat_queue-requires g c = record {
  serving = c.in-Some.ensures.begun.serving c.requires.awake;
  behind = c.in-Some.ensures.begun.behind;
  met = c.held_back.ensures.met c.in_default-held_back.is;
}

pub returns-clause-falls : goal.returns-clause-falls
returns-clause-falls g c =
    λ none passes. falls_begun c.args.pool.now c.begin.new.pool c.in-Some.queue c.in-Some.next c.in-Some.ensures.begun c.treat_queue.new.pool c.treat_queue.ensures.specs c.lawful.ensures
    (c.treat_queue.ensures.falls passes)

pub returns-clause-order : goal.returns-clause-order
returns-clause-order g c = λ passes. subst (λ (p : PoolValue). KeepsOrder p c.treat_queue.new.pool) c.in-Some.ensures.begun.after (c.treat_queue.ensures.order passes)

pub returns-clause-served : goal.returns-clause-served
returns-clause-served g c =
    λ nothing passes.
    let all = c.treat_queue.ensures.forwards nothing passes in
    served_begun c.args.pool.now c.begin.new.pool c.in-Some.queue c.in-Some.next c.in-Some.ensures.begun c.treat_queue.new.pool all.0 all.1

pub returns-clause-treated : goal.returns-clause-treated
returns-clause-treated g c =
    let begun = c.in-Some.ensures.begun in
    λ none. record {
      queue = c.in-Some.queue;
      next = c.in-Some.next;
      first = begun.first;
      goes_on = begun.next;
      met = subst (λ (p : PoolValue). IsMet g.M.Module.needs c.args.handler.now c.in-Some.queue p) begun.after (c.held_back.ensures.met c.in_default-held_back.is);
      treated = subst (λ (p : PoolValue). IsQueueTreated g.M.Module.needs g.M.Module.treats c.in-Some.queue c.in-Some.next c.args.handler.now p c.treat_queue.new.handler c.treat_queue.new.pool) begun.after
          c.treat_queue.ensures.treated;
    }
