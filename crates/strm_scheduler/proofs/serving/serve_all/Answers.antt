-- One more queue was served. The last attempt serves none.
use Rattle.std.proofs.Common.{suc, refl, ◌∙◌}
use Rattle.strm_pool.specs.PoolValue.{queued_blocks_of}
use Rattle.strm_scheduler.proofs.Beginning.{order_more, served_more, served_none}
use Rattle.strm_scheduler.proofs.serving.serve_all.Goals as goal

pub loop-init : goal.loop-init
loop-init c = record {
  awake = c.requires;
  served = (0, served_none (queued_blocks_of c.args.pool.now));
  order = λ end rank last there. refl;
  specs = refl;
  wishes = refl;
}

pub loop-preserved : goal.loop-preserved
loop-preserved c =
    let before = c.loop.invariant in
    let step = c.serve_first.ensures in
    record {
      awake = step.awake;
      served = (suc before.served.0, served_more before.served.0 (queued_blocks_of c.args.pool.now) (queued_blocks_of c.loop.pool) (queued_blocks_of c.serve_first.new.pool) before.served.1 step.served);
      order = order_more c.args.pool.now c.loop.pool c.serve_first.new.pool before.specs before.order step.order;
      specs = step.specs ∙ before.specs;
      wishes = step.wishes ∙ before.wishes;
    }

pub returns-clause-served : goal.returns-clause-served
returns-clause-served c =
    let before = c.loop.invariant in
    (suc before.served.0, served_more before.served.0 (queued_blocks_of c.args.pool.now) (queued_blocks_of c.loop.pool) (queued_blocks_of c.serve_first.new.pool) before.served.1 c.serve_first.ensures.served)

pub returns-clause-order : goal.returns-clause-order
returns-clause-order c =
    let before = c.loop.invariant in
    order_more c.args.pool.now c.loop.pool c.serve_first.new.pool before.specs before.order c.serve_first.ensures.order
