use Rattle.std.proofs.Common.{arith, refl, rules, sym}
use Rattle.strm_queue.specs.QueueCalls as queues
use Rattle.strm_pool.specs.PoolValue.{PoolValue, on_queues, queued_blocks_of}
use Rattle.strm_named.proofs.Taken.{each_fits, each_keeps_stamps, each_named}
use Rattle.strm_named.proofs.named_pool.NamedPool.getq_run.Goals as goal

pub shape_of-self-inside : goal.shape_of-self-inside
shape_of-self-inside c = sym (each_keeps_stamps (λ (p : PoolValue). on_queues p (queues.getq c.args.queue (queued_blocks_of p))) c.self.invariant refl c.getq_run-taken.ensures.takes)

pub invariant_of-self : goal.invariant_of-self
invariant_of-self c = each_fits (λ (p : PoolValue). on_queues p (queues.getq c.args.queue (queued_blocks_of p))) c.self.invariant c.drop-naming.ensures.stamps c.getq_run-taken.ensures.takes

pub returns-clause-takes : goal.returns-clause-takes
returns-clause-takes c =
    each_named (λ (p : PoolValue). on_queues p (queues.getq c.args.queue (queued_blocks_of p))) c.self.invariant c.drop-naming.ensures.stamps c.getq_run-taken.ensures.takes c.self.view_is refl
    (omega (arith, c.min-most.ensures, c.requires)) (search rules)
