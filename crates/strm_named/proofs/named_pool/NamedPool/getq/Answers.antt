use Rattle.strm_queue.specs.QueueCalls as queues
use Rattle.strm_pool.specs.PoolValue.{on_queues, queued_blocks_of}
use Rattle.strm_named.proofs.Held.{have_any}
use Rattle.strm_named.proofs.Shaped.{gives_any, seen}
use Rattle.strm_named.proofs.named_pool.NamedPool.getq.Goals as goal

pub answer_any-requires : goal.answer_any-requires
answer_any-requires c = have_any c.self.invariant c.getq-given.ensures.others c.getq-given.result c.getq-given.ensures.had

pub invariant_of-self : goal.invariant_of-self
invariant_of-self c = (seen (λ v. on_queues v.pool (queues.getq c.args.queue (queued_blocks_of v.pool))) c.self.view_is (gives_any c.self.invariant c.getq-given.ensures c.answer_any.ensures.stamps c.answer_any.ensures.name)).fits

pub returns : goal.returns
returns c = (seen (λ v. on_queues v.pool (queues.getq c.args.queue (queued_blocks_of v.pool))) c.self.view_is (gives_any c.self.invariant c.getq-given.ensures c.answer_any.ensures.stamps c.answer_any.ensures.name)).does
