use Rattle.strm_queue.specs.QueueCalls as queues
use Rattle.strm_pool.specs.PoolValue.{on_queues, queued_blocks_of}
use Rattle.strm_named.proofs.Held.{have_one}
use Rattle.strm_named.proofs.Shaped.{gives_one, seen}
use Rattle.strm_named.proofs.named_pool.NamedPool.rmvq.Goals as goal

pub answer-requires : goal.answer-requires
answer-requires c = have_one c.self.invariant c.rmvq-given.ensures.others c.rmvq-given.result c.rmvq-given.ensures.had

pub invariant_of-self : goal.invariant_of-self
invariant_of-self c = (seen (λ v. on_queues v.pool (queues.rmvq c.args.queue c.args.place (queued_blocks_of v.pool))) c.self.view_is (gives_one c.self.invariant c.rmvq-given.ensures c.answer.ensures.stamps c.answer.ensures.name)).fits

pub returns : goal.returns
returns c = (seen (λ v. on_queues v.pool (queues.rmvq c.args.queue c.args.place (queued_blocks_of v.pool))) c.self.view_is (gives_one c.self.invariant c.rmvq-given.ensures c.answer.ensures.stamps c.answer.ensures.name)).does
