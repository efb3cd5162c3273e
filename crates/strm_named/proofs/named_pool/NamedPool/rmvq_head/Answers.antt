use Rattle.strm_queue.specs.HeadCalls as by_head
use Rattle.strm_pool.specs.PoolValue.{on_queues, queued_blocks_of}
use Rattle.strm_named.proofs.Held.{have_one}
use Rattle.strm_named.proofs.Shaped.{gives_one, seen}
use Rattle.strm_named.proofs.named_pool.NamedPool.rmvq_head.Goals as goal

pub answer-requires : goal.answer-requires
answer-requires c = have_one c.self.invariant c.rmvq_head-given.ensures.others c.rmvq_head-given.result c.rmvq_head-given.ensures.had

pub invariant_of-self : goal.invariant_of-self
invariant_of-self c = (seen (λ v. on_queues v.pool (by_head.rmvq_head c.args.head (queued_blocks_of v.pool))) c.self.view_is (gives_one c.self.invariant c.rmvq_head-given.ensures c.answer.ensures.stamps c.answer.ensures.name)).fits

pub returns : goal.returns
returns c = (seen (λ v. on_queues v.pool (by_head.rmvq_head c.args.head (queued_blocks_of v.pool))) c.self.view_is (gives_one c.self.invariant c.rmvq_head-given.ensures c.answer.ensures.stamps c.answer.ensures.name)).does
