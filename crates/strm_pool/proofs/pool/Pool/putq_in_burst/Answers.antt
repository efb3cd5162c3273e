use Rattle.std.proofs.Common.{sym, subst}
use Rattle.strm_queue.specs.QueueCalls as queues
use Rattle.strm_queue.specs.QueueCalls.{IsBurstPlace}
use Rattle.strm_pool.specs.PoolValue.{PoolValue, queued_blocks_of}
use Rattle.strm_pool.proofs.OnParts.{puts_on}
use Rattle.strm_pool.proofs.pool.Pool.putq_in_burst.Goals as goal

pub putq_in_burst-requires-clause-place : goal.putq_in_burst-requires-clause-place
putq_in_burst-requires-clause-place c = subst (λ (v : PoolValue). IsBurstPlace c.args.place.now c.args.queue (queued_blocks_of v)) (sym c.self.view_is) c.requires.place

pub returns-clause-does : goal.returns-clause-does
returns-clause-does c = puts_on c.self.view_is (queues.putq c.args.queue c.args.token.head) c.putq_in_burst.ensures.does
