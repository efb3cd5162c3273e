use Rattle.std.proofs.Common.{refl, sym, ◌∙◌, subst}
use Rattle.strm_queue.specs.QueueCalls.{IsBurstPlace}
use Rattle.strm_queue.specs.QueueCalls as queues
use Rattle.strm_pool.specs.PoolValue.{on_queues, queued_blocks_of}
use Rattle.strm_named.specs.NamedValue.{NamedValue}
use Rattle.strm_named.proofs.Shaped.{here, spends}
use Rattle.strm_named.proofs.named_pool.NamedPool.putq_in_burst.Goals as goal

pub putq_in_burst-put-requires-clause-place : goal.putq_in_burst-put-requires-clause-place
putq_in_burst-put-requires-clause-place c = subst (λ (v : NamedValue). IsBurstPlace c.args.place.now c.args.queue (queued_blocks_of v.pool)) (sym c.self.view_is) c.requires.place

pub invariant_of-self : goal.invariant_of-self
invariant_of-self c = (spends c.self.invariant c.self.view_is (sym c.has.ensures ∙ c.if-not-has.false) (here c.self.view_is c.token-token.ensures) (λ h v. on_queues v.pool (queues.putq c.args.queue h (queued_blocks_of v.pool))) c.putq_in_burst-put.ensures.does refl c.spent.ensures).fits

pub returns-clause-does : goal.returns-clause-does
returns-clause-does c = (spends c.self.invariant c.self.view_is (sym c.has.ensures ∙ c.if-not-has.false) (here c.self.view_is c.token-token.ensures) (λ h v. on_queues v.pool (queues.putq c.args.queue h (queued_blocks_of v.pool))) c.putq_in_burst-put.ensures.does refl c.spent.ensures).does
