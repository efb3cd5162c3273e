use Rattle.std.proofs.Common.{refl, sym, ◌∙◌}
use Rattle.strm_queue.specs.QueueCalls as queues
use Rattle.strm_pool.specs.PoolValue.{on_queues, queued_blocks_of}
use Rattle.strm_named.proofs.Shaped.{here, spends}
use Rattle.strm_named.proofs.named_pool.NamedPool.putq.Goals as goal

pub invariant_of-self : goal.invariant_of-self
invariant_of-self c = (spends c.self.invariant c.self.view_is (sym c.has.ensures ∙ c.if-not-has.false) (here c.self.view_is c.token-token.ensures) (λ h v. on_queues v.pool (queues.putq c.args.queue h (queued_blocks_of v.pool))) c.putq-put.ensures refl c.spent.ensures).fits

pub returns : goal.returns
returns c = (spends c.self.invariant c.self.view_is (sym c.has.ensures ∙ c.if-not-has.false) (here c.self.view_is c.token-token.ensures) (λ h v. on_queues v.pool (queues.putq c.args.queue h (queued_blocks_of v.pool))) c.putq-put.ensures refl c.spent.ensures).does
