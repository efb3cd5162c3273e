use Rattle.strm_queue.specs.QueueCalls as queues
use Rattle.strm_pool.specs.PoolValue.{on_queues, queued_blocks_of}
use Rattle.strm_named.proofs.Shaped.{flushes_names}
use Rattle.strm_named.proofs.named_pool.NamedPool.flushband.Goals as goal

pub returns : goal.returns
returns c = flushes_names c.self.inside.stamps.items (λ p. on_queues p (queues.flushband c.args.queue c.args.band c.args.flush (queued_blocks_of p))) c.self.view_is c.flushband.ensures
