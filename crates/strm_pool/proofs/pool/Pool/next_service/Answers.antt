use Rattle.std.proofs.Common.{Ok}
use Rattle.strm_queue.specs.QueueCalls as queues
use Rattle.strm_pool.proofs.OnParts.{leaves_on}
use Rattle.strm_pool.proofs.pool.Pool.next_service.Goals as goal

pub returns : goal.returns
returns c = leaves_on c.self.view_is (λ w. Ok (queues.next_service w)) (c.next_service.ensures.does c.self.inside.blocks)
