use Rattle.strm_queue.specs.Taking as taking
use Rattle.strm_pool.proofs.OnParts.{hands_on}
use Rattle.strm_pool.proofs.pool.Pool.take_flushed.Goals as goal

pub returns : goal.returns
returns g c = hands_on c.self.view_is (taking.take_flushed c.args.queue c.args.flush c.args.most) c.take_flushed.ensures.does
