use Rattle.strm_queue.specs.Taking as taking
use Rattle.strm_pool.proofs.OnParts.{hands_on}
use Rattle.strm_pool.proofs.pool.Pool.take_flushed_band.Goals as goal

pub returns : goal.returns
returns g c = hands_on c.self.view_is (taking.take_flushed_band c.args.queue c.args.band c.args.flush c.args.most) c.take_flushed_band.ensures.does
