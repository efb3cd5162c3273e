use Rattle.strm_mblk.specs.BlockCalls as blocks
use Rattle.strm_mblk.specs.Given.{given_nothing}
use Rattle.strm_pool.proofs.OnParts.{alters_on}
use Rattle.strm_pool.proofs.pool.Pool.setband.Goals as goal

pub returns : goal.returns
returns c = alters_on c.self.view_is (λ a. given_nothing (blocks.setband c.args.token.now.head c.args.band a)) c.setband.ensures
