use Rattle.std.proofs.Common.{Ok}
use Rattle.strm_mblk.specs.BlockCalls as blocks
use Rattle.strm_pool.proofs.OnParts.{unlinks_on}
use Rattle.strm_pool.proofs.pool.Pool.unlinkb.Goals as goal

pub returns : goal.returns
returns c = unlinks_on c.self.view_is (λ a. Ok (blocks.unlinkb c.args.token.now.head a)) c.unlinkb.ensures
