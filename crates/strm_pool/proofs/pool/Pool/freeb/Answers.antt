use Rattle.std.proofs.Common.{Ok}
use Rattle.strm_mblk.specs.BlockCalls as blocks
use Rattle.strm_pool.proofs.OnParts.{agrees_still, frees_on}
use Rattle.strm_pool.proofs.pool.Pool.freeb.Goals as goal

pub invariant_of-self : goal.invariant_of-self
invariant_of-self c = agrees_still c.freeb.ensures.shelves c.self.invariant

pub returns : goal.returns
returns c = frees_on c.self.view_is (λ a. Ok (blocks.freeb c.args.token.head a)) c.freeb.ensures
