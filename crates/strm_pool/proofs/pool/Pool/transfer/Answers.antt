use Rattle.strm_mblk.specs.BlockCalls as blocks
use Rattle.strm_pool.proofs.OnParts.{agrees_still, transferred_shelves, transfers_on}
use Rattle.strm_pool.proofs.pool.Pool.transfer.Goals as goal

pub invariant_of-self : goal.invariant_of-self
invariant_of-self c = agrees_still (transferred_shelves c.args.token c.self.inside.blocks c.transfer.new.self _ c.transfer.result c.transfer.ensures.here) c.self.invariant

pub invariant_of-other : goal.invariant_of-other
invariant_of-other c = agrees_still c.transfer.ensures.there.shelves c.other.invariant

pub returns : goal.returns
returns c = transfers_on c.self.view_is c.other.view_is (λ source. blocks.transfer source c.args.token.head) c.transfer.ensures
