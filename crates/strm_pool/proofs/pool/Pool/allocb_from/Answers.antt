use Rattle.std.proofs.Common.{sym, subst}
use Rattle.strm_mblk.specs.BlockCalls as blocks
use Rattle.strm_mblk.specs.BlockCalls.{IsSupplied}
use Rattle.strm_pool.specs.PoolValue.{PoolValue}
use Rattle.strm_pool.proofs.OnParts.{agrees_still, gives_on}
use Rattle.strm_pool.proofs.pool.Pool.allocb_from.Goals as goal

pub allocb_from-requires-clause-supply : goal.allocb_from-requires-clause-supply
allocb_from-requires-clause-supply c = subst (λ (v : PoolValue). IsSupplied c.args.size v.arena c.args.supply) (sym c.self.view_is) c.requires.supply

pub invariant_of-self : goal.invariant_of-self
invariant_of-self c = agrees_still c.allocb_from.ensures.gives.shelves c.self.invariant

pub returns-clause-gives : goal.returns-clause-gives
returns-clause-gives c = gives_on c.self.view_is (blocks.allocb c.args.size) c.allocb_from.ensures.gives
