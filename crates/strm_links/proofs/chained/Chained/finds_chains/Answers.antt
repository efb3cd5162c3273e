use Rattle.strm_links.proofs.chains.Whole.{held_chain, shelved_chain}
use Rattle.strm_links.proofs.chained.Chained.finds_chains.Goals as goal

pub returns : goal.returns
returns g c = record { held = held_chain c.self.invariant c.self.view_is; shelved = shelved_chain c.self.invariant c.self.view_is }
