use Rattle.std.proofs.Common.{Ok, ap, sym, subst}
use Rattle.strm_mblk.specs.BlockCalls.{IsSupplied}
use Rattle.strm_mblk.specs.BlockCalls as blocks
use Rattle.strm_pool.specs.PoolValue.{on_arena}
use Rattle.strm_named.specs.declared.name.Name.{Name}
use Rattle.strm_named.specs.NamedValue.{NamedValue}
use Rattle.strm_named.proofs.Held.{has_stamp}
use Rattle.strm_named.proofs.Shaped.{gives_new, seen}
use Rattle.strm_named.proofs.named_pool.NamedPool.allocb_from.Goals as goal

pub give-requires : goal.give-requires
give-requires c = has_stamp c.self.invariant c.allocb_from-token.ensures.gives.others c.allocb_from-token.result c.allocb_from-token.ensures.gives.had

pub allocb_from-token-requires-clause-supply : goal.allocb_from-token-requires-clause-supply
allocb_from-token-requires-clause-supply c = subst (λ (v : NamedValue). IsSupplied c.args.size v.pool.arena c.args.supply) (sym c.self.view_is) c.requires.supply

pub invariant_of-self : goal.invariant_of-self
invariant_of-self c = (seen (λ v. on_arena v.pool (blocks.allocb c.args.size v.pool.arena)) c.self.view_is (gives_new c.self.invariant c.allocb_from-token.ensures.gives c.give.ensures.stamps (ap (λ (n : Name). Ok n) c.give.ensures.name))).fits

pub returns-clause-does : goal.returns-clause-does
returns-clause-does c = (seen (λ v. on_arena v.pool (blocks.allocb c.args.size v.pool.arena)) c.self.view_is (gives_new c.self.invariant c.allocb_from-token.ensures.gives c.give.ensures.stamps (ap (λ (n : Name). Ok n) c.give.ensures.name))).does
