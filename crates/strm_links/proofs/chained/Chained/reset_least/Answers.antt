use Rattle.std.proofs.Common.{ap, arith, length, ◌∙◌}
use Rattle.strm_links.specs.ChainLists.{LoadedChains}
use Rattle.strm_links.proofs.chains.Whole.{IsLawful-whole, free_is, lists_are}
use Rattle.strm_links.proofs.chained.Chained.reset_least.Goals as goal

pub invariant_of-self : goal.invariant_of-self
invariant_of-self g c = record { sound = c.self.invariant.sound; chained = c.self.invariant.chained; begun = c.self.invariant.begun; fewest = omega arith }

pub returns : goal.returns
returns g c = record {
  after = λ i. record (lists_are c.self.invariant c.self.view_is i) { least = (c.self.invariant.chained.free_count ∙ ap length (free_is c.self.invariant c.self.view_is)) i };
  loads = ap (λ (u : LoadedChains _). u.loads) c.self.view_is;
  parted = IsLawful-whole (invariant_of-self g c);
}
