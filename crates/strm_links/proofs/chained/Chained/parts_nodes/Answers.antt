use Rattle.std.proofs.Common.{arith, subst}
use Rattle.strm_links.specs.ChainLists.{IsLawful}
use Rattle.strm_links.proofs.chains.Whole.{IsLawful-whole, count_is, lists_are, load_room, room, shelf_room}
use Rattle.strm_links.proofs.chained.Chained.parts_nodes.Goals as goal

pub returns : goal.returns
returns g c = record {
  parted = subst IsLawful (lists_are c.self.invariant c.self.view_is) (IsLawful-whole c.self.invariant);
  loads = omega (arith, load_room c.self.invariant c.self.view_is, room c.self.invariant c.self.view_is);
  few_nodes = omega (arith, count_is c.self.invariant c.self.view_is, c.self.invariant.chained.few_nodes);
  few_shelves = omega (arith, shelf_room c.self.invariant c.self.view_is, c.self.invariant.sound.few_lists);
}
