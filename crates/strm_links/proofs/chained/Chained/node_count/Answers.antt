use Rattle.std.proofs.Common.{arith}
use Rattle.strm_links.proofs.chains.Whole.{room}
use Rattle.strm_links.proofs.chained.Chained.node_count.Goals as goal

pub returns : goal.returns
returns g c = omega (arith, room c.self.invariant c.self.view_is)
