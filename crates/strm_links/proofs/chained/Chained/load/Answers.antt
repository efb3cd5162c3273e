use Rattle.std.proofs.Common.{arith}
use Rattle.strm_links.proofs.chains.Whole.{load_at, load_room}
use Rattle.strm_links.proofs.chained.Chained.load.Goals as goal

pub index-requires : goal.index-requires
index-requires g c = omega (arith, c.requires, load_room c.self.invariant c.self.view_is)

pub returns : goal.returns
returns g c = load_at c.self.invariant c.self.view_is c.args.node (omega (arith, c.requires, load_room c.self.invariant c.self.view_is)) c.index.ensures
