use Rattle.std.proofs.Common.{arith}
use Rattle.strm_links.proofs.Stacked.{load_at, load_room}
use Rattle.strm_links.proofs.stacks.Stacks.load.Goals as goal

pub index-requires : goal.index-requires
index-requires g c = omega (arith, c.requires, load_room _ _ _ c.self.view_is)

pub returns : goal.returns
returns g c = load_at _ _ _ c.self.view_is c.args.node c.index.result.now c.index.ensures (omega (arith, c.requires, load_room _ _ _ c.self.view_is))
