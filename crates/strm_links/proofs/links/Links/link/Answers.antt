use Rattle.std.proofs.Common.{◌<◌, arith}
use Rattle.strm_links.proofs.lists.AllLists.{All-listed, holder_has}
use Rattle.strm_links.proofs.links.Links.link.Goals as goal

pub of-requires : goal.of-requires
of-requires c at is =
    omega (
      arith,
      All-listed (λ k. k < c.args.self.now.nodes) at c.args.list c.args.self.now.lists c.parts_nodes.ensures.parting.within
          (holder_has at c.args.list c.args.self.now (c.requires.next at is)).1,
      c.parts_nodes.ensures.few_nodes,
    )
