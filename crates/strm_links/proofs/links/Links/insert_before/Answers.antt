use Rattle.std.proofs.Common.{◌<◌, sym, ◌∙◌}
use Rattle.strm_links.proofs.lists.AllLists.{All-listed, holder_has, map-put_before}
use Rattle.strm_links.proofs.lists.OneList.{number_of}
use Rattle.strm_links.proofs.links.Links.insert_before.Goals as goal

pub list_of-requires : goal.list_of-requires
list_of-requires c =
    let held = number_of _ c.requires.at in
    All-listed (λ k. k < c.args.self.now.nodes) c.args.at held.0 c.args.self.now.lists c.parts_nodes.ensures.parting.within (holder_has c.args.at held.0 c.args.self.now held.1).1

pub returns-clause-lists : goal.returns-clause-lists
returns-clause-lists c =
    c.link.ensures.lists
    ∙ (λ i. record c.args.self.now { lists = sym (map-put_before c.args.self.now c.parts_nodes.ensures.parting.apart c.args.at c.args.node c.unwrap-list.result (sym c.list_of.ensures.value ∙ c.unwrap-list.ensures)) i })
