use Rattle.strm_links.proofs.linking.Carried.{places-set, carried-set}
use Rattle.strm_links.proofs.table.put.Goals as goal

pub returns-clause-places : goal.returns-clause-places
returns-clause-places g c = places-set c.args.nodes.now.items c.args.at (record c.index_mut.result.now { place = c.args.place })

pub returns-clause-carried : goal.returns-clause-carried
returns-clause-carried g c = carried-set c.args.nodes.now.items c.args.at c.index_mut.result.now c.args.place c.index_mut.ensures.value
