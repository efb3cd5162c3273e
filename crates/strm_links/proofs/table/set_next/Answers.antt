use Rattle.std.proofs.Common.{arith, sym, ◌∙◌}
use Rattle.strm_links.proofs.linking.Carried.{carried-set, next_written}
use Rattle.strm_links.proofs.table.set_next.Goals as goal

pub returns-in-Some-clause-places : goal.returns-in-Some-clause-places
returns-in-Some-clause-places g c =
    let is = sym c.get.ensures ∙ c.in-Some.is in
    next_written _ c.in-Some.k c.index_mut.result.now c.args.next is (omega (arith, c.requires c.in-Some.k is)) c.index_mut.ensures.value

pub returns-in-Some-clause-carried : goal.returns-in-Some-clause-carried
returns-in-Some-clause-carried g c = carried-set _ c.in-Some.k c.index_mut.result.now (record c.index_mut.result.now.place { next = c.args.next }) c.index_mut.ensures.value
