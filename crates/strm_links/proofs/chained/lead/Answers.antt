use Rattle.std.proofs.Common.{arith, refl}
use Rattle.strm_links.proofs.chains.Written.{kept, rest_kept, written}
use Rattle.strm_links.proofs.chained.lead.Goals as goal
use Rattle.strm_links.specs.declared.chained.Link.{Link}

pub returns-clause-nexts : goal.returns-clause-nexts
returns-clause-nexts g c k = written (λ (l : Link). l.next) c.args.nodes.now.items c.args.at k (record c.index_mut.result.now { link = record c.index_mut.result.now.link { next = c.args.next } }) (omega (arith, c.requires))

pub returns-clause-spans : goal.returns-clause-spans
returns-clause-spans g c k = kept (λ (l : Link). l.span) c.args.nodes.now.items c.args.at k (record c.index_mut.result.now.link { next = c.args.next }) c.index_mut.ensures.value (omega (arith, c.requires)) refl

pub returns-clause-rest : goal.returns-clause-rest
returns-clause-rest g c = rest_kept c.args.nodes.now.items c.args.at (record c.index_mut.result.now.link { next = c.args.next }) c.index_mut.ensures.value
