use Rattle.std.proofs.Common.{◌≡◌, arith, ap, sym, ◌+◌, ◌∙◌}
use Rattle.std.specs.Prelude.{slice_get}
use Rattle.strm_links.specs.ChainLayout.{after_at, links_of}
use Rattle.strm_links.specs.declared.chained.Link.{Link}
use Rattle.strm_links.proofs.lists.OneList.{IfSome-from}
use Rattle.strm_links.proofs.chains.StoredChains.{next_in_chain, next_within}
use Rattle.strm_links.proofs.chains.Whole.{chain_of_is, count_is, room}
use Rattle.strm_links.proofs.chains.Written.{link_read}
use Rattle.strm_links.proofs.chained.Chained.next.Given.{Over}
use Rattle.strm_links.proofs.chained.Chained.next.Goals as goal
use Rattle.strm_links.proofs.chained.Chained.next.Goals.{After-get}

pub index-requires : goal.index-requires
index-requires g c = omega (arith, c.requires, room c.self.invariant c.self.view_is)

-- the link that the code reads
read : (g : Over) (c : After-get g) → c.get.result ≡ after_at (links_of c.self.inside.table.nodes.items) c.args.node
read g c = c.get.ensures ∙ ap (λ (l : Link). l.next) (link_read _ c.args.node (omega (arith, c.requires, room c.self.invariant c.self.view_is)) c.index.ensures)

pub returns-clause-value : goal.returns-clause-value
returns-clause-value g c h i is =
    let same = chain_of_is c.self.invariant c.self.view_is h in
    read g c ∙ next_in_chain c.self.invariant.chained h i (ap (λ xs. slice_get xs i) (sym same) ∙ is) ∙ ap (λ xs. slice_get xs (i + 1)) (sym same)

pub returns-clause-in_range : goal.returns-clause-in_range
returns-clause-in_range g c =
    IfSome-from c.get.result _ (λ j is. omega (arith, next_within c.self.invariant.chained c.args.node (sym (read g c) ∙ is), count_is c.self.invariant c.self.view_is))
