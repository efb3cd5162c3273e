use Rattle.std.proofs.Common.{ap, set, ◌∙◌}
use Rattle.strm_links.specs.Rows.{list_at, put_in}
use Rattle.strm_links.proofs.linking.TableCalls.{put_in-first}
use Rattle.strm_links.proofs.links.Links.push_front.Goals as goal

pub returns-clause-lists : goal.returns-clause-lists
returns-clause-lists c =
    let xs = list_at c.args.list c.args.self.now in
    c.link.ensures.lists
    ∙ (λ i. record c.args.self.now { lists = set c.args.self.now.lists c.args.list ((ap (λ next. put_in next c.args.node xs) c.front-front.ensures.value ∙ put_in-first c.args.node xs) i) })
