use Rattle.std.proofs.Common.{ap, sym, ◌∙◌}
use Rattle.strm_links.specs.Rows.{first}
use Rattle.strm_mblk.specs.Shelves.{heads_at}
use Rattle.strm_mblk.proofs.Shelving.{heads_at-seen}
use Rattle.strm_mblk.proofs.blocks.Blocks.first.Goals as goal

pub returns : goal.returns
returns c =
    c.first.ensures ∙ ap first (sym (heads_at-seen c.self.inside.id c.self.inside.data.store c.self.inside.chains.loads c.self.inside.chains.lists c.from.result)) ∙ (λ i. first (heads_at (c.self.view_is i) (c.from.ensures i)))
