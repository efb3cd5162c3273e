use Rattle.std.proofs.Common.{ap, arith, sym, ◌∙◌}
use Rattle.strm_links.specs.Rows.{has, before}
use Rattle.strm_mblk.specs.Shelves.{heads_at}
use Rattle.strm_mblk.proofs.Shelving.{heads_at-seen, is_head}
use Rattle.strm_mblk.proofs.blocks.Blocks.before.Goals as goal

pub before-requires : goal.before-requires
before-requires c =
    let is = is_head c.self.invariant.filled c.self.view_is c.args.head c.requires in
    omega (arith, is.there, c.self.invariant.filled.listed)

pub returns : goal.returns
returns c shelf there =
    let heads = heads_at-seen c.self.inside.id c.self.inside.data.store c.self.inside.chains.loads c.self.inside.chains.lists shelf in
    c.before-2.ensures shelf (ap (has c.args.head) (sym heads) ∙ ap (λ a. has c.args.head (heads_at a shelf)) c.self.view_is ∙ there)
    ∙ ap (before c.args.head) (sym heads) ∙ ap (λ a. before c.args.head (heads_at a shelf)) c.self.view_is
