use Rattle.std.proofs.Common.{ap, arith, sym, ◌∙◌}
use Rattle.strm_links.specs.Rows.{has, after}
use Rattle.strm_mblk.specs.Shelves.{heads_at}
use Rattle.strm_mblk.proofs.Shelving.{heads_at-seen, is_head}
use Rattle.strm_mblk.proofs.blocks.Blocks.after.Goals as goal

pub after-requires : goal.after-requires
after-requires c =
    let is = is_head c.self.invariant.filled c.self.view_is c.args.head c.requires in
    omega (arith, is.there, c.self.invariant.filled.listed)

pub returns : goal.returns
returns c shelf there =
    let heads = heads_at-seen c.self.inside.id c.self.inside.data.store c.self.inside.chains.loads c.self.inside.chains.lists shelf in
    c.after.ensures shelf (ap (has c.args.head) (sym heads) ∙ ap (λ a. has c.args.head (heads_at a shelf)) c.self.view_is ∙ there)
    ∙ ap (after c.args.head) (sym heads) ∙ ap (λ a. after c.args.head (heads_at a shelf)) c.self.view_is
