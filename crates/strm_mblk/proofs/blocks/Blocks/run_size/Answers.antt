use Rattle.std.proofs.Common.{◌^◌, ◌<◌, sym, subst}
use Rattle.strm_mblk.specs.Block.{size_of}
use Rattle.strm_mblk.specs.BlocksLayout.{message_of}
use Rattle.strm_links.specs.ChainLists.{nodes_at}
use Rattle.strm_mblk.proofs.Reading.{nodes_small}
use Rattle.strm_mblk.proofs.blocks.Blocks.run_size.Goals as goal

pub run_in-requires-clause-small : goal.run_in-requires-clause-small
run_in-requires-clause-small c =
    let i = c.self.inside in
    subst (λ h. size_of (message_of i.chains.loads (nodes_at i.chains.lists h)) < 2 ^ 32) (sym c.head.ensures)
    (nodes_small c.self.invariant.filled c.self.view_is c.args.token.now c.requires)
