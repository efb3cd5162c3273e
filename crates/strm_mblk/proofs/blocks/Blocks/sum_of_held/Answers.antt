use Rattle.std.proofs.Common.{◌≡◌, Some, ap, subst, sym, arith}
use Rattle.std.specs.Prelude.{is_some}
use Rattle.strm_links.specs.ChainLists.{chain_of, nodes_at}
use Rattle.strm_mblk.specs.BlocksLayout.{IsSummable}
use Rattle.strm_mblk.specs.Messages.{held_in}
use Rattle.strm_mblk.proofs.Nodes.{begins_with}
use Rattle.strm_mblk.proofs.layout.HeldBlocks.{token_held, nodes_room}
use Rattle.strm_mblk.proofs.layout.StoredArena.{message_at-seen}
use Rattle.strm_mblk.proofs.Lists.{at_first}
use Rattle.strm_mblk.proofs.Reading.{nodes_small, summable}
use Rattle.strm_mblk.proofs.blocks.Blocks.sum_of_held.Goals as goal
use Rattle.strm_mblk.proofs.blocks.Blocks.sum_of_held.Goals.{After-head}
use Rattle.std.proofs.lemmas.Grind.{common_steps}

module _ (c : After-head) where
  -- the message is held
  held : held_in c.self.inside.chains.lists.held c.args.token.now.head ≡ Some (nodes_at c.self.inside.chains.lists c.args.token.now.head)
  held = grind (arith, common_steps, token_held)

  chain_is : chain_of c.self.inside.chains.lists c.args.token.now.head ≡ nodes_at c.self.inside.chains.lists c.args.token.now.head
  chain_is = c.finds_chains.ensures.held c.args.token.now.head (ap is_some held)

pub sum_of_lengths-requires : goal.sum_of_lengths-requires
sum_of_lengths-requires c =
    let i = c.self.inside in
    let h = c.args.token.now.head in
    subst (IsSummable i.chains.lists i.chains.loads i.data.store) (sym c.head.ensures)
    (summable c.self.invariant.filled (chain_is c)
    (at_first (nodes_at i.chains.lists h) (begins_with c.self.invariant.filled.parted h (held c)))
    (nodes_room i.chains.lists h (at_first (nodes_at i.chains.lists h) (begins_with c.self.invariant.filled.parted h (held c))))
    (nodes_small c.self.invariant.filled c.self.view_is c.args.token.now c.requires))

pub returns : goal.returns
returns c = grind (arith, common_steps, message_at-seen)
