use Rattle.std.proofs.Common.{arith, ◌≡◌, length, ap, sym, ◌∙◌}
use Rattle.std.specs.Prelude.{slice_get}
use Rattle.std.proofs.lemmas.List.{length-map}
use Rattle.strm_links.specs.ChainLists.{chain_of}
use Rattle.strm_mblk.specs.BlocksLayout.{block_at}
use Rattle.strm_mblk.proofs.Shelving.{IsHead, is_head}
use Rattle.strm_mblk.proofs.blocks.Blocks.head_blocks.Goals as goal
use Rattle.strm_mblk.proofs.blocks.Blocks.head_blocks.Goals.{After-finds_chains}

module _ (c : After-finds_chains) where
  head : IsHead c.self.inside.data c.self.inside.chains.loads c.self.inside.chains.lists c.args.self.now c.args.head
  head = is_head c.self.invariant.filled c.self.view_is c.args.head c.requires

  chain_is : chain_of c.self.inside.chains.lists c.args.head ≡ head.nodes
  chain_is = c.finds_chains.ensures.shelved head.shelf head.place c.args.head (ap (λ ns. slice_get ns 0) head.at ∙ head.begins) ∙ head.at

pub len-requires : goal.len-requires
len-requires c = omega (arith, (head c).there, c.self.invariant.filled.listed)

pub returns : goal.returns
returns c =
    let before = (goal.at.returns c).After-finds_chains in
    c.len.ensures ∙ ap length (chain_is before) ∙ sym (ap length (head before).message ∙ length-map (head before).nodes (block_at c.self.inside.chains.loads))
