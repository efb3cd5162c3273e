use Rattle.std.proofs.Common.{◌≡◌, false, ap, arith, sym, ◌∙◌}
use Rattle.std.specs.Prelude.{slice_get, sum_by}
use Rattle.strm_links.specs.ChainLists.{chain_of}
use Rattle.strm_mblk.specs.Block.{len_counted, size_of}
use Rattle.strm_mblk.specs.BlocksLayout.{message_of}
use Rattle.strm_mblk.proofs.Reading.{all_counted, summable}
use Rattle.strm_mblk.proofs.Shelving.{small, IsHead, is_head}
use Rattle.strm_mblk.proofs.blocks.Blocks.head_size.Goals as goal
use Rattle.strm_mblk.proofs.blocks.Blocks.head_size.Goals.{After-finds_chains}

module _ (c : After-finds_chains) where
  -- the message
  head : IsHead c.self.inside.data c.self.inside.chains.loads c.self.inside.chains.lists c.args.self.now c.args.head
  head = is_head c.self.invariant.filled c.self.view_is c.args.head c.requires

  chain_is : chain_of c.self.inside.chains.lists c.args.head ≡ head.nodes
  chain_is = c.finds_chains.ensures.shelved head.shelf head.place c.args.head (ap (λ ns. slice_get ns 0) head.at ∙ head.begins) ∙ head.at

pub sum_of_lengths-requires : goal.sum_of_lengths-requires
sum_of_lengths-requires c =
    let i = c.self.inside in
    let is = head c in
    summable c.self.invariant.filled (chain_is c) is.begins (omega (arith, is.there, c.self.invariant.filled.listed))
    (omega (arith, small c.self.invariant.filled c.self.view_is c.args.head c.requires, ap size_of is.message))

pub returns : goal.returns
returns c =
    let before = (goal.at.returns c).After-finds_chains in
    let store = c.self.inside.data.store in
    c.sum_of_lengths.ensures ∙ (λ i. sum_by (len_counted false store) (message_of c.self.inside.chains.loads (chain_is before i)))
    ∙ all_counted store (message_of c.self.inside.chains.loads (head before).nodes) ∙ ap size_of (sym (head before).message)
