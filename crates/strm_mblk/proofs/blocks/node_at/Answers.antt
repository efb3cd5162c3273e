use Rattle.std.proofs.Common.{ap, ◌∙◌}
use Rattle.std.specs.Prelude.{slice_get}
use Rattle.strm_mblk.proofs.Nodes.{chain_is}
use Rattle.strm_mblk.proofs.layout.HeldBlocks.{nodes_room}
use Rattle.strm_mblk.proofs.blocks.node_at.Goals as goal

pub node_of-requires : goal.node_of-requires
node_of-requires c = record {
  begins = ap (λ ns. slice_get ns 0) (chain_is c.args.chains.now.lists c.args.head 0 c.requires) ∙ c.requires;
  there = nodes_room c.args.chains.now.lists c.args.head c.requires;
}

pub returns : goal.returns
returns c = record {
  value = c.node_of.ensures.value ∙ ap (λ ns. slice_get ns c.args.place) (chain_is c.args.chains.now.lists c.args.head 0 c.requires);
  in_range = c.node_of.ensures.in_range;
}
