use Rattle.strm_links.specs.ChainLists.{nodes_at}
use Rattle.strm_mblk.specs.BlocksLayout.{IsReached}
use Rattle.strm_mblk.proofs.Trimming.{IsMeasured}
use Rattle.strm_mblk.proofs.blocks.trimming.run_in.Given as goal

-- the block at this step, and the run of those before it
abbrev pub invariant-loop-block : goal.invariant-loop-block
invariant-loop-block l = record {
  at : IsReached l.chains.lists l.head l.block l.node;
  measured : IsMeasured l.from_tail l.stored.store l.chains.loads (nodes_at l.chains.lists l.head) l.block l.run;
}
