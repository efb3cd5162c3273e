use Rattle.strm_data.specs.CountedStore.{IsKept}
use Rattle.strm_mblk.specs.BlocksLayout.{message_of, IsReached}
use Rattle.strm_links.specs.ChainLists.{nodes_at}
use Rattle.strm_mblk.proofs.pulling.FrontPulled.{IsFrontCopied}
use Rattle.strm_mblk.proofs.blocks.pulling.copy_front.Given as goal

-- the block at this step, and the bytes of those before it
abbrev pub invariant-loop-block : goal.invariant-loop-block
invariant-loop-block l = record {
  at : IsReached l.chains.lists l.head l._block l.node;
  copied : IsFrontCopied l.fn.stored (message_of l.chains.loads (nodes_at l.chains.lists l.head)) l.into l.count l._block l.done l.stored;
  kept : IsKept l.stored;
}
