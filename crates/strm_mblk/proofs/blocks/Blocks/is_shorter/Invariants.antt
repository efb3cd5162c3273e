use Rattle.std.proofs.Common.{◌≡◌, ◌+◌, drop}
use Rattle.strm_mblk.specs.Arena.{message_at}
use Rattle.strm_mblk.specs.Block.{size_of}
use Rattle.strm_mblk.specs.BlocksLayout.{IsReached}
use Rattle.strm_mblk.proofs.blocks.Blocks.is_shorter.Given as goal

-- the block at this step, and how many bytes it and the blocks after it are to have
abbrev pub invariant-loop-block : goal.invariant-loop-block
invariant-loop-block l = record {
  at : IsReached l.self-inside.chains.lists l.token.head l._block l.node;
  rest : size_of (message_at l.self l.token.head) + l.left ≡ l.count + size_of (drop l._block (message_at l.self l.token.head));
}
