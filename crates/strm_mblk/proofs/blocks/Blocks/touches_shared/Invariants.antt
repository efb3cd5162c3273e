use Rattle.std.proofs.Common.{◌≡◌, drop}
use Rattle.strm_mblk.specs.Arena.{message_at}
use Rattle.strm_mblk.specs.InPlace.{touches_shared}
use Rattle.strm_mblk.specs.BlocksLayout.{IsReached}
use Rattle.strm_mblk.proofs.blocks.Blocks.touches_shared.Given as goal

-- the block at this step, and what is left to look at
abbrev pub invariant-loop-block : goal.invariant-loop-block
invariant-loop-block l = record {
  at : IsReached l.self-inside.chains.lists l.token.head l._block l.node;
  rest : touches_shared l.self l.at l.count (message_at l.self l.token.head) ≡ touches_shared l.self l.skip l.left (drop l._block (message_at l.self l.token.head));
}
