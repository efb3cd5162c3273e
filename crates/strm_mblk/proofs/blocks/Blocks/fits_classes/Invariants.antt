use Rattle.std.proofs.Common.{◌≡◌, take, true}
use Rattle.strm_mblk.specs.Arena.{message_at}
use Rattle.strm_mblk.specs.BlockCalls.{fits_classes}
use Rattle.strm_mblk.specs.BlocksLayout.{IsReached}
use Rattle.strm_mblk.proofs.blocks.Blocks.fits_classes.Given as goal

-- the block at this step, and that a class fits each block before it
abbrev pub invariant-loop-block : goal.invariant-loop-block
invariant-loop-block l = record {
  at : IsReached l.self-inside.chains.lists l.token.head l._block l.node;
  fitted : fits_classes l.self.store (take l._block (message_at l.self l.token.head)) l.stored.store ≡ true;
}
