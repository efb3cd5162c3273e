use Rattle.std.proofs.Common.{◌≡◌, drop, map}
use Rattle.strm_mblk.specs.Arena.{message_at}
use Rattle.strm_mblk.specs.InPlace.{shapes_fit}
use Rattle.strm_mblk.specs.BlocksLayout.{IsReached}
use Rattle.strm_mblk.proofs.blocks.Blocks.fit.Given as goal

-- the block at this step, and the shapes that are left
abbrev pub invariant-loop-shaped : goal.invariant-loop-shaped
invariant-loop-shaped g l = record {
  at : IsReached l.self-inside.chains.lists l.token.head l.shaped-index l.node;
  rest : shapes_fit l.self (map g.S.Shaped.shape l.shapes) (message_at l.self l.token.head)
      ≡ shapes_fit l.self (drop l.shaped-index (map g.S.Shaped.shape l.shapes)) (drop l.shaped-index (message_at l.self l.token.head));
}
