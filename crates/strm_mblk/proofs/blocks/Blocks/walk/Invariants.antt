use Rattle.std.proofs.Common.{◌≡◌, ◌+◌, ◌++◌, drop, take}
use Rattle.strm_mblk.specs.InPlace.{infos_from}
use Rattle.strm_mblk.specs.BlocksLayout.{IsReached}
use Rattle.strm_mblk.proofs.blocks.Blocks.walk.Given as goal

-- the block at this step, and what was written so far
abbrev pub invariant-loop-done : goal.invariant-loop-done
invariant-loop-done l = record {
  at : IsReached l.self-inside.chains.lists l.token.head (l.from + l.done) l.node;
  told : l.into ≡ take l.done (infos_from l.token.head l.from l.self) ++ drop l.done l.fn.into;
}
