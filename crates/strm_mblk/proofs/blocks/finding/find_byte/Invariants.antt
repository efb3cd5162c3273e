use Rattle.strm_mblk.specs.BlocksLayout.{IsStart}
use Rattle.strm_mblk.proofs.blocks.finding.find_byte.Given as goal

-- the block at this step
abbrev pub invariant-loop-block : goal.invariant-loop-block
invariant-loop-block l = record { start : IsStart l.chains.lists l.chains.loads l.head l.at (record { node = l.node; block = l.block; at = l.skip }) }
