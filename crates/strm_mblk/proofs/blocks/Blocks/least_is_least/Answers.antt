use Rattle.std.proofs.Common.{subst}
use Rattle.strm_mblk.specs.Arena.{IsLeastFree}
use Rattle.strm_mblk.proofs.blocks.Blocks.least_is_least.Goals as goal

pub returns : goal.returns
returns c = subst IsLeastFree c.self.view_is (record { message_blocks = c.self.invariant.filled.parted.least; data_blocks = c.least_is_least.ensures })
