-- The constant of the code is the number of the definition.
use Rattle.std.proofs.Common.{◌≡◌, refl}
use Rattle.strm_mblk.specs.declared.limits.TheConstants.{MOST_MESSAGE_BLOCKS}
use Rattle.strm_mblk.specs.Limits.{most_message_blocks}

pub message_blocks : MOST_MESSAGE_BLOCKS ≡ most_message_blocks
message_blocks = refl
