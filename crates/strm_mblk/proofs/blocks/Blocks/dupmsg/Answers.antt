use Rattle.strm_mblk.proofs.arena.Counts.{all_taken}
use Rattle.strm_mblk.proofs.blocks.Blocks.dupmsg.Goals as goal
use Rattle.std.proofs.lemmas.Grind.{common_steps}
use Rattle.std.proofs.Common.{arith}

pub returns-in-1 : goal.returns-in-1
returns-in-1 c = grind (arith, common_steps, all_taken)

pub returns-in_default : goal.returns-in_default
returns-in_default c = grind (arith, common_steps, all_taken)
