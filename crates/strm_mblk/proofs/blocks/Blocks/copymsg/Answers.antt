use Rattle.strm_mblk.proofs.arena.Counts.{all_taken}
use Rattle.strm_mblk.proofs.blocks.Blocks.copymsg.Goals as goal
use Rattle.std.proofs.lemmas.Grind.{common_steps}
use Rattle.std.proofs.Common.{arith}

pub returns : goal.returns
returns c = grind (arith, common_steps, all_taken)
