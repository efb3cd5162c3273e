use Rattle.std.proofs.Common.{arith, length-set, get_or-set_same, get_or-set_other}
use Rattle.strm_mblk.proofs.making.CopiesCounted.{free_past, told, untold}
use Rattle.strm_mblk.proofs.blocks.copying.free_counts.Goals as goal
use Rattle.std.proofs.lemmas.Grind.{common_steps}

pub returns-in_default : goal.returns-in_default
returns-in_default c k = grind (arith, common_steps, free_past, untold)

pub loop-class-preserved : goal.loop-class-preserved
loop-class-preserved c = grind (arith, common_steps, told, get_or-set_same, get_or-set_other, length-set)
