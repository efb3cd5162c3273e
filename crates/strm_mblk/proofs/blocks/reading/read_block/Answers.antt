use Rattle.std.proofs.Common.{arith}
use Rattle.std.proofs.lemmas.List.{length-take-le}
use Rattle.strm_data.proofs.store.Kept.{capacity_range}
use Rattle.strm_mblk.proofs.Lists.{take-part}
use Rattle.strm_mblk.proofs.blocks.reading.read_block.Goals as goal
use Rattle.std.proofs.lemmas.Grind.{common_steps}

pub overflow_add-fields : goal.overflow_add-fields
overflow_add-fields c = grind (arith, common_steps, capacity_range)

pub returns-clause-bytes : goal.returns-clause-bytes
returns-clause-bytes c n = grind (arith, common_steps, length-take-le, take-part)
