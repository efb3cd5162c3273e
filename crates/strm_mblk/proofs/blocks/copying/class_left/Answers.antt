use Rattle.std.proofs.Common.{sym, ◌∙◌, arith}
use Rattle.strm_mblk.proofs.making.CopiesCounted.{IsTold, told, untold}
use Rattle.strm_mblk.proofs.blocks.copying.class_left.Goals.{In-Some, else-info-size-via-else-info-size, else-info-size-via-then-info-size+else-left-from-gt0}
use Rattle.strm_mblk.proofs.blocks.copying.class_left.Goals as goal
use Rattle.std.proofs.lemmas.Grind.{common_steps}

-- what `class_info` returns at this step
tells : (c : In-Some) → IsTold c.args.stored.now.store c.loop-class.class c.in-Some.info
tells c = told c.requires c.loop-class.class (sym c.class_info.ensures.answer ∙ c.in-Some.is)

pub returns-in_default-clause-first : goal.returns-in_default-clause-first
returns-in_default-clause-first c k _ is = grind (arith, common_steps, untold)

pub returns-then-left-from-gt0-clause-found : goal.returns-then-left-from-gt0-clause-found
returns-then-left-from-gt0-clause-found c = grind (arith, common_steps, tells)

pub loop-class-preserved : goal.loop-class-preserved
loop-class-preserved c k below is = grind (arith, common_steps, tells, else-info-size-via-then-info-size+else-left-from-gt0, else-info-size-via-else-info-size)
