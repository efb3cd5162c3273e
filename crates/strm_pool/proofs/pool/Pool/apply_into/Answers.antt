use Rattle.strm_pool.specs.Registers.{table_of}
use Rattle.strm_pool.proofs.Applied.{applies_nothing, step_refused}
use Rattle.strm_pool.proofs.pool.Pool.apply_into.Goals as goal

pub returns-then-is_refused : goal.returns-then-is_refused
returns-then-is_refused c =
    let v = c.args.self.now in
    let rs = c.args.regs.now in
    applies_nothing v rs c.args.call.now c.is_refused.new.reply c.requires (step_refused v (table_of rs) c.args.call.now (c.is_refused.ensures.refused c.if-is_refused.true))
