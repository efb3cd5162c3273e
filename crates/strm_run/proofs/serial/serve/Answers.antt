use Rattle.std.proofs.Common.{arith}
use Rattle.strm_pool.specs.Registers.{table_of}
use Rattle.strm_run.proofs.Holding.{alike_applied}
use Rattle.strm_run.proofs.Serving.{part_text-next, part_text-end}
use Rattle.strm_run.proofs.serial.serve.Goals as goal

pub loop-line-preserved : goal.loop-line-preserved
loop-line-preserved c =
    let held = c.apply_into.ensures.owned c.loop-line.invariant.distinct in
    record {
      owned = held.0;
      distinct = held.1;
      held = alike_applied c.args.pool.now c.loop-line.pool c.apply_into.new.self _ c.loop-line.regs c.apply_into.new.regs _ c.apply_into.new.reply c.apply_into.ensures c.loop-line.invariant.held;
      text = λ before behind later place.
          part_text-next c.loop-line.text.items c.reply_text.new.text.items _ before behind later c.args.worker c.loop-line.pool c.apply_into.new.self (table_of c.loop-line.regs) (table_of c.apply_into.new.regs)
          c.args.lines.now c.loop-line.line-index c.line-item.result c.apply_into.new.reply place (omega (arith, c.loop-line-test.true)) c.line-item.is c.apply_into.ensures.step c.in_ok-reply_text.ensures.ok
          (c.loop-line.invariant.text before behind later place);
    }

pub returns-in_err-reply_text-clause-held : goal.returns-in_err-reply_text-clause-held
returns-in_err-reply_text-clause-held c =
    alike_applied c.args.pool.now c.loop-line.pool c.apply_into.new.self _ c.loop-line.regs c.apply_into.new.regs _ c.apply_into.new.reply c.apply_into.ensures c.loop-line.invariant.held

pub returns-clause-text : goal.returns-clause-text
returns-clause-text c = λ before behind later place.
    part_text-end c.loop-line.text.items _ before behind later c.args.worker c.loop-line.pool (table_of c.loop-line.regs) c.args.lines.now c.loop-line.line-index (omega (arith, c.loop-line-test.false))
    (c.loop-line.invariant.text before behind later place)
