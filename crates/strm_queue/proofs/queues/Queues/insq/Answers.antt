use Rattle.std.proofs.Common.{arith}
use Rattle.strm_queue.proofs.queues.Queues.insq.Goals as goal

pub returns-clause-does : goal.returns-clause-does
returns-clause-does c =
    c.insert.ensures.does c.args.place (omega (arith, c.len.ensures c.args.blocks.now c.requires.agrees.in_order, c.if-place-len.false)) c.head_at-before.ensures.value
