-- A message that went is one more, and the first that stays is the end.
use Rattle.strm_scheduler.proofs.Looping.{ended, ended_whole, further}
use Rattle.strm_scheduler.proofs.service.forward.Goals as goal

pub loop-from-preserved : goal.loop-from-preserved
loop-from-preserved c = further c.args.from c.args.to c.args.pool.now c.loop-from.count c.loop-from.pool c.hand_on.new.pool c.loop-from.invariant c.loop-from-test.ensures.does c.loop-from-test.ensures.moves

pub returns-clause-does : goal.returns-clause-does
returns-clause-does c = ended_whole c.args.from c.args.to c.args.pool.now c.loop-from.count c.loop-from.pool c.hand_on.new.pool c.loop-from.invariant c.loop-from-test.ensures.does

pub returns-clause-forwards : goal.returns-clause-forwards
returns-clause-forwards c =
    ended c.args.from c.args.to c.args.pool.now c.loop-from.count c.loop-from.pool c.hand_on.new.pool c.loop-from.invariant c.loop-from-test.ensures.moves c.lawful.ensures.whole c.lawful-2.ensures.whole
