use Rattle.std.proofs.Common.{subst}
use Rattle.strm_mblk.specs.Calls.{Puts}
use Rattle.strm_pool.specs.PoolValue.{arena, on_queues, queued_blocks_of}
use Rattle.strm_queue.specs.QueueCalls as queues
use Rattle.strm_scheduler.specs.Sides.{SidesValue}
use Rattle.strm_scheduler.proofs.Kept.{putq_kept, still_kept}
use Rattle.strm_scheduler.proofs.sides.Sides.put.Goals as goal

pub invariant_of-self : goal.invariant_of-self
invariant_of-self c =
    let v = c.self.inside.pool in
    still_kept v c.putq.new.self c.self.inside.waits
    (putq_kept v c.lawful.ensures c.self.invariant.sides c.args.queue c.args.token.head c.putq.new.self c.putq.ensures.after) c.self.invariant

pub returns-clause-puts : goal.returns-clause-puts
returns-clause-puts c =
    let P : SidesValue → Type 0 = λ v. Puts arena c.args.token (on_queues v.pool (queues.putq c.args.queue c.args.token.head (queued_blocks_of v.pool))) v.pool c.putq.new.self c.putq.result in
    subst P c.self.view_is c.putq.ensures
