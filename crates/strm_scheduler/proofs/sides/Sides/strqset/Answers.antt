use Rattle.std.proofs.Common.{subst}
use Rattle.strm_mblk.specs.Calls.{LeavesBlocks}
use Rattle.strm_pool.specs.PoolValue.{arena, on_queues, queued_blocks_of}
use Rattle.strm_queue.specs.QueueCalls as queues
use Rattle.strm_scheduler.specs.Sides.{SidesValue}
use Rattle.strm_scheduler.proofs.Kept.{still_kept, strqset_kept}
use Rattle.strm_scheduler.proofs.sides.Sides.strqset.Goals as goal

pub invariant_of-self : goal.invariant_of-self
invariant_of-self c =
    let v = c.self.inside.pool in
    still_kept v c.strqset.new.self c.self.inside.waits
    (strqset_kept v c.lawful.ensures c.self.invariant.sides c.args.queue c.args.band c.args.hiwat c.args.lowat c.strqset.new.self c.strqset.ensures.after) c.self.invariant

pub returns-clause-leaves : goal.returns-clause-leaves
returns-clause-leaves c =
    let P : SidesValue → Type 0 = λ v. LeavesBlocks arena (on_queues v.pool (queues.strqset c.args.queue c.args.band c.args.hiwat c.args.lowat (queued_blocks_of v.pool))) v.pool c.strqset.new.self c.strqset.result in
    subst P c.self.view_is c.strqset.ensures
