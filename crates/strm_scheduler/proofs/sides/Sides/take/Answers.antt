-- The queue is the last of its side.
use Rattle.strm_scheduler.proofs.Kept.{getq_kept, still_kept}
use Rattle.strm_scheduler.proofs.sides.Sides.take.Goals as goal

pub invariant_of-self : goal.invariant_of-self
invariant_of-self c =
    let v = c.self.inside.pool in
    still_kept v c.getq.new.self c.self.inside.waits
    (getq_kept v c.lawful.ensures c.self.invariant.sides c.args.queue c.in_ok-spec.spec c.in_ok-spec.ensures c.if-is_some.ensures c.getq.new.self c.getq.ensures.after) c.self.invariant
