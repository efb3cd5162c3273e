use Rattle.strm_scheduler.proofs.Kept.{bcanput_kept, still_kept}
use Rattle.strm_scheduler.proofs.sides.Sides.bcanput.Goals as goal

pub invariant_of-self : goal.invariant_of-self
invariant_of-self c =
    let v = c.self.inside.pool in
    still_kept v c.bcanput.new.self c.self.inside.waits
    (bcanput_kept v c.lawful.ensures c.self.invariant.sides c.args.queue c.args.band c.bcanput.new.self c.bcanput.ensures.after) c.self.invariant
