use Rattle.strm_scheduler.proofs.Kept.{hold_kept, still_kept}
use Rattle.strm_scheduler.proofs.sides.Sides.hold.Goals as goal

pub invariant_of-self : goal.invariant_of-self
invariant_of-self c =
    let v = c.self.inside.pool in
    still_kept v c.hold.new.pool c.self.inside.waits (hold_kept v c.lawful.ensures c.args.queue c.args.token c.self.invariant.sides c.hold.new.pool c.hold.ensures.puts.after) c.self.invariant
