use Rattle.std.proofs.Common.{subst}
use Rattle.strm_scheduler.specs.Laws.{AreKept}
use Rattle.strm_scheduler.proofs.sides.Sides.lawful.Goals as goal

pub returns : goal.returns
returns c = subst AreKept c.self.view_is c.self.invariant
