use Rattle.std.proofs.Common.{length}
use Rattle.strm_shared.proofs.desks.Desks.+meet.Given as goal

abbrev pub decreases-meet : goal.decreases-meet
decreases-meet g l = length l.self.now
