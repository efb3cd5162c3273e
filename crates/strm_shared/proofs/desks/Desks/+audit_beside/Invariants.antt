use Rattle.std.proofs.Common.{length}
use Rattle.strm_shared.proofs.desks.Desks.+audit_beside.Given as goal

abbrev pub decreases-audit_beside : goal.decreases-audit_beside
decreases-audit_beside g l = length l.self.now
