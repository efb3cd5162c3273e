-- No run ends with the status of a refusal.
use Rattle.std.proofs.Common.{◌≤◌, arith}
use Rattle.strm_run.specs.declared.fault.RunFault.{RunFault}
use Rattle.strm_run.specs.declared.fault.RunFault.TheVariants.{Read, TooLong, Write, Script, Config, Memory, Refused}
use Rattle.strm_run.specs.Told.{IsRunFault, status_of}

-- a fault that is ever met has one of these statuses
pub met_status : (fault : RunFault) → IsRunFault fault → status_of fault ≤ 3
met_status Read met = omega arith
met_status TooLong met = omega arith
met_status Write met = omega arith
met_status (Script found) met = omega arith
met_status (Config which) met = omega arith
met_status Memory met = omega arith
met_status (Refused why) met = absurd met
