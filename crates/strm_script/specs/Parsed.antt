-- What `parse` returns: the script or its first fault, unless memory ran out.
use Rattle.std.specs.Prelude.{◌≡◌, Result, Ok, Err}
use Rattle.strm_script.specs.declared.fault.Fault.{Fault}
use Rattle.strm_script.specs.declared.fault.ParseFault.{ParseFault}
use Rattle.strm_script.specs.declared.fault.ParseFault.TheVariants as faults
use Rattle.strm_script.specs.declared.script.Script.{Script}

-- the result is this script or fault, unless memory ran out
abbrev pub Parses : Result Script ParseFault → Result Script Fault → Type 0
Parses (Ok script) read = read ≡ Ok script
Parses (Err (faults.Script found)) read = read ≡ Err found
Parses (Err faults.Memory) read = Unit {0}
