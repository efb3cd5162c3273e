-- What the fault of a run says of the input, of the reader and of the writer; and the exit status.
use Rattle.std.specs.Prelude.{◌≡◌, ℕ, Bool, true, false, Option, None, Some, Result, Ok, Err}
use Rattle.strm_data.specs.declared.refusal.Refusal.TheVariants.{BadShared}
use Rattle.strm_pool.specs.declared.config.NewFault.{NewFault}
use Rattle.strm_pool.specs.declared.config.NewFault.TheVariants as new_faults
use Rattle.strm_pool.specs.declared.config.Which.{Which}
use Rattle.strm_script.specs.declared.fault.ParseFault.{ParseFault}
use Rattle.strm_script.specs.declared.fault.ParseFault.TheVariants as parse_faults
use Rattle.strm_shared.specs.declared.outcome.End.{End}
use Rattle.strm_shared.specs.declared.outcome.End.TheVariants as ends
use Rattle.strm_run.specs.declared.fault.RunFault.{RunFault}
use Rattle.strm_run.specs.declared.fault.RunFault.TheVariants.{Read, TooLong, Write, Script, Config, Memory, Refused}
use Rattle.strm_run.specs.declared.fault.TextFault.{TextFault}
use Rattle.strm_run.specs.declared.fault.TextFault.TheVariants as text_faults
use Rattle.strm_run.specs.declared.input.ReadFault.{ReadFault}
use Rattle.strm_run.specs.declared.input.ReadFault.TheVariants as read_faults

-- ---- what a fault says of the first fault of its input

-- `Read` and `Memory` can come with any input, and `Write` only if the input has no fault. Each other fault is the input's
-- first. No worker is ever refused.
abbrev pub TellsFault : RunFault → Option RunFault → Type 0
TellsFault Read first = Unit {0}
TellsFault TooLong first = first ≡ Some TooLong
TellsFault Write first = first ≡ None
TellsFault (Script found) first = first ≡ Some (Script found)
TellsFault (Config which) first = first ≡ Some (Config which)
TellsFault Memory first = Unit {0}
TellsFault (Refused why) first = ⊥

-- The configuration's first fault is found before memory is refused. A pool, and its sharing, has no other fault.
abbrev pub TellsNewFault : NewFault → Option Which → Type 0
TellsNewFault (new_faults.BadConfig which) first = first ≡ Some which
TellsNewFault new_faults.BadShared first = ⊥
TellsNewFault new_faults.Memory first = first ≡ None

-- the faults that a run can have: no worker is refused
abbrev pub IsRunFault : RunFault → Type 0
IsRunFault (Refused why) = ⊥
IsRunFault other = Unit {0}

-- ---- what a fault says of the reader and of the writer

abbrev pub is_read : RunFault → Bool
is_read Read = true
is_read TooLong = false
is_read Write = false
is_read (Script found) = false
is_read (Config which) = false
is_read Memory = false
is_read (Refused why) = false

abbrev pub is_write : RunFault → Bool
is_write Read = false
is_write TooLong = false
is_write Write = true
is_write (Script found) = false
is_write (Config which) = false
is_write Memory = false
is_write (Refused why) = false

-- the result is an error of this sort
abbrev pub errs : {X E : Type 0} → (E → Bool) → Result X E → Bool
errs sort (Ok x) = false
errs sort (Err e) = sort e

-- ---- the fault of a run, by that of its part

abbrev pub text_fault_of_parse : ParseFault → TextFault
text_fault_of_parse (parse_faults.Script found) = text_faults.Script found
text_fault_of_parse parse_faults.Memory = text_faults.Memory

abbrev pub text_fault_of_new : NewFault → TextFault
text_fault_of_new (new_faults.BadConfig which) = text_faults.Config which
text_fault_of_new new_faults.BadShared = text_faults.Refused BadShared
text_fault_of_new new_faults.Memory = text_faults.Memory

abbrev pub run_fault_of_read : ReadFault → RunFault
run_fault_of_read read_faults.Read = Read
run_fault_of_read read_faults.TooLong = TooLong
run_fault_of_read read_faults.Memory = Memory

abbrev pub run_fault_of_text : TextFault → RunFault
run_fault_of_text (text_faults.Script found) = Script found
run_fault_of_text (text_faults.Config which) = Config which
run_fault_of_text text_faults.Memory = Memory
run_fault_of_text (text_faults.Refused why) = Refused why

-- ---- how a run ends

abbrev pub is_not_started : End → Bool
is_not_started ends.Done = false
is_not_started (ends.Refused why) = false
is_not_started ends.NotStarted = true

-- the exit status of the program after a fault; without one it is 0
abbrev pub status_of : RunFault → ℕ
status_of Read = 1
status_of TooLong = 1
status_of Write = 1
status_of (Script found) = 2
status_of (Config which) = 2
status_of Memory = 3
status_of (Refused why) = 4
