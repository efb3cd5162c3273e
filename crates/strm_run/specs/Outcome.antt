-- What an input gives: its first fault, or a text of its script.
use Rattle.std.specs.Prelude.{◌≡◌, ℕ, ◌+◌, ◌<◌, nat_lt, List, [], ◌++◌, length, slice_index_or, Option, None, Some, Result, Ok, Err, IsOkAnd, if◌then◌else◌}
use Rattle.std.specs.List.{flat_map}
use Rattle.std.specs.Option.{option_map}
use Rattle.strm_pool.specs.declared.config.Config.{Config as ConfigValue}
use Rattle.strm_pool.specs.Config.{fault_of}
use Rattle.strm_pool.specs.declared.line.Entry.{Entry}
use Rattle.strm_shared.specs.Chronicle.{served_from}
use Rattle.strm_script.specs.declared.fault.Fault.{Fault}
use Rattle.strm_run.specs.declared.fault.RunFault.{RunFault}
use Rattle.strm_run.specs.declared.fault.RunFault.TheVariants.{TooLong, Script, Config}
use Rattle.strm_run.specs.declared.runs.Mode.{Mode}
use Rattle.strm_run.specs.declared.runs.Mode.TheVariants.{Serial, Workers}
use Rattle.strm_script.specs.Merge.{Served, IsMerge, merge_of, serial_merge}
use Rattle.strm_script.specs.declared.script.Script.{Script as ScriptValue}
use Rattle.strm_script.specs.Script.{script_of}
use Rattle.strm_script.specs.Text.{entry_text, text_of}

-- ---- the fault

-- a configuration's first fault
abbrev pub fault_of_config : ConfigValue → Option RunFault
fault_of_config config = option_map (λ which. Config which) (fault_of config)

-- a script's first fault, or else that of its configuration
abbrev pub fault_of_script : Result ScriptValue Fault → Option RunFault
fault_of_script (Ok script) = fault_of_config script.config
fault_of_script (Err found) = Some (Script found)

-- an input of more than `most` bytes is too long; otherwise its first fault is its script's
abbrev pub fault_of_input : ℕ → List ℕ → Option RunFault
fault_of_input most input = if nat_lt most (length input) then Some TooLong else fault_of_script (script_of input)

-- ---- the text

-- the text of a script whose lines are executed in this order, which is a merge
abbrev pub IsTextUnder : ScriptValue → List Served → List ℕ → Type 0
IsTextUnder script served text = IsMerge script.parts served × (text ≡ text_of script served)

-- the text of a script under the serial merge
abbrev pub IsSerialText : ScriptValue → List ℕ → Type 0
IsSerialText script text = IsTextUnder script (serial_merge script.parts) text

-- the text of a script under some merge
abbrev pub IsMergedText : ScriptValue → List ℕ → Type 0
IsMergedText script text = (served : List Served) × IsTextUnder script served text

-- The text of a script in this mode. By workers it is under some merge, which the text shows; if there is one section, it is
-- the serial text.
abbrev pub IsTextOf : Mode → ScriptValue → List ℕ → Type 0
IsTextOf Serial script text = IsSerialText script text
IsTextOf Workers script text = IsMergedText script text × (length script.parts ≡ 1 → IsSerialText script text)

-- A text in the order of serving: that of the script under the merge of some entries. It begins with a line for each of them,
-- which has the entry's reply. The first entry has stamp `first` + 1, and each next one has 1 more. There is a desk for each
-- section, which was served exactly the entries of its number, with their stamps. So what desks were served shows which entries
-- these are, and in which order.
pub record IsTextAsServed (script : ScriptValue) (first : ℕ) (desks : List (List (ℕ × Entry))) (text : List ℕ) : Type 0 where
  pub entries : List Entry
  pub under : IsTextUnder script (merge_of entries) text
  pub replied : (report : List ℕ) × (text ≡ flat_map entry_text entries ++ report)
  pub each : length desks ≡ length script.parts
  pub served : (k : ℕ) → k < length script.parts → served_from (first + 1) k entries ≡ slice_index_or desks k []

-- A text with the desks of its workers. By workers, it is in the order in which these desks were served. In serial mode there
-- are no desks.
abbrev pub IsTextBy : Mode → ScriptValue → List (List (ℕ × Entry)) → List ℕ → Type 0
IsTextBy Serial script desks text = IsSerialText script text × (desks ≡ [])
IsTextBy Workers script desks text = IsTextAsServed script 0 desks text

-- the input has no fault, and this is the text of its script
abbrev pub IsTextOfInput : Mode → ℕ → List ℕ → List ℕ → Type 0
IsTextOfInput mode most input text = (fault_of_input most input ≡ None) × IsOkAnd (script_of input) (λ script. IsTextOf mode script text)
