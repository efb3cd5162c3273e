-- The script that some bytes mean, or its first fault.
use Rattle.std.specs.Prelude.{ℕ, ◌+◌, ◌-◌, Bool, true, false, not, ◌==◌, nat_le, sum_by, List, [], ◌∷◌, ◌++◌, length, Option, None, Some, Result, Ok, Err, unwrap_or, slice_get, if◌then◌else◌}
use Rattle.std.specs.List.{slice_split, filter_map}
use Rattle.std.specs.Option.{option_map_or}
use Rattle.strm_data.specs.declared.class_spec.ClassSpec.{ClassSpec}
use Rattle.strm_data.specs.Limits.{most_classes}
use Rattle.strm_pool.specs.declared.call.Call.{Call}
use Rattle.strm_pool.specs.declared.config.Config.{Config}
use Rattle.strm_pool.specs.Config.{is_nil}
use Rattle.strm_queue.specs.declared.queue_spec.QueueSpec.{QueueSpec}
use Rattle.strm_queue.specs.Limits.{most_queues}
use Rattle.strm_script.specs.declared.fault.Fault.{Fault}
use Rattle.strm_script.specs.declared.fault.Kind.{Kind}
use Rattle.strm_script.specs.declared.fault.Kind.TheVariants.{Cut, Unknown, Order, Toomany, Missing}
use Rattle.strm_script.specs.Entry.{Entry, Pool, Class, Queue, Bufcalls, Worker, Command, call_of, entry_of}
use Rattle.strm_pool.specs.declared.line.Line.{Line}
use Rattle.strm_script.specs.declared.script.Script.{Script}
use Rattle.strm_script.specs.Shape.{◌>>=◌}
use Rattle.strm_script.specs.declared.stage.Stage.{Stage}
use Rattle.strm_script.specs.declared.stage.Stage.TheVariants as stages
use Rattle.strm_script.specs.declared.word.Word.{Word}
use Rattle.strm_script.specs.declared.word.Word.TheVariants as words
use Rattle.strm_script.specs.Word.{word_of}
use Rattle.strm_script.specs.Limits.{most_command_lines}
use Rattle.strm_pool.specs.Limits.{most_workers}

-- what a line says, with its number
pub record Numbered : Type 0 where
  pub number : ℕ
  pub entry : Entry

-- ---- the configuration that entries give

abbrev pub pool_line : Entry → Option (ℕ × ℕ)
pool_line (Pool id mblks) = Some (id, mblks)
pool_line _ = None

abbrev pub class_line : Entry → Option ClassSpec
class_line (Class spec) = Some spec
class_line _ = None

abbrev pub queue_line : Entry → Option QueueSpec
queue_line (Queue spec) = Some spec
queue_line _ = None

abbrev pub bufcalls_line : Entry → Option (ℕ × ℕ)
bufcalls_line (Bufcalls wishes first_id) = Some (wishes, first_id)
bufcalls_line _ = None

-- what the entries of one kind say, in order
abbrev pub values_said : {X : Type 0} → (Entry → Option X) → List Numbered → List X
values_said line es = filter_map (λ e. line e.entry) es

-- the two numbers of the first entry of a kind, or zeros
abbrev pub numbers_said : (Entry → Option (ℕ × ℕ)) → List Numbered → ℕ × ℕ
numbers_said line es = unwrap_or (slice_get (values_said line es) 0) (0, 0)

abbrev pub config_of : List Numbered → Config
config_of es = record {
  id = (numbers_said pool_line es).0;
  mblks = (numbers_said pool_line es).1;
  classes = values_said class_line es;
  queues = values_said queue_line es;
  bufcalls = (numbers_said bufcalls_line es).0;
  first_id = (numbers_said bufcalls_line es).1;
}

-- ---- the sections

abbrev pub with_command : ℕ → Entry → List Line → List Line
with_command n Worker rest = []
with_command n (Command call) rest = record { number = n; call = call } ∷ rest
with_command n _ rest = rest

-- the command lines up to the next worker line
abbrev pub lines_of_section : List Numbered → List Line
lines_of_section [] = []
lines_of_section (e ∷ es) = with_command e.number e.entry (lines_of_section es)

abbrev pub with_section : Entry → List Line → List (List Line) → List (List Line)
with_section Worker lines rest = lines ∷ rest
with_section _ lines rest = rest

-- the command lines after each worker line, up to the next one
abbrev pub parts_of : List Numbered → List (List Line)
parts_of [] = []
parts_of (e ∷ es) = with_section e.entry (lines_of_section es) (parts_of es)

-- ---- where a line is allowed

abbrev pub stage_behind : Entry → Stage
stage_behind (Pool id mblks) = stages.Pool
stage_behind (Class spec) = stages.Class
stage_behind (Queue spec) = stages.Queue
stage_behind (Bufcalls wishes first_id) = stages.Bufcalls
stage_behind Worker = stages.Body
stage_behind (Command call) = stages.Body

-- how far a script was read that has these entries
abbrev pub stage_of : List Numbered → Stage
stage_of es = option_map_or (λ e. stage_behind e.entry) (slice_get es (length es - 1)) stages.Start

-- whether a line with this first word is allowed at this stage
abbrev pub may_stand : Stage → Word → Bool
may_stand stages.Start words.Pool = true
may_stand stages.Pool words.Class = true
may_stand stages.Class words.Class = true
may_stand stages.Class words.Queue = true
may_stand stages.Queue words.Queue = true
may_stand stages.Queue words.Bufcalls = true
may_stand stages.Bufcalls words.Worker = true
may_stand stages.Body words.Worker = true
may_stand _ _ = false

-- commands are allowed in sections
abbrev pub is_body : Stage → Bool
is_body stages.Body = true
is_body _ = false

-- whether there are as many lines with this first word as there may be
abbrev pub is_full : List Numbered → Word → Bool
is_full es words.Pool = false
is_full es words.Class = nat_le most_classes (length (values_said class_line es))
is_full es words.Queue = nat_le most_queues (length (values_said queue_line es))
is_full es words.Bufcalls = false
is_full es words.Worker = nat_le most_workers (length (parts_of es))

-- whether there are as many command lines as there may be, over all sections
abbrev pub has_all_commands : List Numbered → Bool
has_all_commands es = nat_le most_command_lines (sum_by length (parts_of es))

-- ---- lines

-- a line that says nothing is empty, or is a comment, which begins with `#`
abbrev pub is_skipped : List ℕ → Bool
is_skipped [] = true
is_skipped (b ∷ bs) = b == 35

abbrev pub with_entry : List Numbered → ℕ → Result Entry Kind → Result (List Numbered) Kind
with_entry es n (Ok entry) = Ok (es ++ record { number = n; entry = entry } ∷ [])
with_entry es n (Err kind) = Err kind

abbrev pub with_word : List Numbered → ℕ → Option Word → List (List ℕ) → Result (List Numbered) Kind
with_word es n None arguments = Err Unknown
with_word es n (Some word) arguments =
    if not (may_stand (stage_of es) word) then Err Order
    else (if is_full es word then Err Toomany else with_entry es n (entry_of word arguments))

-- a command line with this call, or with this fault of its arguments
abbrev pub with_call : List Numbered → ℕ → Result Call Kind → Result (List Numbered) Kind
with_call es n call =
    if not (is_body (stage_of es)) then Err Order
    else (if has_all_commands es then Err Toomany else with_entry es n (call >>= (λ made. Ok (Command made))))

abbrev pub with_words : List Numbered → ℕ → List (List ℕ) → Result (List Numbered) Kind
with_words es n [] = Err Unknown
with_words es n (first ∷ arguments) = option_map_or (with_call es n) (call_of first arguments) (with_word es n (word_of first) arguments)

-- the entries after line n, which spaces split into words
abbrev pub with_line : List Numbered → ℕ → List ℕ → Result (List Numbered) Kind
with_line es n text = if is_skipped text then Ok es else with_words es n (slice_split (λ b. b == 32) text)

abbrev pub fault : {X : Type 0} → ℕ → Kind → Result X Fault
fault n kind = Err (record { line = n; kind = kind })

-- what the rest gives, from the entries so far; or the fault of line n
abbrev pub then_lines : ℕ → Result (List Numbered) Kind → (List Numbered → Result (List Numbered) Fault) → Result (List Numbered) Fault
then_lines n (Ok es) rest = rest es
then_lines n (Err kind) rest = fault n kind

-- The entries of all lines, from line n on. The last piece has no line end, so it must be empty.
abbrev pub entries_from : List Numbered → ℕ → List (List ℕ) → Result (List Numbered) Fault
entries_from es n [] = Ok es
entries_from es n (piece ∷ []) = if is_nil piece then Ok es else fault n Cut
entries_from es n (text ∷ piece ∷ pieces) = then_lines n (with_line es n text) (λ more. entries_from more (n + 1) (piece ∷ pieces))

-- the texts between line ends
abbrev pub pieces_of : List ℕ → List (List ℕ)
pieces_of bytes = slice_split (λ b. b == 10) bytes

-- the script of all entries; if it has no section, one is missing on line n, after its last line
abbrev pub script_or_fault : ℕ → Result (List Numbered) Fault → Result Script Fault
script_or_fault n (Ok es) = if is_nil (parts_of es) then fault n Missing else Ok (record { config = config_of es; parts = parts_of es })
script_or_fault n (Err found) = Err found

abbrev pub script_of : List ℕ → Result Script Fault
script_of bytes = script_or_fault (length (pieces_of bytes)) (entries_from [] 1 (pieces_of bytes))
