-- The entries whose meaning a draft has. No clause of `parse` cites this module.
use Rattle.std.specs.Prelude.{◌≡◌, ℕ, ◌+◌, ◌<◌, sum_by, List, [], ◌∷◌, ◌++◌, length, Result, Ok, Err}
use Rattle.strm_data.specs.Limits.{most_classes}
use Rattle.strm_queue.specs.Limits.{most_queues}
use Rattle.strm_pool.specs.declared.line.Line.{Line}
use Rattle.strm_pool.specs.Limits.{most_workers}
use Rattle.strm_script.specs.declared.draft.Draft.{Draft}
use Rattle.strm_script.specs.declared.fault.Kind.{Kind}
use Rattle.strm_script.specs.declared.fault.LineFault.{LineFault}
use Rattle.strm_script.specs.declared.fault.LineFault.TheVariants as faults
use Rattle.strm_script.specs.declared.stage.Stage.{Stage}
use Rattle.strm_script.specs.declared.stage.Stage.TheVariants as stages
use Rattle.strm_script.specs.declared.word.Word.{Word}
use Rattle.strm_script.specs.declared.word.Word.TheVariants as words
use Rattle.strm_script.specs.Limits.{most_command_lines}
use Rattle.strm_script.specs.Script.{Numbered, pool_line, class_line, queue_line, bufcalls_line, values_said, parts_of, stage_of, with_entry}
use Rattle.strm_script.specs.Entry.{entry_of}

-- the numbers of the pool line, once it was read
abbrev pub pool_at : Stage → ℕ × ℕ → List (ℕ × ℕ)
pool_at stages.Start numbers = []
pool_at _ numbers = numbers ∷ []

-- the numbers of the bufcalls line, once it was read
abbrev pub wishes_at : Stage → ℕ × ℕ → List (ℕ × ℕ)
wishes_at stages.Bufcalls numbers = numbers ∷ []
wishes_at stages.Body numbers = numbers ∷ []
wishes_at _ numbers = []

-- the sections, once the first has begun: the complete ones, then the one that is being read
abbrev pub parts_at : Stage → List (List Line) → List Line → List (List Line)
parts_at stages.Body whole lines = whole ++ lines ∷ []
parts_at _ whole lines = []

-- before the first section has begun, there are no sections and no command lines
abbrev pub IsIdleAt : Stage → List (List Line) → List Line → Type 0
IsIdleAt stages.Body whole lines = Unit {0}
IsIdleAt _ whole lines = (whole ≡ []) × (lines ≡ [])

-- a draft has the meaning of these entries
pub record StandsFor (d : Draft) (es : List Numbered) : Type 0 where
  pub stage : stage_of es ≡ d.stage
  pub pool : values_said pool_line es ≡ pool_at d.stage (d.id, d.mblks)
  pub classes : values_said class_line es ≡ d.classes.items
  pub queues : values_said queue_line es ≡ d.queues.items
  pub wishes : values_said bufcalls_line es ≡ wishes_at d.stage (d.bufcalls, d.first_id)
  pub parts : parts_of es ≡ parts_at d.stage d.parts.items d.lines.items
  pub left : d.left + sum_by length (parts_of es) ≡ most_command_lines
  pub few : length d.parts.items < most_workers
  pub idle : IsIdleAt d.stage d.parts.items d.lines.items

-- there is room for one more line with this first word
abbrev pub HasRoom : Draft → Word → Type 0
HasRoom d words.Class = length d.classes.items < most_classes
HasRoom d words.Queue = length d.queues.items < most_queues
HasRoom d words.Worker = length d.parts.items + 1 < most_workers
HasRoom d _ = Unit {0}

-- the entries after a line with this first word, or the word's fault
abbrev pub with_first : List Numbered → ℕ → Result Word Kind → List (List ℕ) → Result (List Numbered) Kind
with_first es n (Ok word) arguments = with_entry es n (entry_of word arguments)
with_first es n (Err kind) arguments = Err kind

-- reading a line gave a draft with the meaning of these entries, or the line's fault, unless memory ran out
abbrev pub Reads : Draft → Result (Unit {0}) LineFault → Result (List Numbered) Kind → Type 0
Reads new (Ok done) read = (es : List Numbered) × (read ≡ Ok es) × StandsFor new es
Reads new (Err (faults.Kind kind)) read = read ≡ Err kind
Reads new (Err faults.Memory) read = Unit {0}
