-- The lines of the entries so far are appended.
use Rattle.std.proofs.Common.{◌≡◌, ◌++◌, take}
use Rattle.std.specs.List.{flat_map}
use Rattle.strm_script.specs.Text.{entry_text}
use Rattle.strm_run.proofs.by_workers.trace_text.Given as goal

abbrev pub invariant-loop-entry : goal.invariant-loop-entry
invariant-loop-entry l = l.text.items ≡ l.fn.text.items ++ flat_map entry_text (take l.entry-index l.trace)
