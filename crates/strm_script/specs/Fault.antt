-- The names of a script's faults, and the fault of a script by that of a line.
use Rattle.std.specs.Prelude.{ℕ, List, codes}
use Rattle.strm_script.specs.declared.fault.Kind.{Kind}
use Rattle.strm_script.specs.declared.fault.LineFault.{LineFault}
use Rattle.strm_script.specs.declared.fault.LineFault.TheVariants as lines
use Rattle.strm_script.specs.declared.fault.ParseFault.{ParseFault}
use Rattle.strm_script.specs.declared.fault.ParseFault.TheVariants as faults
use Rattle.strm_script.specs.declared.fault.Kind.TheVariants.{Cut, Unknown, Order, Toomany, Shape, Number, Register, Word, Hex, Missing}

abbrev pub kind_text : Kind → List ℕ
kind_text Cut = codes "cut"
kind_text Unknown = codes "unknown"
kind_text Order = codes "order"
kind_text Toomany = codes "toomany"
kind_text Shape = codes "shape"
kind_text Number = codes "number"
kind_text Register = codes "register"
kind_text Word = codes "word"
kind_text Hex = codes "hex"
kind_text Missing = codes "missing"

-- why a script was not read, by why its line n was not read
abbrev pub on_line : ℕ → LineFault → ParseFault
on_line n (lines.Kind kind) = faults.Script (record { line = n; kind = kind })
on_line n lines.Memory = faults.Memory
