use Rattle.std.proofs.Common.{◌≡◌, ◌++◌, [], ◌∷◌, List, drop, length}
use Rattle.std.specs.Prelude.{IsTrue}
use Rattle.strm_pool.specs.PoolValue.{owns}
use Rattle.strm_pool.specs.Registers.{RegisterTable, table_of, entries_of, AreDistinct}
use Rattle.strm_script.specs.Merge.{Served}
use Rattle.strm_run.specs.Holding.{AreHeldAlike}
use Rattle.strm_run.proofs.Serving.{part_text}
use Rattle.strm_run.proofs.serial.serve.Given as goal

-- the text so far, and what is written for the lines that are left
abbrev pub invariant-loop-line : goal.invariant-loop-line
invariant-loop-line l = record {
  owned : IsTrue (owns l.pool l.regs);
  distinct : AreDistinct (table_of l.regs);
  held : AreHeldAlike l.fn.pool (entries_of l.fn.regs ∷ []) l.pool (entries_of l.regs ∷ []);
  text : (before behind : List RegisterTable) (later : List Served) → length before ≡ l.worker
      → l.text.items ++ part_text before behind later l.worker l.pool (table_of l.regs) (drop l.line-index l.lines)
      ≡ l.fn.text.items ++ part_text before behind later l.worker l.fn.pool (table_of l.fn.regs) l.lines;
}
