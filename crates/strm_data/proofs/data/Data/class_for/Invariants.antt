use Rattle.std.proofs.Common.{◌≡◌}
use Rattle.strm_data.specs.DataLayout.{store_of}
use Rattle.strm_data.specs.DataStore.{fitting_blocks}
use Rattle.strm_data.proofs.store.Lawful.{fitting_from}
use Rattle.strm_data.proofs.data.Data.class_for.Given as goal

-- the classes seen give nothing
abbrev pub invariant-loop-number : goal.invariant-loop-number
invariant-loop-number l = let s = (store_of l.self-inside).store in fitting_blocks l.size s ≡ fitting_from l.size s l.number
