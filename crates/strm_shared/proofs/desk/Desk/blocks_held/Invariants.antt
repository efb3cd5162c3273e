use Rattle.std.proofs.Common.{◌≡◌, ◌*◌, ◌≤◌, take}
use Rattle.strm_pool.specs.Registers.{entries_of}
use Rattle.strm_shared.specs.Ledger.{blocks_listed}
use Rattle.strm_shared.proofs.desk.Desk.blocks_held.Given as goal

-- the blocks of the registers before this one
abbrev pub invariant-loop-place : goal.invariant-loop-place
invariant-loop-place g l = record {
  sum : l.blocks ≡ blocks_listed (take l.place (entries_of l.self.regs));
  small : l.blocks ≤ l.place * 4294967296;
}
