use Rattle.std.specs.Prelude.{IsTrue}
use Rattle.strm_mblk.specs.Arena.{has}
use Rattle.strm_bench.proofs.transfers.transfer.Given as goal

-- the message is back here
abbrev pub invariant-loop : goal.invariant-loop
invariant-loop l = IsTrue (has l.here.arena l.token)
