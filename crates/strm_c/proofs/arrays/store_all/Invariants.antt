use Rattle.std.proofs.Common.{◌≡◌, ◌+◌, ◌-◌, ◌≤◌, length, map}
use Rattle.strm_mblk.specs.Arena.{message_at}
use Rattle.strm_mblk.specs.InPlace.{infos_from}
use Rattle.strm_c.specs.Exports.{array_with}
use Rattle.strm_c.specs.InC.{block_in_c}
use Rattle.strm_c.proofs.arrays.store_all.Given as goal

-- the place of the next block, and what was stored so far
abbrev pub invariant-loop-done : goal.invariant-loop-done
invariant-loop-done l = record {
  at : l.place ≡ l.from + l.done;
  few : l.done ≤ length (message_at l.named.pool.arena l.msg.head) - l.from;
  within : l.done ≤ length l.into;
  told : l.into ≡ array_with l.done (map block_in_c (infos_from l.msg.head l.from l.named.pool.arena)) l.fn.into;
}

abbrev pub decreases-loop-done : goal.decreases-loop-done
decreases-loop-done l = length l.into - l.done
