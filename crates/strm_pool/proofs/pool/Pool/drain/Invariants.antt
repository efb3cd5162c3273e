use Rattle.std.proofs.Common.{◌≡◌, ◌++◌}
use Rattle.std.specs.Array.Iter.{array_into_iter_items}
use Rattle.strm_pool.specs.PoolValue.{with_tokens_spent}
use Rattle.strm_pool.proofs.pool.Pool.drain.Given as goal

-- those that were seen have been spent, and they and the others are all
abbrev pub invariant-loop-slot : goal.invariant-loop-slot
invariant-loop-slot l = record {
  spent : l.self ≡ with_tokens_spent l.initial.self l.yielded;
  all : l.yielded ++ array_into_iter_items l.slot-iterator ≡ l.fn.regs;
}
