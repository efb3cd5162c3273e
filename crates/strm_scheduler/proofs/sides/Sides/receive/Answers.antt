use Rattle.strm_mblk.specs.BlockCalls as blocks
use Rattle.strm_mblk.specs.Calls.{Transfers}
use Rattle.strm_pool.specs.PoolValue.{PoolValue, arena, on_arena, with_token_spent}
use Rattle.strm_scheduler.proofs.Unchanged.{arena_keeps}
use Rattle.strm_scheduler.proofs.Waking.{wakes_after, woken_after}
use Rattle.strm_scheduler.proofs.sides.Sides.receive.Goals as goal

pub invariant_of-self : goal.invariant_of-self
invariant_of-self c =
    let v = c.self.inside.pool in
    let x = c.transfer-moved.new.other in
    let here = c.transfer-moved.ensures.there in
    woken_after v x c.wake.new.pool c.self.inside.waits c.wake.new.self c.wake.ensures.pool c.wake.ensures.waits
    (arena_keeps _ v x (blocks.transfer c.args.other.now.arena c.args.token.head v.arena) here.after here.shelves) c.self.invariant

pub returns : goal.returns
returns c =
    let other = c.args.other.now in
    let does : PoolValue → PoolValue → Type 0 = λ v left.
    Transfers arena c.args.token (on_arena v (blocks.transfer other.arena c.args.token.head v.arena)) (with_token_spent other c.args.token) other c.transfer-moved.new.self v left c.transfer-moved.result in
    wakes_after does c.self.inside.pool c.transfer-moved.new.other c.wake.new.pool c.self.inside.waits c.wake.new.self c.wake.ensures.pool c.wake.ensures.waits c.transfer-moved.ensures c.args.self.now c.self.view_is
