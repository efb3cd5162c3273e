-- What is freed here may end the wait of queues, which are woken.
use Rattle.strm_mblk.specs.BlockCalls as blocks
use Rattle.strm_mblk.specs.Calls.{Transfers}
use Rattle.strm_pool.specs.PoolValue.{PoolValue, arena, on_arena, with_token_spent}
use Rattle.strm_scheduler.proofs.Unchanged.{transfer_keeps}
use Rattle.strm_scheduler.proofs.Waking.{wakes_after, woken_after}
use Rattle.strm_scheduler.proofs.sides.Sides.transfer.Goals as goal

pub invariant_of-self : goal.invariant_of-self
invariant_of-self c =
    let v = c.self.inside.pool in
    let x = c.transfer-moved.new.self in
    woken_after v x c.wake.new.pool c.self.inside.waits c.wake.new.self c.wake.ensures.pool c.wake.ensures.waits
    (transfer_keeps c.args.token v x c.transfer-moved.result c.transfer-moved.ensures.here) c.self.invariant

pub returns : goal.returns
returns c =
    let other = c.args.other.now in
    let does : PoolValue → PoolValue → Type 0 = λ v left.
    Transfers arena c.args.token (on_arena other (blocks.transfer v.arena c.args.token.head other.arena)) (with_token_spent v c.args.token) v left other c.transfer-moved.new.other c.transfer-moved.result in
    wakes_after does c.self.inside.pool c.transfer-moved.new.self c.wake.new.pool c.self.inside.waits c.wake.new.self c.wake.ensures.pool c.wake.ensures.waits c.transfer-moved.ensures c.args.self.now c.self.view_is
