-- What is freed may end the wait of queues, which are woken.
use Rattle.std.proofs.Common.{Ok}
use Rattle.strm_mblk.specs.BlockCalls as blocks
use Rattle.strm_mblk.specs.Calls.{Frees}
use Rattle.strm_pool.specs.PoolValue.{PoolValue, arena, on_arena}
use Rattle.strm_scheduler.proofs.Unchanged.{arena_keeps}
use Rattle.strm_scheduler.proofs.Waking.{wakes_after, woken_after}
use Rattle.strm_scheduler.proofs.sides.Sides.freeb.Goals as goal

pub invariant_of-self : goal.invariant_of-self
invariant_of-self c =
    let v = c.self.inside.pool in
    let x = c.freeb-rest.new.self in
    woken_after v x c.wake.new.pool c.self.inside.waits c.wake.new.self c.wake.ensures.pool c.wake.ensures.waits
    (arena_keeps _ v x (Ok (blocks.freeb c.args.token.head v.arena)) c.freeb-rest.ensures.after c.freeb-rest.ensures.shelves) c.self.invariant

pub returns : goal.returns
returns c =
    let does : PoolValue → PoolValue → Type 0 = λ v left. Frees arena c.args.token (on_arena v (Ok (blocks.freeb c.args.token.head v.arena))) v left (Ok c.freeb-rest.result) in
    wakes_after does c.self.inside.pool c.freeb-rest.new.self c.wake.new.pool c.self.inside.waits c.wake.new.self c.wake.ensures.pool c.wake.ensures.waits c.freeb-rest.ensures c.args.self.now c.self.view_is
