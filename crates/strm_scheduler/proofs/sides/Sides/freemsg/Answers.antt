-- What is freed may end the wait of queues, which are woken.
use Rattle.std.proofs.Common.{Ok, [], ◌∷◌}
use Rattle.strm_mblk.specs.Calls.{Spends}
use Rattle.strm_mblk.specs.Freeing as freeing
use Rattle.strm_pool.specs.PoolValue.{PoolValue, arena, with_arena}
use Rattle.strm_scheduler.proofs.Unchanged.{arena_keeps}
use Rattle.strm_scheduler.proofs.Waking.{wakes_after, woken_after}
use Rattle.strm_scheduler.proofs.sides.Sides.freemsg.Goals as goal

pub invariant_of-self : goal.invariant_of-self
invariant_of-self c =
    let v = c.self.inside.pool in
    let x = c.free_held.new.self in
    woken_after v x c.wake.new.pool c.self.inside.waits c.wake.new.self c.wake.ensures.pool c.wake.ensures.waits
    (arena_keeps (c.args.token.head ∷ []) v x (Ok (c.args.token.head, freeing.freemsg c.args.token.head v.arena)) c.free_held.ensures.after c.free_held.ensures.shelves) c.self.invariant

pub returns : goal.returns
returns c =
    let v = c.self.inside.pool in
    let does : PoolValue → PoolValue → Type 0 = λ v left. Spends arena c.args.token (with_arena v (freeing.freemsg c.args.token.head v.arena)) v left in
    wakes_after does v c.free_held.new.self c.wake.new.pool c.self.inside.waits c.wake.new.self c.wake.ensures.pool c.wake.ensures.waits c.free_held.ensures c.args.self.now c.self.view_is
