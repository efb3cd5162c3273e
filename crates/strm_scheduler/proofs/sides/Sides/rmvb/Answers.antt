use Rattle.strm_mblk.specs.BlockCalls as blocks
use Rattle.strm_scheduler.proofs.Unchanged.{arena_keeps, rmvb_free}
use Rattle.strm_scheduler.proofs.Waking.{held_kept}
use Rattle.strm_scheduler.proofs.sides.Sides.rmvb.Goals as goal

pub invariant_of-self : goal.invariant_of-self
invariant_of-self c =
    let v = c.self.inside.pool in
    let x = c.rmvb.new.self in
    held_kept v x c.self.inside.waits (arena_keeps _ v x (blocks.rmvb c.args.token.head c.args.place v.arena) c.rmvb.ensures.after c.rmvb.ensures.shelves)
    (rmvb_free c.args.token.head c.args.place v x c.rmvb.ensures.after) c.self.invariant
