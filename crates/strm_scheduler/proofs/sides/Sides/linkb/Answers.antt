use Rattle.std.proofs.Common.{Ok}
use Rattle.strm_mblk.specs.BlockCalls as blocks
use Rattle.strm_scheduler.proofs.Unchanged.{arena_keeps, linkb_free}
use Rattle.strm_scheduler.proofs.Waking.{held_kept}
use Rattle.strm_scheduler.proofs.sides.Sides.linkb.Goals as goal

pub invariant_of-self : goal.invariant_of-self
invariant_of-self c =
    let v = c.self.inside.pool in
    let x = c.linkb.new.self in
    let joined = blocks.linkb c.args.token.now.head c.args.tail.head v.arena in
    held_kept v x c.self.inside.waits (arena_keeps _ v x (Ok (c.args.tail.head, joined)) c.linkb.ensures.after c.linkb.ensures.shelves)
    (linkb_free c.args.token.now.head c.args.tail.head v x c.linkb.ensures.after) c.self.invariant
