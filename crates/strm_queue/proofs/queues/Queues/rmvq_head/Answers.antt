use Rattle.std.proofs.Common.{◌≡◌, Ok, sym, ◌∙◌, subst, arith}
use Rattle.strm_mblk.specs.Calls.{Takes}
use Rattle.strm_mblk.proofs.arena.Calls.{takes_none}
use Rattle.strm_queue.specs.QueueLooks.{queue_of}
use Rattle.strm_queue.specs.QueuedBlocks.{QueuedBlocks, arena, queued_blocks}
use Rattle.strm_queue.proofs.moving.Gets.{place_found, queue_found, rmvq_head_is, rmvq_head_refused}
use Rattle.strm_queue.proofs.Shelf.{shelf_has, shelf_there}
use Rattle.strm_queue.proofs.queues.Queues.rmvq_head.Goals as goal
use Rattle.strm_queue.proofs.queues.Queues.rmvq_head.Goals.{In-Ok}

abbrev both : In-Ok → QueuedBlocks
both c = queued_blocks c.args.self.now c.args.blocks.now

is_of : (c : In-Ok) → queue_of c.args.head (both c) ≡ Ok c.in-Ok.queue
is_of c = sym c.queue_of.ensures ∙ c.in-Ok.is

pub remove-requires-clause-queue : goal.remove-requires-clause-queue
remove-requires-clause-queue c =
    let at = (goal.at.remove-requires-clause-queue c).In-Ok in
    omega (arith, shelf_there c.args.blocks.now c.args.head c.in-Ok.queue (queue_found (both at) c.args.head c.in-Ok.queue (is_of at)), c.requires.in_order.shelves)

pub remove-requires-clause-there : goal.remove-requires-clause-there
remove-requires-clause-there c =
    let at = (goal.at.remove-requires-clause-there c).In-Ok in
    shelf_has c.args.blocks.now c.args.head c.in-Ok.queue (queue_found (both at) c.args.head c.in-Ok.queue (is_of at))

pub returns-in-Ok-clause-does : goal.returns-in-Ok-clause-does
returns-in-Ok-clause-does c =
    let at = (goal.at.returns-in-Ok-clause-does c).In-Ok in
    let placed = place_found (both at) c.args.head c.in-Ok.queue (is_of at) in
    subst (λ g. Takes arena g (both at) (queued_blocks c.remove.new.self c.remove.new.blocks) (Ok c.remove.result))
    (sym (rmvq_head_is (both at) c.args.head c.in-Ok.queue (is_of at)))
    (c.remove.ensures.does placed.place placed.at)

pub returns-in-Err-clause-does : goal.returns-in-Err-clause-does
returns-in-Err-clause-does c =
    takes_none arena (queued_blocks c.args.self.now c.args.blocks.now) _ c.in-Err.why
    (rmvq_head_refused (queued_blocks c.args.self.now c.args.blocks.now) c.args.head c.in-Err.why (sym c.queue_of.ensures ∙ c.in-Err.is))
