use Rattle.std.proofs.Common.{◌≡◌, true, [], sym, ◌∙◌, arith}
use Rattle.std.proofs.lemmas.Grind.{common_steps}
use Rattle.std.proofs.lemmas.List.{append-nil}
use Rattle.strm_mblk.specs.Arena.{shelf_at}
use Rattle.strm_mblk.specs.Shelves.{is_on}
use Rattle.strm_mblk.proofs.arena.Stands.{shelf_of-there}
use Rattle.strm_queue.proofs.order.Order.{ahead_some, ahead_there, fits_slot, last_there}
use Rattle.strm_queue.proofs.queues.places.ahead_of.Goals as goal
use Rattle.strm_queue.proofs.queues.places.ahead_of.Goals.{In-Some}

-- the message is on the queue
there : (c : In-Some) → is_on c.args.blocks.now c.args.queue c.in-Some.head ≡ true
there c = c.requires.before c.in-Some.head c.in-Some.is

pub before-requires : goal.before-requires
before-requires c = shelf_of-there c.args.blocks.now c.args.queue c.in-Some.head (c.requires.before c.in-Some.head c.in-Some.is)

pub of-requires : goal.of-requires
of-requires c =
    let here = there (goal.at.of-requires c).In-Some in
    fits_slot c.args.blocks.now c.lawful.ensures.parted c.lawful.ensures.few c.args.queue c.before-in-Some.result
    (λ h is. ahead_there c.args.blocks.now c.lawful.ensures.parted c.args.queue c.in-Some.head here h (sym (c.before-in-Some.ensures c.args.queue here) ∙ is))

pub of-requires-in-None : goal.of-requires-in-None
of-requires-in-None c =
    fits_slot c.args.blocks.now c.lawful.ensures.parted c.lawful.ensures.few c.args.queue c.last.result
    (λ h is. last_there c.args.blocks.now c.args.queue (shelf_at c.args.blocks.now c.args.queue) [] (sym (append-nil (shelf_at c.args.blocks.now c.args.queue))) h (sym c.last.ensures ∙ is))

pub returns-in-Some : goal.returns-in-Some
returns-in-Some c pre post is at = grind (arith, common_steps, ahead_some)
