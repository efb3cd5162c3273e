use Rattle.std.proofs.Common.{sym, ◌∙◌}
use Rattle.strm_links.specs.Rows.{after}
use Rattle.strm_queue.proofs.Shelf.{found_on_shelf}
use Rattle.strm_queue.proofs.queues.Queues.queued_after.Goals as goal

pub returns : goal.returns
returns c =
    sym (found_on_shelf c.args.blocks.now c.args.head (sym c.is_shelved.ensures ∙ c.if-not-is_shelved.false) (after c.args.head) c.after.result c.after.ensures)
