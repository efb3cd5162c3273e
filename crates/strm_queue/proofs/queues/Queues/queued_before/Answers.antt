use Rattle.std.proofs.Common.{sym, ◌∙◌}
use Rattle.strm_links.specs.Rows.{before}
use Rattle.strm_queue.proofs.Shelf.{found_on_shelf}
use Rattle.strm_queue.proofs.queues.Queues.queued_before.Goals as goal

pub returns : goal.returns
returns c =
    sym (found_on_shelf c.args.blocks.now c.args.head (sym c.is_shelved.ensures ∙ c.if-not-is_shelved.false) (before c.args.head) c.before-2.result c.before-2.ensures)
