use Rattle.std.proofs.Common.{sym, ◌∙◌, arith}
use Rattle.strm_queue.proofs.Laid.{few_queues}
use Rattle.strm_queue.proofs.Shelf.{shelf_there}
use Rattle.strm_queue.proofs.queues.Queues.queue_of.Goals as goal

pub overflow_cast-result : goal.overflow_cast-result
overflow_cast-result c =
    omega (
      arith,
      shelf_there c.args.blocks.now c.args.head c.in-Some.shelf (sym c.shelf_of.ensures ∙ c.in-Some.is),
      c.requires.in_order.shelves,
      few_queues c.args.self.now.state.specs c.made_lawful.ensures.specs,
    )
