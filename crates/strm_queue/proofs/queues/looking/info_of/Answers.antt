use Rattle.strm_queue.proofs.Shelf.{info_told}
use Rattle.strm_queue.proofs.queues.looking.info_of.Goals as goal

pub returns : goal.returns
returns c =
    info_told c.args.blocks.now c.args.head c.head_kind.result c.head_band.result c.head_size.result c.head_blocks.result c.head_kind.ensures c.head_band.ensures c.head_size.ensures c.head_blocks.ensures
