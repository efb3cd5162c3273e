use Rattle.strm_mblk.proofs.arena.Stands.{shelf_of-there}
use Rattle.strm_queue.proofs.queues.Queues.take_one.Goals as goal

pub takes-requires : goal.takes-requires
takes-requires g c = shelf_of-there c.args.blocks.now c.args.queue c.args.head c.requires.there
