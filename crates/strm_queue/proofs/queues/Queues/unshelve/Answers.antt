use Rattle.std.proofs.Common.{sym, ◌∙◌}
use Rattle.strm_mblk.proofs.arena.Stands.{shelf_of-there}
use Rattle.strm_queue.proofs.queues.Queues.unshelve.Goals as goal

pub before-ahead-requires : goal.before-ahead-requires
before-ahead-requires c = shelf_of-there c.args.blocks.now c.args.queue c.args.head c.requires.there

pub queued_rank-requires : goal.queued_rank-requires
queued_rank-requires c = shelf_of-there c.args.blocks.now c.args.queue c.args.head c.requires.there

pub unshelve_behind-requires-clause-ahead : goal.unshelve_behind-requires-clause-ahead
unshelve_behind-requires-clause-ahead c = sym c.in-None.is ∙ c.before-ahead.ensures c.args.queue c.requires.there
