use Rattle.std.proofs.Common.{arith, sym, ◌∙◌}
use Rattle.std.proofs.lemmas.Grind.{common_steps}
use Rattle.strm_links.proofs.lists.OneList.{after-get, has_get}
use Rattle.strm_mblk.specs.Shelves.{heads_at}
use Rattle.strm_mblk.proofs.arena.Stands.{heads_apart, shelf_of-there}
use Rattle.strm_queue.proofs.queues.places.head_at.Goals as goal

pub after-at-requires : goal.after-at-requires
after-at-requires c = grind (arith, common_steps, shelf_of-there, has_get)

pub loop-message-preserved : goal.loop-message-preserved
loop-message-preserved c = grind (arith, common_steps, has_get, after-get, heads_apart)

pub returns-clause-there : goal.returns-clause-there
returns-clause-there c h some = has_get (heads_at c.args.blocks.now c.args.queue) c.loop-message._message h (sym c.loop-message.invariant ∙ some)
