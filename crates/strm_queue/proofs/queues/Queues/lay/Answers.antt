use Rattle.std.proofs.Common.{Ok, ap, sym, subst, ◌∙◌}
use Rattle.strm_mblk.specs.Arena.{with_shelf, without_held}
use Rattle.strm_mblk.specs.Calls.{Puts, itself}
use Rattle.strm_mblk.specs.Given.{given_nothing}
use Rattle.strm_queue.specs.Joining.{IsAfterEqual, shelf_with}
use Rattle.strm_queue.specs.Rank.{is_ordered, rank_of}
use Rattle.strm_queue.proofs.queues.Queues.lay.Goals as goal

pub shelve-requires-clause-ordered : goal.shelve-requires-clause-ordered
shelve-requires-clause-ordered c =
    ap (λ o. is_ordered (rank_of c.args.blocks.now.store) (shelf_with c.args.blocks.now c.args.queue o c.args.token.head)) (sym c.in-None.is) ∙ c.requires.ordered

pub shelve-requires-clause-follows : goal.shelve-requires-clause-follows
shelve-requires-clause-follows c follows = subst (λ o. IsAfterEqual c.args.blocks.now c.args.queue o c.args.token c.args.rank) c.in-None.is (c.requires.follows follows)

pub returns-in-None-clause-puts : goal.returns-in-None-clause-puts
returns-in-None-clause-puts c =
    subst (λ o. Puts itself c.args.token (given_nothing (with_shelf c.args.queue (shelf_with c.args.blocks.now c.args.queue o c.args.token.head) (without_held c.args.token.head c.args.blocks.now))) c.args.blocks.now c.shelve.new.blocks (Ok tt))
    (sym c.in-None.is) c.shelve.ensures.puts
