use Rattle.std.proofs.Common.{arith, ap, subst, sym, ◌∙◌}
use Rattle.std.proofs.lemmas.Grind.{common_steps}
use Rattle.strm_mblk.specs.Arena.{shelf_at}
use Rattle.strm_mblk.specs.Block.{head_of}
use Rattle.strm_mblk.specs.Messages.{put_before_head}
use Rattle.strm_mblk.proofs.arena.Stands.{heads_apart}
use Rattle.strm_queue.specs.Rank.{rank_of}
use Rattle.strm_queue.specs.Tallies.{AreEndsOf}
use Rattle.strm_queue.proofs.order.Ends.{first_of_rank-has}
use Rattle.strm_queue.proofs.order.Places.{none_told, placed_ahead-none, placed_ahead-some, some_told}
use Rattle.strm_queue.proofs.queues.Queues.place_ahead.Goals as goal
use Rattle.strm_queue.proofs.queues.Queues.place_ahead.Goals.{After-rank_at_most}

-- the tally's first and last heads are true
ends : (c : After-rank_at_most) → AreEndsOf (rank_of c.args.blocks.now.store) (shelf_at c.args.blocks.now c.args.queue) c.tally-tally.result.now
ends c = subst (AreEndsOf (rank_of c.args.blocks.now.store) (shelf_at c.args.blocks.now c.args.queue)) (sym c.tally-tally.ensures) (c.requires.in_order.true_of c.args.queue c.requires.queue).ends

pub returns-in_err-found-clause-place : goal.returns-in_err-found-clause-place
returns-in_err-found-clause-place c m is =
    let at = ends (goal.at.returns-in_err-found-clause-place c).After-rank_at_most in
    let store = c.args.blocks.now.store in
    let ms = shelf_at c.args.blocks.now c.args.queue in
    ap (λ o. put_before_head head_of o m ms) c.from_residual.ensures
    ∙ placed_ahead-none (rank_of store) ms (c.requires.in_order.ordered c.args.queue) (heads_apart c.args.blocks.now c.lawful.ensures.parted c.args.queue) c.args.rank
    (λ x most. none_told (rank_of store) ms c.tally-tally.result.now at x (c.in_err-found.ensures.none x most)) m is

pub returns-clause-there : goal.returns-clause-there
returns-clause-there c x some = grind (arith, common_steps, first_of_rank-has)

pub returns-clause-place : goal.returns-clause-place
returns-clause-place c m is =
    let at = ends (goal.at.returns-clause-place c).After-rank_at_most in
    let store = c.args.blocks.now.store in
    let ms = shelf_at c.args.blocks.now c.args.queue in
    let found = c.in_ok-found.ensures.some in
    let first = some_told (rank_of store) ms c.tally-tally.result.now at c.in_ok-found.found found.1 in
    ap (λ o. put_before_head head_of o m ms) (c.first.ensures ∙ at.firsts c.in_ok-found.found ∙ first.1)
    ∙ placed_ahead-some (rank_of store) ms (c.requires.in_order.ordered c.args.queue) (heads_apart c.args.blocks.now c.lawful.ensures.parted c.args.queue) c.args.rank c.in_ok-found.found first.0 found.0 first.1
    (λ x more most. none_told (rank_of store) ms c.tally-tally.result.now at x (found.2 x more most)) m is
