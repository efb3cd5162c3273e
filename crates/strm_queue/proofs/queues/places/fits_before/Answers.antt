use Rattle.std.proofs.Common.{◌≡◌, ap, sym, ◌∙◌}
use Rattle.std.specs.Prelude.{nat_le}
use Rattle.strm_mblk.proofs.arena.Stands.{shelf_of-there}
use Rattle.strm_queue.specs.Rank.{rank_of}
use Rattle.strm_queue.proofs.order.Order.{IsParting, first_asked, fits_behind, fits_in_front, last_there, parting, too_low, first_fits}
use Rattle.strm_queue.proofs.queues.places.fits_before.Goals as goal
use Rattle.strm_queue.proofs.queues.places.fits_before.Goals.{After-is_at_most}

-- the messages on both sides of the place
sides : (c : After-is_at_most) → IsParting c.args.blocks.now c.args.queue c.args.before
sides c = parting c.args.blocks.now c.args.queue c.args.before c.requires.before

-- whether the first message after it is of at most the rank
asked : (c : After-is_at_most) → first_fits (rank_of c.args.blocks.now.store) c.args.rank (sides c).post ≡ c.is_at_most.result
asked c = first_asked c.args.blocks.now c.args.queue c.args.rank c.args.before c.is_at_most.result c.is_at_most.ensures.none (λ pre post m. c.is_at_most.ensures.some c.args.queue pre post m) (sides c)

pub is_at_most-requires : goal.is_at_most-requires
is_at_most-requires c h some = shelf_of-there c.args.blocks.now c.args.queue h (c.requires.before h some)

pub returns-then-not-is_at_most : goal.returns-then-not-is_at_most
returns-then-not-is_at_most c m rank =
    let here = (goal.at.returns-then-not-is_at_most c).After-is_at_most in
    let parts = sides here in
    too_low c.args.blocks.now c.lawful.ensures.parted c.args.queue c.args.before parts.pre parts.post parts.is parts.at m
    (ap (λ r. first_fits (rank_of c.args.blocks.now.store) r parts.post) rank ∙ asked here ∙ c.if-not-is_at_most.true)

pub queued_rank-requires : goal.queued_rank-requires
queued_rank-requires c =
    let parts = sides (goal.at.queued_rank-requires c).After-is_at_most in
    shelf_of-there c.args.blocks.now c.args.queue c.in-Some.head
    (last_there c.args.blocks.now c.args.queue parts.pre parts.post parts.is c.in-Some.head (sym (c.get.ensures ∙ c.ahead_of.ensures parts.pre parts.post parts.is parts.at) ∙ c.in-Some.is))

pub returns-in-Some : goal.returns-in-Some
returns-in-Some c m rank =
    let here = (goal.at.returns-in-Some c).After-is_at_most in
    let parts = sides here in
    ap (λ r. nat_le r c.queued_rank.result) (sym rank)
    ∙ fits_behind c.args.blocks.now c.lawful.ensures.parted c.args.queue c.args.before parts.pre parts.post parts.is parts.at m c.requires.ordered
    (ap (λ r. first_fits (rank_of c.args.blocks.now.store) r parts.post) rank ∙ asked here ∙ c.if-not-is_at_most.false)
    c.in-Some.head c.queued_rank.result (sym (c.get.ensures ∙ c.ahead_of.ensures parts.pre parts.post parts.is parts.at) ∙ c.in-Some.is) (λ front back x. c.queued_rank.ensures.value c.args.queue front back x)

pub returns-in-None : goal.returns-in-None
returns-in-None c m rank =
    let here = (goal.at.returns-in-None c).After-is_at_most in
    let parts = sides here in
    fits_in_front c.args.blocks.now c.lawful.ensures.parted c.args.queue c.args.before parts.pre parts.post parts.is parts.at m c.requires.ordered
    (ap (λ r. first_fits (rank_of c.args.blocks.now.store) r parts.post) rank ∙ asked here ∙ c.if-not-is_at_most.false)
    (sym (c.get.ensures ∙ c.ahead_of.ensures parts.pre parts.post parts.is parts.at) ∙ c.in-None.is)
