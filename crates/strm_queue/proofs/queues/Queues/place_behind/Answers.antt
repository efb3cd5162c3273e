use Rattle.std.proofs.Common.{arith, ◌≡◌, ℕ, Some, ap, subst, sym, true, ◌∙◌}
use Rattle.std.proofs.lemmas.Grind.{common_steps}
use Rattle.strm_links.specs.Rows.{after, last}
use Rattle.strm_mblk.specs.Arena.{shelf_at}
use Rattle.strm_mblk.specs.Block.{Message, head_of}
use Rattle.strm_mblk.specs.Messages.{put_before_head}
use Rattle.strm_mblk.specs.Shelves.{heads_at, is_on}
use Rattle.strm_mblk.proofs.arena.Stands.{heads_apart, shelf_of-there}
use Rattle.strm_queue.specs.Ends.{last_of_rank}
use Rattle.strm_queue.specs.Rank.{put_behind, rank_of}
use Rattle.strm_queue.specs.Tallies.{AreEndsOf}
use Rattle.strm_queue.proofs.order.Ends.{last_of_rank-has}
use Rattle.strm_queue.proofs.order.Order.{fits_slot}
use Rattle.strm_queue.proofs.order.Places.{after_there, placed_behind-some}
use Rattle.strm_queue.proofs.Shelf.{after_last}
use Rattle.strm_queue.proofs.queues.Queues.place_behind.Goals as goal
use Rattle.strm_queue.proofs.queues.Queues.place_behind.Goals.{After-after, After-get}

-- the last message of the rank, as the tally has it
last_is : (c : After-get) → (last : ℕ) → c.get.result ≡ Some last → last_of_rank (rank_of c.args.blocks.now.store) c.args.rank (shelf_at c.args.blocks.now c.args.queue) ≡ Some last
last_is c last is =
    let ends = subst (AreEndsOf (rank_of c.args.blocks.now.store) (shelf_at c.args.blocks.now c.args.queue)) (sym c.tally.ensures) (c.requires.in_order.true_of c.args.queue c.requires.queue).ends in
    sym (ends.lasts c.args.rank) ∙ sym c.last.ensures ∙ sym c.get.ensures ∙ is

-- it is on the queue
there : (c : After-get) → (last : ℕ) → c.get.result ≡ Some last → is_on c.args.blocks.now c.args.queue last ≡ true
there c last is = last_of_rank-has (rank_of c.args.blocks.now.store) last c.args.rank (shelf_at c.args.blocks.now c.args.queue) (last_is c last is)

pub after-requires : goal.after-requires
after-requires c = shelf_of-there c.args.blocks.now c.args.queue c.in-Some.last (there (goal.at.after-requires c).After-get c.in-Some.last c.in-Some.is)

-- so is the message after it
beyond : (c : After-after) → is_on c.args.blocks.now c.args.queue c.in-Some.last ≡ true → (x : ℕ) → c.after.result ≡ Some x → is_on c.args.blocks.now c.args.queue x ≡ true
beyond c stands x some =
    after_there c.in-Some.last x (shelf_at c.args.blocks.now c.args.queue) (heads_apart c.args.blocks.now c.lawful.ensures.parted c.args.queue) stands (sym (c.after.ensures c.args.queue stands) ∙ some)

pub of-requires : goal.of-requires
of-requires c =
    fits_slot c.args.blocks.now c.lawful.ensures.parted c.lawful.ensures.few c.args.queue c.after.result
    (beyond c (there (goal.at.of-requires c).After-get c.in-Some.last c.in-Some.is))

pub returns-in-Some-clause-there : goal.returns-in-Some-clause-there
returns-in-Some-clause-there c x some =
    beyond (goal.at.returns-in-Some-clause-there c).After-after (there (goal.at.returns-in-Some-clause-there c).After-get c.in-Some.last c.in-Some.is) x (sym c.of.ensures ∙ some)

-- a message of the rank goes after it
behind_it : (c : After-get) → (end : ℕ) → c.get.result ≡ Some end → (m : Message) → rank_of c.args.blocks.now.store m ≡ c.args.rank
    → put_before_head head_of (after end (heads_at c.args.blocks.now c.args.queue)) m (shelf_at c.args.blocks.now c.args.queue) ≡ put_behind (rank_of c.args.blocks.now.store) m (shelf_at c.args.blocks.now c.args.queue)
behind_it c end is =
    placed_behind-some (rank_of c.args.blocks.now.store) (shelf_at c.args.blocks.now c.args.queue) (c.requires.in_order.ordered c.args.queue) (heads_apart c.args.blocks.now c.lawful.ensures.parted c.args.queue)
    c.args.rank c.args.rank end (omega arith) (last_is c end is) (λ x least less. absurd (omega (arith, least, less)))

pub returns-in-Some-clause-place : goal.returns-in-Some-clause-place
returns-in-Some-clause-place c m is =
    let here = (goal.at.returns-in-Some-clause-place c).After-get in
    ap (λ o. put_before_head head_of o m (shelf_at c.args.blocks.now c.args.queue)) (c.of.ensures ∙ c.after.ensures c.args.queue (there here c.in-Some.last c.in-Some.is))
    ∙ behind_it here c.in-Some.last c.in-Some.is m is

-- if it is the last on the queue, that is at the end
pub returns-then-eq-clause-place : goal.returns-then-eq-clause-place
returns-then-eq-clause-place c m is =
    let here = (goal.at.returns-then-eq-clause-place c).After-get in
    let at_end : last (heads_at c.args.blocks.now c.args.queue) ≡ Some c.in-Some.last = grind (arith, common_steps) in
    ap (λ o. put_before_head head_of o m (shelf_at c.args.blocks.now c.args.queue))
    (c.none.ensures ∙ sym (after_last c.in-Some.last (shelf_at c.args.blocks.now c.args.queue) (heads_apart c.args.blocks.now c.lawful.ensures.parted c.args.queue) at_end))
    ∙ behind_it here c.in-Some.last c.in-Some.is m is
