use Rattle.std.proofs.Common.{arith, ◌≡◌, ℕ, [], Some, ap, inl, inr, subst, sym, true, ◌∙◌}
use Rattle.std.proofs.lemmas.Grind.{common_steps}
use Rattle.std.proofs.lemmas.Bool.{cases_lt}
use Rattle.std.proofs.lemmas.Option.{none-some}
use Rattle.strm_mblk.specs.Arena.{shelf_at}
use Rattle.strm_mblk.specs.Block.{head_of}
use Rattle.strm_mblk.specs.Messages.{put_before_head}
use Rattle.strm_mblk.specs.Shelves.{is_on}
use Rattle.strm_mblk.proofs.arena.Stands.{heads_apart, shelf_of-there}
use Rattle.strm_queue.specs.Ends.{last_of_rank}
use Rattle.strm_queue.specs.Limits.{ranks}
use Rattle.strm_queue.specs.Rank.{rank_of}
use Rattle.strm_queue.specs.Tallies.{AreEndsOf}
use Rattle.strm_queue.proofs.order.Ends.{first_of_rank-none, last_of_rank-has}
use Rattle.strm_queue.proofs.order.Order.{fits_slot}
use Rattle.strm_queue.proofs.Shelf.{first_there}
use Rattle.strm_queue.proofs.order.Places.{after_there, none_beyond, none_told, placed_behind-none, placed_behind-some, some_told}
use Rattle.strm_queue.proofs.queues.Queues.place_above.Goals as goal
use Rattle.strm_queue.proofs.queues.Queues.place_above.Goals.{After-after, After-number, After-rank_at_least}

-- the tally's first and last heads are true
ends : (c : After-rank_at_least) → AreEndsOf (rank_of c.args.blocks.now.store) (shelf_at c.args.blocks.now c.args.queue) c.tally-tally.result.now
ends c = subst (AreEndsOf (rank_of c.args.blocks.now.store) (shelf_at c.args.blocks.now c.args.queue)) (sym c.tally-tally.ensures) (c.requires.in_order.true_of c.args.queue c.requires.queue).ends

-- the rank that was found has a last message
pub number-requires : goal.number-requires
number-requires c = grind (arith, common_steps, some_told, none-some, first_of_rank-none)

abbrev Ends : After-number → Type 0
Ends c = AreEndsOf (rank_of c.args.blocks.now.store) (shelf_at c.args.blocks.now c.args.queue) c.tally-tally.result.now

last_is : (c : After-number) → Ends c → last_of_rank (rank_of c.args.blocks.now.store) c.in-Some.found (shelf_at c.args.blocks.now c.args.queue) ≡ Some c.number.result
last_is c at = sym (at.lasts c.in-Some.found) ∙ sym c.last.ensures ∙ c.number.ensures

-- it is on the queue
there : (c : After-number) → Ends c → is_on c.args.blocks.now c.args.queue c.number.result ≡ true
there c at = last_of_rank-has (rank_of c.args.blocks.now.store) c.number.result c.in-Some.found (shelf_at c.args.blocks.now c.args.queue) (last_is c at)

pub after-requires : goal.after-requires
after-requires c = shelf_of-there c.args.blocks.now c.args.queue c.number.result (there (goal.at.after-requires c).After-number (ends (goal.at.after-requires c).After-rank_at_least))

-- so is the message after it
beyond : (c : After-after) → is_on c.args.blocks.now c.args.queue c.number.result ≡ true → (x : ℕ) → c.after.result ≡ Some x → is_on c.args.blocks.now c.args.queue x ≡ true
beyond c stands x some =
    after_there c.number.result x (shelf_at c.args.blocks.now c.args.queue) (heads_apart c.args.blocks.now c.lawful.ensures.parted c.args.queue) stands (sym (c.after.ensures c.args.queue stands) ∙ some)

pub of-requires : goal.of-requires
of-requires c =
    let stands = there (goal.at.of-requires c).After-number (ends (goal.at.of-requires c).After-rank_at_least) in
    fits_slot c.args.blocks.now c.lawful.ensures.parted c.lawful.ensures.few c.args.queue c.after.result (beyond c stands)

pub of-requires-in-None : goal.of-requires-in-None
of-requires-in-None c =
    fits_slot c.args.blocks.now c.lawful.ensures.parted c.lawful.ensures.few c.args.queue c.first.result
    (λ x some. first_there x [] (shelf_at c.args.blocks.now c.args.queue) (sym c.first.ensures ∙ some))

pub returns-in-Some-clause-there : goal.returns-in-Some-clause-there
returns-in-Some-clause-there c x some =
    let stands = there (goal.at.returns-in-Some-clause-there c).After-number (ends (goal.at.returns-in-Some-clause-there c).After-rank_at_least) in
    beyond (goal.at.returns-in-Some-clause-there c).After-after stands x (sym c.of.ensures ∙ some)

pub returns-in-Some-clause-place : goal.returns-in-Some-clause-place
returns-in-Some-clause-place c m is =
    let here = (goal.at.returns-in-Some-clause-place c).After-number in
    let at = ends (goal.at.returns-in-Some-clause-place c).After-rank_at_least in
    let store = c.args.blocks.now.store in
    let ms = shelf_at c.args.blocks.now c.args.queue in
    let found = c.in-Some.ensures.some in
    ap (λ o. put_before_head head_of o m ms) (c.of.ensures ∙ c.after.ensures c.args.queue (there here at))
    ∙ placed_behind-some (rank_of store) ms (c.requires.in_order.ordered c.args.queue) (heads_apart c.args.blocks.now c.lawful.ensures.parted c.args.queue) c.args.rank c.in-Some.found c.number.result found.0 (last_is here at)
    (λ x least less. none_told (rank_of store) ms c.tally-tally.result.now at x (found.3 x least less)) m is

pub returns-in-None-clause-place : goal.returns-in-None-clause-place
returns-in-None-clause-place c m is =
    let at = ends (goal.at.returns-in-None-clause-place c).After-rank_at_least in
    let store = c.args.blocks.now.store in
    let ms = shelf_at c.args.blocks.now c.args.queue in
    ap (λ o. put_before_head head_of o m ms) (c.of-in-None.ensures ∙ c.first.ensures)
    ∙ placed_behind-none (rank_of store) ms (c.requires.in_order.ordered c.args.queue) (heads_apart c.args.blocks.now c.lawful.ensures.parted c.args.queue) c.args.rank
    (λ x least. elim (cases_lt x ranks) [
      | inl below ↦ none_told (rank_of store) ms c.tally-tally.result.now at x (c.in-None.ensures.none x least below)
      | inr past ↦ none_beyond (rank_of store) ms c.tally-tally.result.now at x past
    ]) m is
