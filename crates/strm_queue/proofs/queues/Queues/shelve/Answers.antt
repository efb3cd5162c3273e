use Rattle.std.proofs.Common.{◌≡◌, ◌<◌, ◌^◌, None, ap, arith, refl, subst, sym, ◌∙◌, get_or-set_same, [], ◌++◌, ◌∷◌, set, true}
use Rattle.std.proofs.lemmas.Grind.{common_steps}
use Rattle.strm_mblk.specs.Arena.{Arena, message_at, shelf_at, with_shelf, without_held}
use Rattle.strm_mblk.specs.Block.{Message, head_of}
use Rattle.strm_mblk.specs.Shelves.{shelve}
use Rattle.strm_mblk.proofs.arena.Frame.{others_one}
use Rattle.strm_mblk.proofs.arena.Counts.{had_message}
use Rattle.strm_queue.specs.Flow.{bytes_on, hiwat_of}
use Rattle.strm_queue.specs.Joining.{shelf_with}
use Rattle.strm_queue.specs.QueuedBlocks.{AreInOrder, tally_at}
use Rattle.strm_queue.specs.Tallies.{IsTallyOf}
use Rattle.strm_queue.specs.Ends.{first_of_rank}
use Rattle.strm_queue.specs.Rank.{as_queued, put_behind, rank_of, is_ordered}
use Rattle.strm_queue.proofs.Agreeing.{in_order_put}
use Rattle.strm_queue.proofs.Counting.{bytes_fit, joins_all, joins_few, follows_equal, joins_last_of_rank, mark_true, numbered, IsPlaced}
use Rattle.strm_queue.proofs.order.Order.{rank_of-queued, size_of-queued, head_of-queued, IsParting, parting, placed_here}
use Rattle.strm_queue.proofs.moving.Puts.{few_on_shelf, shelve_high, shelve_low}
use Rattle.strm_queue.proofs.queues.Queues.shelve.Goals as goal
use Rattle.strm_queue.proofs.queues.Queues.shelve.Goals.{After-lawful-2, then-rank-eq-HIGH_RANK, else-rank-eq-HIGH_RANK}
use Rattle.strm_links.specs.Rows.{IsApart}
use Rattle.strm_queue.proofs.Shelf.{heads}
use Rattle.strm_mblk.proofs.arena.Stands.{heads_apart}
use Rattle.strm_queue.specs.declared.tally.Placed.{Placed}

-- the message, as the queue has it
abbrev m : After-lawful-2 → Message
m c = as_queued c.args.blocks.now.store (message_at c.args.blocks.now c.args.token.head)

after : (c : After-lawful-2) → c.shelve.new.self ≡ with_shelf c.args.queue (shelf_with c.args.blocks.now c.args.queue c.args.before c.args.token.head) (without_held c.args.token.head c.args.blocks.now)
after c =
    let had = had_message c.args.blocks.now c.args.token c.requires.had in
    c.shelve.ensures.after
    ∙ elim c.if-rank-eq-HIGH_RANK.branch [
      | then-rank-eq-HIGH_RANK w ↦
          ap (shelve c.args.queue c.args.before c.args.token.head) (w.blocks-is ∙ w.setband.ensures.after)
          ∙ shelve_high c.args.blocks.now c.args.queue c.args.before c.args.token.head had.0 had.1.held (c.requires.rank.high w.if-rank-eq-HIGH_RANK.true)
      | else-rank-eq-HIGH_RANK w ↦
          ap (shelve c.args.queue c.args.before c.args.token.head) w.blocks-is
          ∙ shelve_low c.args.blocks.now c.args.queue c.args.before c.args.token.head (λ is. w.if-rank-eq-HIGH_RANK.false (c.requires.rank.value ∙ is))
    ]

-- the messages on both sides of its place
abbrev sides : (c : After-lawful-2) → IsParting c.args.blocks.now c.args.queue c.args.before
sides c = parting c.args.blocks.now c.args.queue c.args.before c.requires.before

-- the messages of the queue with it
between : (c : After-lawful-2) → shelf_with c.args.blocks.now c.args.queue c.args.before c.args.token.head ≡ (sides c).pre ++ m c ∷ (sides c).post
between c = placed_here c.args.blocks.now c.lawful.ensures.parted c.args.queue c.args.before (sides c).pre (sides c).post (sides c).is (sides c).at (m c)

here : (c : After-lawful-2) → shelf_at c.shelve.new.self c.args.queue ≡ (sides c).pre ++ m c ∷ (sides c).post
here c =
    ap (λ (b : Arena). shelf_at b c.args.queue) (after c)
    ∙ get_or-set_same c.args.blocks.now.shelves c.args.queue (shelf_with c.args.blocks.now c.args.queue c.args.before c.args.token.head) [] (omega (arith, c.requires.queue, c.requires.in_order.shelves))
    ∙ between c

-- its entry for the tally
abbrev own : After-lawful-2 → Placed
own c = record { head = c.head.result; rank = c.args.rank; size = c.size.result; ahead = c.get.result; behind = c.args.before }

head_is : (c : After-lawful-2) → head_of (message_at c.args.blocks.now c.args.token.head) ≡ c.args.token.head
head_is c = grind (arith, common_steps, had_message)

placed : (c : After-lawful-2) → IsPlaced c.args.blocks.now.store (sides c).pre (sides c).post (m c) (own c)
placed c = record {
  head = c.head.ensures ∙ sym (head_of-queued c.args.blocks.now.store (message_at c.args.blocks.now c.args.token.head) ∙ head_is c);
  rank = c.requires.rank.value ∙ sym (rank_of-queued c.args.blocks.now.store (message_at c.args.blocks.now c.args.token.head));
  size = c.size.ensures ∙ sym (size_of-queued c.args.blocks.now.store (message_at c.args.blocks.now c.args.token.head));
  ahead = c.get.ensures ∙ c.ahead_of.ensures (sides c).pre (sides c).post (sides c).is (sides c).at;
  behind = (sides c).at;
  few = c.requires.rank.few;
}

pub join-requires-clause-numbered : goal.join-requires-clause-numbered
join-requires-clause-numbered c =
    let at = (goal.at.join-requires-clause-numbered c).After-lawful-2 in
    numbered c.shelve.new.self c.lawful-2.ensures.parted c.lawful-2.ensures.few c.args.queue c.args.blocks.now.store (sides at).pre (sides at).post (m at) (own at) (here at) (placed at)

-- the tally is true of the queue without it
true_of : (c : After-lawful-2) → IsTallyOf c.args.blocks.now.store (hiwat_of c.args.self.now.state c.args.queue) ((sides c).pre ++ (sides c).post) (tally_at c.args.self.now c.args.queue)
true_of c =
    subst (λ ms. IsTallyOf c.args.blocks.now.store (hiwat_of c.args.self.now.state c.args.queue) ms (tally_at c.args.self.now c.args.queue)) (sides c).is
    (c.requires.in_order.true_of c.args.queue c.requires.queue)

pub join-requires-clause-len : goal.join-requires-clause-len
join-requires-clause-len c = grind (arith, common_steps, few_on_shelf)

-- the queue's bytes fit 32 bits
few_bytes : (c : After-lawful-2) → bytes_on ((sides c).pre ++ m c ∷ (sides c).post) < 2 ^ 32
few_bytes c =
    subst (λ ms. bytes_on ms < 2 ^ 32) (here c) (bytes_fit c.shelve.new.self c.lawful-2.ensures.kept c.lawful-2.ensures.within c.lawful-2.ensures.few c.lawful-2.ensures.whole c.args.queue)

pub join-requires-clause-bytes : goal.join-requires-clause-bytes
join-requires-clause-bytes c =
    let at = (goal.at.join-requires-clause-bytes c).After-lawful-2 in
    joins_all c.args.blocks.now.store (m at) (hiwat_of c.args.self.now.state c.args.queue) (tally_at c.args.self.now c.args.queue) (sides at).pre (sides at).post (own at) (placed at) (true_of at) (few_bytes at)

pub join-requires-clause-count : goal.join-requires-clause-count
join-requires-clause-count c =
    let at = (goal.at.join-requires-clause-count c).After-lawful-2 in
    joins_few c.args.blocks.now.store (m at) (hiwat_of c.args.self.now.state c.args.queue) (tally_at c.args.self.now c.args.queue) (sides at).pre (sides at).post (own at) (placed at) (true_of at) (few_bytes at)

pub join-requires-clause-marked : goal.join-requires-clause-marked
join-requires-clause-marked c =
    mark_true c.args.blocks.now.store (hiwat_of c.args.self.now.state c.args.queue) (shelf_at c.args.blocks.now c.args.queue) (tally_at c.args.self.now c.args.queue) (c.requires.in_order.true_of c.args.queue c.requires.queue) c.args.rank

-- no two messages of the queue have the same head
apart : (c : After-lawful-2) → IsApart (heads ((sides c).pre ++ m c ∷ (sides c).post))
apart c = subst (λ ms. IsApart (heads ms)) (here c) (heads_apart c.shelve.new.self c.lawful-2.ensures.parted c.args.queue)

-- and they are in order
ordered : (c : After-lawful-2) → is_ordered (rank_of c.args.blocks.now.store) ((sides c).pre ++ m c ∷ (sides c).post) ≡ true
ordered c = sym (ap (is_ordered (rank_of c.args.blocks.now.store)) (between c)) ∙ c.requires.ordered

pub join-requires-clause-last : goal.join-requires-clause-last
join-requires-clause-last c =
    let at = (goal.at.join-requires-clause-last c).After-lawful-2 in
    joins_last_of_rank c.args.blocks.now.store (m at) (hiwat_of c.args.self.now.state c.args.queue) (tally_at c.args.self.now c.args.queue) (sides at).pre (sides at).post (own at) (placed at) (true_of at) (ordered at) (apart at)

-- if it follows its equals, it is the last of its rank, and the first one stays
pub join-requires-clause-follows : goal.join-requires-clause-follows
join-requires-clause-follows c follows =
    let at = (goal.at.join-requires-clause-follows c).After-lawful-2 in
    let equal = c.requires.follows follows in
    follows_equal c.args.blocks.now.store (m at) (hiwat_of c.args.self.now.state c.args.queue) (tally_at c.args.self.now c.args.queue) (sides at).pre (sides at).post (own at) (placed at) (true_of at) (ordered at) (apart at)
    (sym (between at) ∙ equal.place ∙ ap (put_behind (rank_of c.args.blocks.now.store) (m at)) (sides at).is)
    (λ none. equal.some (ap (λ ms. first_of_rank (rank_of c.args.blocks.now.store) c.args.rank ms) (sides at).is ∙ none))

pub returns-clause-puts : goal.returns-clause-puts
returns-clause-puts c =
    let is = after (goal.at.returns-clause-puts c).After-lawful-2 in
    record {
      after = is;
      answer = refl;
      gone = c.shelve.ensures.gone;
      others = others_one c.args.blocks.now c.shelve.new.self c.args.token.head None (ap (λ (b : Arena). b.id) is) (ap (λ (b : Arena). b.held) is);
    }

pub returns-clause-in_order : goal.returns-clause-in_order
returns-clause-in_order c =
    let at = (goal.at.returns-clause-in_order c).After-lawful-2 in
    subst (λ v. AreInOrder v c.shelve.new.self) (sym c.join.ensures)
    (in_order_put c.args.self.now c.args.blocks.now c.requires.in_order c.args.queue c.requires.queue (m at) c.shelve.new.self (ap (λ (b : Arena). b.store) (after at)) (sides at).pre (sides at).post (own at) (placed at)
    (apart at) (sides at).is
    (ap (λ (b : Arena). b.shelves) (after at) ∙ ap (set c.args.blocks.now.shelves c.args.queue) (between at)) (ordered at))
