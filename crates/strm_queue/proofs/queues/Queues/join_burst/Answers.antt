use Rattle.std.proofs.Common.{◌≡◌, ◌<◌, true, false, [], ◌∷◌, ◌++◌, length, ap, sym, subst, ◌∙◌, arith, get_or-set_same}
use Rattle.std.specs.Prelude.{nat_lt}
use Rattle.std.proofs.lemmas.Bool.{cond-true, ltb-true}
use Rattle.std.proofs.lemmas.Option.{none-some}
use Rattle.strm_links.specs.Rows.{IsApart, after}
use Rattle.strm_mblk.specs.Arena.{Arena, message_at, shelf_at}
use Rattle.strm_mblk.specs.Block.{Message}
use Rattle.strm_mblk.specs.Given.{answer_of, or_rejected}
use Rattle.strm_mblk.specs.Shelves.{heads_at}
use Rattle.strm_mblk.proofs.arena.Stands.{heads_apart}
use Rattle.strm_queue.specs.Ends.{first_of_rank}
use Rattle.strm_queue.specs.Flow.{QueueState, enabled_where, enables_put, flags_at}
use Rattle.strm_queue.specs.Joining.{shelf_with}
use Rattle.strm_queue.specs.Rank.{as_queued, is_ordered, put_behind, rank_of}
use Rattle.strm_queue.proofs.Agreeing.{agrees_put}
use Rattle.strm_queue.proofs.Shelf.{after-head, heads}
use Rattle.strm_queue.proofs.order.Ends.{last_of_rank-none}
use Rattle.strm_queue.proofs.order.Order.{IsParting, ordered_put_behind, parting, placed_here}
use Rattle.strm_queue.proofs.moving.Puts.{burst_place, burst_there, head_put, put_last, put_together, putq_after}
use Rattle.strm_queue.proofs.queues.Queues.join_burst.Goals as goal
use Rattle.strm_queue.proofs.queues.Queues.join_burst.Goals.{After-lawful-2}

pub lay-requires-clause-before : goal.lay-requires-clause-before
lay-requires-clause-before c x some = burst_there c.args.place c.args.queue c.args.self.now c.args.blocks.now c.requires.agrees.in_order c.lawful.ensures.parted c.requires.place x some

pub lay-requires-clause-ordered : goal.lay-requires-clause-ordered
lay-requires-clause-ordered c =
    let m : Message = as_queued c.args.blocks.now.store (message_at c.args.blocks.now c.args.token.head) in
    ap (is_ordered (rank_of c.args.blocks.now.store)) (burst_place c.args.place c.args.queue c.args.self.now c.args.blocks.now c.requires.agrees.in_order c.lawful.ensures.parted c.requires.place c.args.token.head (sym c.requires.same ∙ c.requires.rank.value))
    ∙ ordered_put_behind (rank_of c.args.blocks.now.store) m (shelf_at c.args.blocks.now c.args.queue) (c.requires.agrees.in_order.ordered c.args.queue)

pub lay-requires-clause-follows : goal.lay-requires-clause-follows
lay-requires-clause-follows c follows = record {
  place =
      burst_place c.args.place c.args.queue c.args.self.now c.args.blocks.now c.requires.agrees.in_order c.lawful.ensures.parted c.requires.place c.args.token.head (sym c.requires.same ∙ c.requires.rank.value);
  some = λ none. none-some c.requires.place.end
      (sym (last_of_rank-none (rank_of c.args.blocks.now.store) c.args.place.rank (shelf_at c.args.blocks.now c.args.queue) (ap (λ r. first_of_rank (rank_of c.args.blocks.now.store) r (shelf_at c.args.blocks.now c.args.queue)) (sym c.requires.same) ∙ none)) ∙ c.requires.place.last);
}

-- the message, as the queue has it
abbrev m : After-lawful-2 → Message
m c = as_queued c.args.blocks.now.store (message_at c.args.blocks.now c.args.token.head)

-- it goes after its equals
place : (c : After-lawful-2) → shelf_with c.args.blocks.now c.args.queue c.args.place.before c.args.token.head ≡ put_behind (rank_of c.args.blocks.now.store) (m c) (shelf_at c.args.blocks.now c.args.queue)
place c =
    burst_place c.args.place c.args.queue c.args.self.now c.args.blocks.now c.requires.agrees.in_order c.lawful.ensures.parted c.requires.place c.args.token.head (sym c.requires.same ∙ c.requires.rank.value)

-- it enables the queue no more
enabled : (c : After-lawful-2) → c.lay.new.self ≡ record c.lay.new.self { state = enabled_where (enables_put (flags_at c.args.self.now.state c.args.queue) c.args.place.rank) c.args.queue c.lay.new.self.state }
enabled c =
    ap (λ (s : QueueState). record c.lay.new.self { state = s })
    (c.lay.ensures.state ∙ sym c.requires.place.enabled ∙ ap (enabled_where (enables_put (flags_at c.args.self.now.state c.args.queue) c.args.place.rank) c.args.queue) (sym c.lay.ensures.state))

pub returns-clause-does : goal.returns-clause-does
returns-clause-does c =
    let at = (goal.at.returns-clause-does c).After-lawful-2 in
    record {
      after =
          put_together c.args.self.now c.args.blocks.now c.args.queue c.args.token.head c.requires.place.there c.lay.new.self c.lay.new.self c.lay.new.blocks
          (enables_put (flags_at c.args.self.now.state c.args.queue) c.args.place.rank)
          (shelf_with c.args.blocks.now c.args.queue c.args.place.before c.args.token.head) c.lay.ensures.state c.lay.ensures.puts.after (enabled at)
          ∙ putq_after c.args.self.now c.args.blocks.now c.args.queue c.args.token.head c.requires.place.there (enables_put (flags_at c.args.self.now.state c.args.queue) c.args.place.rank) _
          (ap (enables_put (flags_at c.args.self.now.state c.args.queue)) (sym c.requires.same ∙ c.requires.rank.value)) (place at);
      answer = sym (ap (λ g. or_rejected c.args.token (answer_of g)) (cond-true _ _ _ c.requires.place.there));
      gone = c.lay.ensures.puts.gone;
      others = c.lay.ensures.puts.others;
    }

within : (c : After-lawful-2) → c.args.queue < length c.args.self.now.state.specs
within c = ltb-true _ _ c.requires.place.there

pub returns-clause-agrees : goal.returns-clause-agrees
returns-clause-agrees c =
    let at = (goal.at.returns-clause-agrees c).After-lawful-2 in
    agrees_put c.args.self.now c.lay.new.self c.args.blocks.now c.lay.new.blocks c.requires.agrees c.args.queue (within at) c.args.place.before (m at)
    c.lay.ensures.state c.lay.ensures.in_order (ap (λ (x : Arena). x.store) c.lay.ensures.puts.after) (ap (λ (x : Arena). x.shelves) c.lay.ensures.puts.after) false

-- the messages of the queue
here : (c : After-lawful-2) → shelf_at c.lay.new.blocks c.args.queue ≡ shelf_with c.args.blocks.now c.args.queue c.args.place.before c.args.token.head
here c =
    ap (λ (b : Arena). shelf_at b c.args.queue) c.lay.ensures.puts.after
    ∙ get_or-set_same c.args.blocks.now.shelves c.args.queue (shelf_with c.args.blocks.now c.args.queue c.args.place.before c.args.token.head) [] (omega (arith, within c, c.requires.agrees.in_order.shelves))

-- the messages on both sides of it
abbrev sides : (c : After-lawful-2) → IsParting c.args.blocks.now c.args.queue c.args.place.before
sides c =
    parting c.args.blocks.now c.args.queue c.args.place.before
    (λ x some. burst_there c.args.place c.args.queue c.args.self.now c.args.blocks.now c.requires.agrees.in_order c.lawful.ensures.parted c.requires.place x some)

-- the one after it is that which was after the last of the rank
beyond : (c : After-lawful-2) → c.args.place.before ≡ after c.args.token.head (heads_at c.lay.new.blocks c.args.queue)
beyond c =
    let pre = (sides c).pre in
    let post = (sides c).post in
    let is : shelf_at c.lay.new.blocks c.args.queue ≡ pre ++ m c ∷ post = here c ∙ placed_here c.args.blocks.now c.lawful.ensures.parted c.args.queue c.args.place.before pre post (sides c).is (sides c).at (m c) in
    let apart : IsApart (heads (pre ++ m c ∷ post)) = subst (λ ms. IsApart (heads ms)) is (heads_apart c.lay.new.blocks c.lawful-2.ensures.parted c.args.queue) in
    (sides c).at ∙ sym (after-head pre post (m c) apart)
    ∙ (λ i. after (head_put c.args.blocks.now c.lawful.ensures.parted c.args.token c.requires.had i) (heads (sym is i)))

pub returns-clause-place : goal.returns-clause-place
returns-clause-place c =
    let at = (goal.at.returns-clause-place c).After-lawful-2 in
    record {
      there = subst (λ (s : QueueState). nat_lt c.args.queue (length s.specs) ≡ true) (sym c.lay.ensures.state) c.requires.place.there;
      end = c.args.token.head;
      last = put_last c.args.blocks.now c.lay.new.blocks c.lawful.ensures.parted c.args.queue c.args.place.rank c.args.token c.requires.had (ap (λ (x : Arena). x.store) c.lay.ensures.puts.after) (here at ∙ place at) (sym c.requires.same ∙ c.requires.rank.value);
      before = beyond at;
      enabled = subst (λ (s : QueueState). enabled_where (enables_put (flags_at s c.args.queue) c.args.place.rank) c.args.queue s ≡ s) (sym c.lay.ensures.state) c.requires.place.enabled;
    }
