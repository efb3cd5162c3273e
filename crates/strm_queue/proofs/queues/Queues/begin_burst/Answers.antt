use Rattle.std.proofs.Common.{◌≡◌, ℕ, true, [], length, Option, Some, ap, refl, sym, subst, ◌∙◌, arith, get_or-set_same}
use Rattle.std.specs.Prelude.{is_some, nat_lt}
use Rattle.std.proofs.lemmas.Bool.{ltb-true}
use Rattle.strm_links.specs.Rows.{after}
use Rattle.strm_mblk.specs.Arena.{message_at, shelf_at}
use Rattle.strm_mblk.specs.Shelves.{heads_at, is_on, shelf_of}
use Rattle.strm_mblk.proofs.arena.Stands.{shelf_of-there}
use Rattle.strm_queue.specs.Ends.{last_of_rank}
use Rattle.strm_queue.specs.Flow.{QueueState, enabled_where, enables_put, flags_at}
use Rattle.strm_queue.specs.QueueCalls.{with_put, with_state}
use Rattle.strm_queue.specs.QueuedBlocks.{QueuedBlocks, queued_blocks}
use Rattle.strm_queue.specs.Rank.{as_queued, put_behind, rank_of}
use Rattle.strm_queue.proofs.Agreeing.{enabled_alone}
use Rattle.strm_queue.proofs.order.Ends.{last_of_rank-has}
use Rattle.strm_queue.proofs.moving.Puts.{enabled_still, put_last, putq_after}
use Rattle.strm_queue.proofs.queues.Queues.begin_burst.Goals as goal
use Rattle.strm_queue.proofs.queues.Queues.begin_burst.Goals.{After-lawful-2}

there : (c : After-lawful-2) → nat_lt c.args.queue (length c.args.self.now.state.specs) ≡ true
there c = sym c.has_queue.ensures ∙ c.if-not-has_queue.false

-- what `putq` leaves
after_put : (c : After-lawful-2) → queued_blocks c.put_ranked.new.self c.put_ranked.new.blocks
    ≡ with_state (enabled_where (enables_put (flags_at c.args.self.now.state c.args.queue) (rank_of c.args.blocks.now.store (message_at c.args.blocks.now c.args.token.head))) c.args.queue)
    (with_put c.args.queue c.args.token.head (put_behind (rank_of c.args.blocks.now.store) (as_queued c.args.blocks.now.store (message_at c.args.blocks.now c.args.token.head)) (shelf_at c.args.blocks.now c.args.queue)) (queued_blocks c.args.self.now c.args.blocks.now))
after_put c = c.put_ranked.ensures.does.after ∙ sym (putq_after c.args.self.now c.args.blocks.now c.args.queue c.args.token.head (there c) _ _ refl refl)

-- the messages of the queue
here : (c : After-lawful-2) → shelf_at c.put_ranked.new.blocks c.args.queue ≡ put_behind (rank_of c.args.blocks.now.store) (as_queued c.args.blocks.now.store (message_at c.args.blocks.now c.args.token.head)) (shelf_at c.args.blocks.now c.args.queue)
here c =
    ap (λ (v : QueuedBlocks). shelf_at v.arena c.args.queue) (after_put c)
    ∙ get_or-set_same c.args.blocks.now.shelves c.args.queue _ [] (omega (arith, ltb-true _ _ (there c), c.requires.agrees.in_order.shelves))

-- the message is the last of its rank
last : (c : After-lawful-2) → last_of_rank (rank_of c.put_ranked.new.blocks.store) c.args.rank (shelf_at c.put_ranked.new.blocks c.args.queue) ≡ Some c.args.token.head
last c = put_last c.args.blocks.now c.put_ranked.new.blocks c.lawful.ensures.parted c.args.queue c.args.rank c.args.token c.requires.had (ap (λ (v : QueuedBlocks). v.arena.store) (after_put c)) (here c) c.requires.rank.value

-- so it is on the queue
stands : (c : After-lawful-2) → is_on c.put_ranked.new.blocks c.args.queue c.args.token.head ≡ true
stands c = last_of_rank-has (rank_of c.put_ranked.new.blocks.store) c.args.token.head c.args.rank (shelf_at c.put_ranked.new.blocks c.args.queue) (last c)

pub after-before-requires : goal.after-before-requires
after-before-requires c =
    let at = (goal.at.after-before-requires c).After-lawful-2 in
    subst (λ h. is_some (shelf_of c.put_ranked.new.blocks h) ≡ true) (sym c.head-head.ensures) (shelf_of-there c.put_ranked.new.blocks c.args.queue c.args.token.head (stands at))

-- the message after it
beyond : (c : After-lawful-2) → (o : Option ℕ) → ((q : ℕ) → is_on c.put_ranked.new.blocks q c.head-head.result ≡ true → o ≡ after c.head-head.result (heads_at c.put_ranked.new.blocks q)) → o ≡ after c.args.token.head (heads_at c.put_ranked.new.blocks c.args.queue)
beyond c o asked = asked c.args.queue (ap (is_on c.put_ranked.new.blocks c.args.queue) c.head-head.ensures ∙ stands c) ∙ ap (λ h. after h (heads_at c.put_ranked.new.blocks c.args.queue)) c.head-head.ensures

pub returns-clause-place : goal.returns-clause-place
returns-clause-place c few =
    let at = (goal.at.returns-clause-place c).After-lawful-2 in
    record {
      there = ap (λ (v : QueuedBlocks). nat_lt c.args.queue (length v.queues.specs)) (after_put at) ∙ ap (λ (s : QueueState). nat_lt c.args.queue (length s.specs)) (enabled_alone _ c.args.queue c.args.self.now.state) ∙ there at;
      end = c.args.token.head;
      last = last at;
      before = beyond at c.after-before.result c.after-before.ensures;
      enabled = enabled_still c.args.queue c.args.rank c.args.self.now.state c.put_ranked.new.self.state
          (ap (λ (v : QueuedBlocks). v.queues) (after_put at) ∙ ap (λ r. enabled_where (enables_put (flags_at c.args.self.now.state c.args.queue) r) c.args.queue c.args.self.now.state) (sym c.requires.rank.value));
    }
