use Rattle.std.proofs.Common.{◌≡◌, ◌++◌, ◌∷◌, ap, subst, sym, true, ◌∙◌}
use Rattle.strm_mblk.specs.Arena.{Arena, shelf_at, with_held, with_shelf}
use Rattle.strm_mblk.specs.Block.{size_of}
use Rattle.strm_mblk.specs.Shelves.{unshelve, shelved_message}
use Rattle.strm_mblk.proofs.arena.Stands.{heads_apart, shelf_of-there}
use Rattle.strm_queue.specs.Flow.{hiwat_of}
use Rattle.strm_queue.specs.QueuedBlocks.{AreInOrder, tally_at}
use Rattle.strm_queue.specs.Tallies.{IsTallyOf}
use Rattle.strm_queue.specs.Rank.{is_ordered, rank_of}
use Rattle.strm_queue.proofs.Shelf.{shelved_message_at, Parts, parts_of, unshelved, heads, after-head, before-head}
use Rattle.strm_queue.proofs.Agreeing.{in_order_got}
use Rattle.strm_queue.proofs.Counting.{leaves_all, leaves_enough, leaves_first_of_rank, leaves_more, mark_true, numbered, use_true, IsPlaced}
use Rattle.strm_queue.proofs.queues.Queues.unshelve_behind.Goals as goal
use Rattle.strm_queue.proofs.queues.Queues.unshelve_behind.Goals.{After-after}
use Rattle.strm_links.specs.Rows.{IsApart, after, before}
use Rattle.strm_queue.specs.declared.tally.Placed.{Placed}

-- the message, and those before and after it
abbrev parts : (c : After-after) → Parts c.args.head (shelf_at c.args.blocks.now c.args.queue)
parts c = parts_of c.args.head (shelf_at c.args.blocks.now c.args.queue) c.requires.there

abbrev true_of : (c : After-after) → IsTallyOf c.args.blocks.now.store (hiwat_of c.args.self.now.state c.args.queue) ((parts c).pre ++ (parts c).at ∷ (parts c).post) (tally_at c.args.self.now c.args.queue)
true_of c =
    subst (λ ms. IsTallyOf c.args.blocks.now.store (hiwat_of c.args.self.now.state c.args.queue) ms (tally_at c.args.self.now c.args.queue)) (parts c).is
    (c.requires.in_order.true_of c.args.queue c.requires.queue)

-- no two messages of the queue have the same head
apart : (c : After-after) → IsApart (heads ((parts c).pre ++ (parts c).at ∷ (parts c).post))
apart c = subst (λ ms. IsApart (heads ms)) (parts c).is (heads_apart c.args.blocks.now c.lawful.ensures.parted c.args.queue)

-- its entry for the tally
abbrev own : After-after → Placed
own c = record { head = c.args.head; rank = c.queued_rank.result; size = c.head_size.result; ahead = c.args.ahead; behind = c.after.result }

placed : (c : After-after) → IsPlaced c.args.blocks.now.store (parts c).pre (parts c).post (parts c).at (own c)
placed c = record {
  head = sym (parts c).head;
  rank = c.queued_rank.ensures.value c.args.queue (parts c).pre (parts c).post (parts c).at (parts c).is (parts c).head;
  size =
      c.head_size.ensures
      ∙ ap size_of (ap (shelved_message c.args.blocks.now) (sym (parts c).head) ∙ shelved_message_at c.args.blocks.now c.lawful.ensures.parted c.args.queue (parts c).pre (parts c).post (parts c).at (parts c).is);
  ahead =
      c.requires.ahead ∙ (λ i. before (sym (parts c).head i) (heads ((parts c).is i)))
      ∙ before-head (parts c).pre (parts c).post (parts c).at (apart c);
  behind =
      c.after.ensures c.args.queue c.requires.there ∙ (λ i. after (sym (parts c).head i) (heads ((parts c).is i)))
      ∙ after-head (parts c).pre (parts c).post (parts c).at (apart c);
  few = c.queued_rank.ensures.few;
}

pub queued_rank-requires : goal.queued_rank-requires
queued_rank-requires c = shelf_of-there c.args.blocks.now c.args.queue c.args.head c.requires.there

pub head_size-requires : goal.head_size-requires
head_size-requires c = shelf_of-there c.args.blocks.now c.args.queue c.args.head c.requires.there

pub after-requires : goal.after-requires
after-requires c = shelf_of-there c.args.blocks.now c.args.queue c.args.head c.requires.there

pub leave-requires-clause-numbered : goal.leave-requires-clause-numbered
leave-requires-clause-numbered c =
    let at = (goal.at.leave-requires-clause-numbered c).After-after in
    numbered c.args.blocks.now c.lawful.ensures.parted c.lawful.ensures.few c.args.queue c.args.blocks.now.store (parts at).pre (parts at).post (parts at).at (own at) (parts at).is (placed at)

pub leave-requires-clause-bytes : goal.leave-requires-clause-bytes
leave-requires-clause-bytes c =
    let at = (goal.at.leave-requires-clause-bytes c).After-after in
    leaves_all c.args.blocks.now.store (parts at).at (hiwat_of c.args.self.now.state c.args.queue) (tally_at c.args.self.now c.args.queue) (parts at).pre (parts at).post (own at) (placed at) (true_of at)

pub leave-requires-clause-count : goal.leave-requires-clause-count
leave-requires-clause-count c =
    let at = (goal.at.leave-requires-clause-count c).After-after in
    leaves_enough c.args.blocks.now.store (parts at).at (hiwat_of c.args.self.now.state c.args.queue) (tally_at c.args.self.now c.args.queue) (parts at).pre (parts at).post (own at) (placed at) (true_of at)

pub leave-requires-clause-marked : goal.leave-requires-clause-marked
leave-requires-clause-marked c =
    mark_true c.args.blocks.now.store (hiwat_of c.args.self.now.state c.args.queue) (shelf_at c.args.blocks.now c.args.queue) (tally_at c.args.self.now c.args.queue) (c.requires.in_order.true_of c.args.queue c.requires.queue) c.queued_rank.result

pub leave-requires-clause-more : goal.leave-requires-clause-more
leave-requires-clause-more c =
    let at = (goal.at.leave-requires-clause-more c).After-after in
    leaves_more c.args.blocks.now.store (parts at).at (hiwat_of c.args.self.now.state c.args.queue) (tally_at c.args.self.now c.args.queue) (parts at).pre (parts at).post (own at) (placed at) (true_of at)
    (subst (λ ms. is_ordered (rank_of c.args.blocks.now.store) ms ≡ true) (parts at).is (c.requires.in_order.ordered c.args.queue)) (apart at)

pub leave-requires-clause-used : goal.leave-requires-clause-used
leave-requires-clause-used c = use_true (rank_of c.args.blocks.now.store) (shelf_at c.args.blocks.now c.args.queue) (tally_at c.args.self.now c.args.queue) (c.requires.in_order.true_of c.args.queue c.requires.queue).ends c.queued_rank.result

pub leave-requires-clause-first : goal.leave-requires-clause-first
leave-requires-clause-first c =
    let at = (goal.at.leave-requires-clause-first c).After-after in
    leaves_first_of_rank c.args.blocks.now.store (parts at).at (hiwat_of c.args.self.now.state c.args.queue) (tally_at c.args.self.now c.args.queue) (parts at).pre (parts at).post (own at) (placed at) (true_of at)
    (subst (λ ms. is_ordered (rank_of c.args.blocks.now.store) ms ≡ true) (parts at).is (c.requires.in_order.ordered c.args.queue)) (apart at)

pub returns-clause-in_order : goal.returns-clause-in_order
returns-clause-in_order c =
    let at = (goal.at.returns-clause-in_order c).After-after in
    let left : c.unshelve-token.new.self ≡ with_held (parts at).at (with_shelf c.args.queue ((parts at).pre ++ (parts at).post) c.args.blocks.now) =
    c.unshelve-token.ensures.after ∙ ap (λ n. unshelve c.args.queue n c.args.blocks.now) (sym (parts at).head)
    ∙ unshelved c.args.blocks.now c.args.queue (parts at).pre (parts at).post (parts at).at (parts at).is (heads_apart c.args.blocks.now c.lawful.ensures.parted c.args.queue) in
    subst (λ v. AreInOrder v c.unshelve-token.new.self) (sym c.leave.ensures)
    (in_order_got c.args.self.now c.args.blocks.now c.requires.in_order c.args.queue c.requires.queue (parts at).at c.unshelve-token.new.self (ap (λ (b : Arena). b.store) left) (parts at).pre (parts at).post (own at) (placed at) (apart at) (parts at).is
    (ap (λ (b : Arena). b.shelves) left))
