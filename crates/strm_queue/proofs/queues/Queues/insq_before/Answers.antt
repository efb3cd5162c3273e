use Rattle.std.proofs.Common.{◌≡◌, ℕ, Option, None, Some, Err, refl, sym, ◌∙◌, subst}
use Rattle.std.proofs.lemmas.Bool.{false≢true}
use Rattle.strm_data.specs.declared.refusal.Refusal.TheVariants.{NoSuchPlace}
use Rattle.strm_mblk.specs.Calls.{Puts}
use Rattle.strm_mblk.proofs.arena.Calls.{puts_none}
use Rattle.strm_queue.specs.HeadCalls.{insq_before}
use Rattle.strm_queue.specs.QueuedBlocks.{QueuedBlocks, arena, queued_blocks}
use Rattle.strm_queue.proofs.moving.Puts.{insq_before_is, insq_before_missing, placed_before}
use Rattle.strm_queue.proofs.queues.Queues.insq_before.Goals as goal

pub insert-requires-clause-before : goal.insert-requires-clause-before
insert-requires-clause-before c h some = sym (c.is_at.ensures.some h some) ∙ c.if-not-is_at.false

pub returns-then-not-is_at-clause-does : goal.returns-then-not-is_at-clause-does
returns-then-not-is_at-clause-does c = of_head c.args.before refl
  where
    both : QueuedBlocks
    both = queued_blocks c.args.self.now c.args.blocks.now

    of_head : (o : Option ℕ) → c.args.before ≡ o → Puts arena c.args.token (insq_before c.args.queue c.args.before c.args.token.head both) both both (Err (record { why = NoSuchPlace; token = c.args.token }))
    of_head None none = absurd (false≢true (sym c.if-not-is_at.true ∙ c.is_at.ensures.none none))
    of_head (Some x) some =
        puts_none arena both c.args.token _ NoSuchPlace
        (insq_before_missing both c.args.queue c.args.token.head c.args.before (sym c.has_queue.ensures ∙ c.if-not-has_queue.false) x some (sym (c.is_at.ensures.some x some) ∙ c.if-not-is_at.true))
        c.requires.had

pub returns-clause-does : goal.returns-clause-does
returns-clause-does c =
    let both : QueuedBlocks = queued_blocks c.args.self.now c.args.blocks.now in
    let placed = placed_before both c.args.queue c.args.before (λ h some. sym (c.is_at.ensures.some h some) ∙ c.if-not-is_at.false) in
    subst (λ g. Puts arena c.args.token g both (queued_blocks c.insert.new.self c.insert.new.blocks) c.insert.result)
    (sym (insq_before_is both c.args.queue c.args.token.head c.args.before (sym c.has_queue.ensures ∙ c.if-not-has_queue.false) placed.place placed.found))
    (c.insert.ensures.does placed.place placed.few placed.at)
