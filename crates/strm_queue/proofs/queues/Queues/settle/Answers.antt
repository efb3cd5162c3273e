use Rattle.std.proofs.Common.{◌∙◌, sym, ap, subst, true, false}
use Rattle.strm_queue.specs.QueueCalls.{waker_enabled}
use Rattle.strm_queue.specs.QueuedBlocks.{Agrees, QueuesValue, queued_blocks}
use Rattle.strm_queue.proofs.Flow.{alone, settled_agrees, settled_by}
use Rattle.strm_queue.proofs.queues.Queues.settle.Goals as goal

pub returns-then-relieve-clause-state : goal.returns-then-relieve-clause-state
returns-then-relieve-clause-state c arena in_order =
    ap (λ (w : QueuesValue). queued_blocks w arena) (c.enable_waker.ensures ∙ ap (λ (w : QueuesValue). record w { state = waker_enabled c.args.queue w.state }) c.relieve.ensures.flags)
    ∙ settled_by c.args.self.now arena c.args.queue in_order c.requires.queue true (sym c.if-relieve.true ∙ c.relieve.ensures.some)

pub returns-then-relieve-clause-agrees : goal.returns-then-relieve-clause-agrees
returns-then-relieve-clause-agrees c arena in_order others =
    subst (λ w. Agrees w arena) (sym (alone c.args.self.now c.enable_waker.new.self (c.enable_waker.ensures ∙ ap (λ (w : QueuesValue). record w { state = waker_enabled c.args.queue w.state }) c.relieve.ensures.flags)))
    (settled_agrees c.args.self.now arena c.args.queue others c.enable_waker.new.self.state in_order
    (ap (λ (w : QueuesValue). queued_blocks w arena) (c.enable_waker.ensures ∙ ap (λ (w : QueuesValue). record w { state = waker_enabled c.args.queue w.state }) c.relieve.ensures.flags)
    ∙ settled_by c.args.self.now arena c.args.queue in_order c.requires.queue true (sym c.if-relieve.true ∙ c.relieve.ensures.some)))

pub returns-else-relieve-clause-state : goal.returns-else-relieve-clause-state
returns-else-relieve-clause-state c arena in_order =
    ap (λ (w : QueuesValue). queued_blocks w arena) c.relieve.ensures.flags
    ∙ settled_by c.args.self.now arena c.args.queue in_order c.requires.queue false (sym c.if-relieve.false ∙ c.relieve.ensures.some)

pub returns-else-relieve-clause-agrees : goal.returns-else-relieve-clause-agrees
returns-else-relieve-clause-agrees c arena in_order others =
    subst (λ w. Agrees w arena) (sym (alone c.args.self.now c.relieve.new.self c.relieve.ensures.flags))
    (settled_agrees c.args.self.now arena c.args.queue others c.relieve.new.self.state in_order
    (ap (λ (w : QueuesValue). queued_blocks w arena) c.relieve.ensures.flags
    ∙ settled_by c.args.self.now arena c.args.queue in_order c.requires.queue false (sym c.if-relieve.false ∙ c.relieve.ensures.some)))
