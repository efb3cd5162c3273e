use Rattle.std.proofs.Common.{[], None, arith, length, refl, sym, subst, ap, ◌∙◌, rules}
use Rattle.strm_queue.specs.Taking as taking
use Rattle.strm_pool.specs.PoolValue.{on_queues, queued_blocks_of}
use Rattle.strm_named.specs.NamedLayout.{pool_with}
use Rattle.strm_named.specs.NamedCalls.{take_flushed, most_taken, names_of, outcome_of, some_messages, with_names}
use Rattle.strm_named.proofs.Shaped.{Called, seen}
use Rattle.strm_named.proofs.Taken.{few_taken, keeps_stamps, stores_some, takes_some}
use Rattle.strm_named.proofs.named_pool.NamedPool.take_flushed.Goals.{After-drop-naming}
use Rattle.strm_named.proofs.named_pool.NamedPool.take_flushed.Goals as goal

pub shape_of-self-inside : goal.shape_of-self-inside
shape_of-self-inside c = sym (keeps_stamps _ _ _ c.take_flushed-taken.ensures.tokens.handed)

called : (c : After-drop-naming) → Called some_messages (outcome_of (on_queues c.self.inside.pool (taking.take_flushed c.args.queue c.args.flush (most_taken (length c.args.into.now)) (queued_blocks_of c.self.inside.pool)))) [] (pool_with c.self.inside.pool c.self.inside.stamps.items) c.take_flushed-taken.new.self c.drop-naming.new.self.0.items c.answered.result
called c =
    let p = c.self.inside.pool in
    subst (λ k. Called some_messages (outcome_of (on_queues p (taking.take_flushed c.args.queue c.args.flush k (queued_blocks_of p)))) [] (pool_with p c.self.inside.stamps.items) c.take_flushed-taken.new.self c.drop-naming.new.self.0.items c.answered.result) c.min-most.ensures
    (takes_some c.self.invariant refl c.drop-naming.ensures.stamps c.take_flushed-taken.ensures c.answered.ensures)

pub invariant_of-self : goal.invariant_of-self
invariant_of-self c = (called (goal.at.invariant_of-self c).After-drop-naming).fits

pub returns-clause-does : goal.returns-clause-does
returns-clause-does c = (seen (λ v. on_queues v.pool (taking.take_flushed c.args.queue c.args.flush (most_taken (length c.args.into.now)) (queued_blocks_of v.pool))) c.self.view_is (called (goal.at.returns-clause-does c).After-drop-naming)).does

pub returns-clause-names : goal.returns-clause-names
returns-clause-names c =
    let p = c.self.inside.pool in
    let v = pool_with c.take_flushed-taken.new.self c.drop-naming.new.self.0.items in
    let into = c.args.into.now in
    stores_some c.self.invariant refl c.drop-naming.ensures.stamps c.take_flushed-taken.ensures refl
    (λ hs u is. omega (arith, few_taken p c.min-most.result hs u c.args.queue None c.args.flush is, c.min-most.ensures)) (search rules)
    ∙ ap (λ k. with_names (names_of some_messages v (outcome_of (on_queues p (taking.take_flushed c.args.queue c.args.flush k (queued_blocks_of p))))) into) c.min-most.ensures
    ∙ ap (λ w. with_names (names_of some_messages v (take_flushed c.args.queue c.args.flush (length into) w)) into) c.self.view_is
