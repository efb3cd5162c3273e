-- Each of the two calls leaves what `with_put_either` and `with_one_placed` say of its case.
use Rattle.std.proofs.Common.{ap, ◌∙◌, sym}
use Rattle.strm_mblk.specs.Arena.{Arena, message_at, without_held}
use Rattle.strm_pool.specs.PoolValue.{PoolValue}
use Rattle.strm_scheduler.specs.Forwarding.{with_put_either, with_put, with_put_back}
use Rattle.strm_scheduler.proofs.Moving.{placed_back, placed_on, put_back_leaves, put_back_state, put_leaves, put_state, there_still}
use Rattle.strm_scheduler.proofs.service.place.Goals as goal
use Rattle.strm_scheduler.proofs.service.place.Goals.{then-goes, else-goes}

pub returns-clause-messages : goal.returns-clause-messages
returns-clause-messages c =
    let h = c.args.token.head in
    let asked = c.may_go-goes.new.pool in
    elim c.if-goes.branch [
      | then-goes w ↦
          ap (λ (p : PoolValue). p.arena) w.pool-is
          ∙ put_leaves asked _ c.args.to h (there_still c.args.pool.now asked c.args.to c.may_go-goes.ensures.rest c.requires.ahead) w.putq-put.ensures.after
          ∙ ap (λ (a : Arena). with_put c.args.to (message_at a h) (without_held h a)) c.may_go-goes.ensures.arena
          ∙ ap (λ goes. with_put_either c.args.from c.args.to h goes c.args.pool.now.arena) (sym w.if-goes.true)
      | else-goes w ↦
          ap (λ (p : PoolValue). p.arena) w.pool-is
          ∙ put_back_leaves asked _ c.args.from h (there_still c.args.pool.now asked c.args.from c.may_go-goes.ensures.rest c.requires.behind) w.putbq-put.ensures.after
          ∙ ap (λ (a : Arena). with_put_back c.args.from (message_at a h) (without_held h a)) c.may_go-goes.ensures.arena
          ∙ ap (λ goes. with_put_either c.args.from c.args.to h goes c.args.pool.now.arena) (sym w.if-goes.false)
    ]

pub returns-clause-state : goal.returns-clause-state
returns-clause-state c =
    let old = c.args.pool.now in
    let h = c.args.token.head in
    let asked = c.may_go-goes.new.pool in
    let is = c.may_go-goes.ensures in
    elim c.if-goes.branch [
      | then-goes w ↦
          placed_on c.args.from c.args.to h old asked c.if-goes.pool is.arena _ w.if-goes.true is.state
          (ap (λ (p : PoolValue). p.queues) w.pool-is ∙ put_state asked _ c.args.to h (there_still old asked c.args.to is.rest c.requires.ahead) w.putq-put.ensures.after)
      | else-goes w ↦
          placed_back c.args.from c.args.to h old asked c.if-goes.pool is.arena _ w.if-goes.false is.state
          (ap (λ (p : PoolValue). p.queues) w.pool-is ∙ put_back_state asked _ c.args.from h (there_still old asked c.args.from is.rest c.requires.behind) w.putbq-put.ensures.after)
    ]
