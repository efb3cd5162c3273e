-- The message that was taken off may go on, or stands where it was.
use Rattle.strm_scheduler.specs.Forwarding.{handed_on}
use Rattle.strm_scheduler.proofs.Moving.{got, none_whole, within}
use Rattle.strm_scheduler.proofs.Treated.{rest_joined, takes_to, unheld_kept}
use Rattle.strm_scheduler.proofs.treating.take_allowed.Goals as goal

pub returns-in-Ok-Some-clause-takes : goal.returns-in-Ok-Some-clause-takes
returns-in-Ok-Some-clause-takes c =
    let v = c.args.pool.now in
    let x = c.getq.new.self in
    let t = c.in-Ok-Some.token in
    let given = rw c.in-Ok-Some.field-0-is at c.in-Ok-Some.ensures.token in
    let had = rw c.in-Ok-Some.field-0-is at c.in-Ok-Some.ensures.had in
    let unheld = rw c.in-Ok-Some.field-0-is at c.in-Ok-Some.ensures.unheld in
    let g = got v x c.args.queue c.requires.behind c.in-Ok-Some.ensures.after t given in
    takes_to c.args.queue c.args.next c.requires.apart v x t g unheld had (within v c.args.queue _ c.requires.behind c.lawful.ensures.shelves) (c.lawful.ensures.ordered c.args.queue)
    c.keep_allowed.new.pool c.keep_allowed.ensures.rest c.keep_allowed.result c.keep_allowed.ensures.keeps

pub returns-in-Ok-Some-clause-unheld : goal.returns-in-Ok-Some-clause-unheld
returns-in-Ok-Some-clause-unheld c =
    let unheld = rw c.in-Ok-Some.field-0-is at c.in-Ok-Some.ensures.unheld in
    unheld_kept c.args.queue c.args.next c.in-Ok-Some.token c.args.pool.now c.getq.new.self c.keep_allowed.new.pool unheld c.keep_allowed.result c.keep_allowed.ensures.keeps

pub returns-in-Ok-Some-clause-rest : goal.returns-in-Ok-Some-clause-rest
returns-in-Ok-Some-clause-rest c =
    let v = c.args.pool.now in
    let x = c.getq.new.self in
    let given = rw c.in-Ok-Some.field-0-is at c.in-Ok-Some.ensures.token in
    let g = got v x c.args.queue c.requires.behind c.in-Ok-Some.ensures.after c.in-Ok-Some.token given in
    rest_joined v x c.keep_allowed.new.pool g.rest c.keep_allowed.ensures.rest

pub returns-in-Ok-None-clause-takes : goal.returns-in-Ok-None-clause-takes
unfolding handed_on
returns-in-Ok-None-clause-takes c =
    let given = rw c.in-Ok-None.field-0-is at c.in-Ok-None.ensures.token in
    none_whole c.args.pool.now c.getq.new.self c.args.queue c.requires.behind c.in-Ok-None.ensures.after c.args.next
    (within c.args.pool.now c.args.queue _ c.requires.behind c.lawful.ensures.flagged) given
