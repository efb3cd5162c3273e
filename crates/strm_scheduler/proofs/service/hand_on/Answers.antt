-- The message that was taken off went on, or stands where it was.
use Rattle.strm_scheduler.specs.Forwarding.{handed_on}
use Rattle.strm_scheduler.proofs.Moving.{got, handed, handed_whole, none_whole, within}
use Rattle.strm_scheduler.proofs.service.hand_on.Goals as goal

pub returns-in-Ok-Some : goal.returns-in-Ok-Some
unfolding handed_on
returns-in-Ok-Some c =
    let v = c.args.pool.now in
    let x = c.getq.new.self in
    let t = c.in-Ok-Some.token in
    let given = rw c.in-Ok-Some.field-0-is at c.in-Ok-Some.ensures.token in
    let had = rw c.in-Ok-Some.field-0-is at c.in-Ok-Some.ensures.had in
    let unheld = rw c.in-Ok-Some.field-0-is at c.in-Ok-Some.ensures.unheld in
    let g = got v x c.args.from c.requires.behind c.in-Ok-Some.ensures.after t given in
    let below = within v c.args.from _ c.requires.behind c.lawful.ensures.shelves in
    let ordered = c.lawful.ensures.ordered c.args.from in
    record {
      does = handed_whole c.args.from c.args.to c.requires.apart v x t g unheld had c.place.new.pool c.place.ensures.rest below ordered c.place.result c.place.ensures.leave c.place.ensures.messages c.place.ensures.state;
      moves = handed c.args.from c.args.to c.requires.apart v x t g unheld had c.place.new.pool c.place.ensures.rest below ordered c.place.result c.place.ensures.leave c.place.ensures.messages;
    }

pub returns-in-Ok-None-clause-does : goal.returns-in-Ok-None-clause-does
unfolding handed_on
returns-in-Ok-None-clause-does c =
    let given = rw c.in-Ok-None.field-0-is at c.in-Ok-None.ensures.token in
    none_whole c.args.pool.now c.getq.new.self c.args.from c.requires.behind c.in-Ok-None.ensures.after c.args.to
    (within c.args.pool.now c.args.from _ c.requires.behind c.lawful.ensures.flagged) given
