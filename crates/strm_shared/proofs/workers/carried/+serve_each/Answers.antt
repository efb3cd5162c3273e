use Rattle.std.proofs.Common.{◌+◌, ◌++◌, ◌∷◌, [], sym, subst, arith}
use Rattle.strm_shared.specs.RunsLayout.{AreReady, IsReady, IsStartedFor}
use Rattle.strm_shared.proofs.Crews.{length-ready, longer, ready_last, worked_more_keeping}
use Rattle.strm_shared.proofs.workers.carried.+serve_each.Goals as goal

pub take_last-worker-requires : goal.take_last-worker-requires
take_last-worker-requires g t c =
    let parts = longer c.in-Some.earlier.now c.args.parts.now c.in-Some.lines.now c.in-Some.ensures.cases.0 in
    (omega arith, (omega (arith, parts, c.requires.desks), omega (arith, parts, length-ready c.args.site.now.keeps c.args.parts.now c.args.crew.now.rooms.items c.requires.ready)))

pub start-started-requires-clause-ready : goal.start-started-requires-clause-ready
start-started-requires-clause-ready g t c κs within =
    let w = c.take_last-worker.result in
    let left = c.take_last-worker.new.self.rooms.items in
    let keeps = c.args.site.now.keeps in
    let all = subst (λ ps. AreReady keeps ps (left ++ w.replies ∷ [])) c.in-Some.ensures.cases.0 (subst (AreReady keeps c.args.parts.now) c.take_last-worker.ensures.rooms c.requires.ready) in
    subst (λ lines. IsReady keeps lines w.replies) (sym c.items.ensures) (ready_last keeps c.in-Some.earlier.now left c.in-Some.lines.now w.replies all).1

pub serve_each-requires-after_bounds : goal.serve_each-requires-after_bounds
serve_each-requires-after_bounds g t c κs within =
    let w = c.take_last-worker.result in
    let left = c.take_last-worker.new.self.rooms.items in
    let keeps = c.args.site.now.keeps in
    let all = subst (λ ps. AreReady keeps ps (left ++ w.replies ∷ [])) c.in-Some.ensures.cases.0 (subst (AreReady keeps c.args.parts.now) c.take_last-worker.ensures.rooms c.requires.ready) in
    let parts = longer c.in-Some.earlier.now c.args.parts.now c.in-Some.lines.now c.in-Some.ensures.cases.0 in
    let desks = longer c.take_last-worker.new.self.desks c.args.crew.now.desks w.desk c.take_last-worker.ensures.desks in
    let room = c.requires.room in (
      omega arith,
      (
        omega arith,
        (
          omega (arith, parts, c.requires.few),
          (
            omega (arith, parts, desks, c.requires.desks),
            (
              (ready_last keeps c.in-Some.earlier.now left c.in-Some.lines.now w.replies all).0,
              ((omega (arith, parts, room.0), omega (arith, parts, room.1), omega (arith, parts, room.2)), c.requires.empty),
            ),
          ),
        ),
      ),
    )

pub push-requires : goal.push-requires
push-requires g t c =
    let parts = longer c.in-Some.earlier.now c.args.parts.now c.in-Some.lines.now c.in-Some.ensures.cases.0 in
    let room = c.requires.room in
    (omega arith, c.serve_each.ensures.room 1 (omega (arith, parts, room.0), omega (arith, parts, room.1), omega (arith, parts, room.2)))

pub returns-clause-worked : goal.returns-clause-worked
returns-clause-worked g t c =
    let w = c.take_last-worker.result in
    let x = c.finish.result in
    let keeps = c.args.site.now.keeps in
    let past = c.serve_each.new.done in
    let now = c.push.new.self in
    let parts = longer c.in-Some.earlier.now c.args.parts.now c.in-Some.lines.now c.in-Some.ensures.cases.0 in
    let desks = longer c.take_last-worker.new.self.desks c.args.crew.now.desks w.desk c.take_last-worker.ensures.desks in
    worked_more_keeping keeps g.N.Name c.args.parts.now c.in-Some.earlier.now c.in-Some.lines.now c.args.crew.now.desks c.take_last-worker.new.self.desks w.desk
    now.ends.items past.ends.items x.end now.replies.items past.replies.items x.replies.items now.desks past.desks x.desk
    c.in-Some.ensures.cases.0 c.take_last-worker.ensures.desks c.push.ensures.ends c.push.ensures.replies c.push.ensures.desks
    (omega (arith, parts, desks, c.requires.desks)) c.serve_each.ensures.worked
    (c.finish.ensures keeps c.in-Some.lines.now w.desk (subst (λ lines. IsStartedFor keeps g.N.Name lines w.desk c.start-started.result) c.items.ensures c.start-started.ensures))

pub returns-clause-room : goal.returns-clause-room
returns-clause-room g t c n room =
    let parts = longer c.in-Some.earlier.now c.args.parts.now c.in-Some.lines.now c.in-Some.ensures.cases.0 in
    c.push.ensures.room n (c.serve_each.ensures.room (n + 1) (omega (arith, parts, room.0), omega (arith, parts, room.1), omega (arith, parts, room.2)))
