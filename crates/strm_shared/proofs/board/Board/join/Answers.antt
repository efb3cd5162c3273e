use Rattle.std.proofs.Common.{[], ◌∷◌, ap, sym, arith, ◌∙◌}
use Rattle.strm_shared.specs.declared.views.View.TheVariants.{Lock, At}
use Rattle.strm_shared.proofs.seats.Keeping.{visits_as}
use Rattle.strm_shared.proofs.seats.Seated.{Mine, joined}
use Rattle.strm_shared.proofs.board.Board.join.Goals as goal

pub join_seat-requires : goal.join_seat-requires
join_seat-requires g c =
    let b = c.args.self.now in
    let l = c.requires.lock in
    let d = c.requires.desk in
    (l.2.0 ∙ sym b.named, d.1.0 ∙ sym b.named, ap (λ (m : Mine). m.1) {y = (At d.0, [])} d.1.1, omega (arith, b.one_word), visits_as _ _ _ l.0 l.1 _ _ d.0 (ap (λ (m : Mine). m.0) {y = (Lock l.0 l.1, [])} l.2.1) (ap (λ (m : Mine). m.0) {y = (At d.0, [])} d.1.1))

pub returns-clause-joined : goal.returns-clause-joined
returns-clause-joined g c h gs d lock desk =
    let s = c.join_seat.ensures in
    (s.0 ∙ lock.0, joined c.args.lock.now.me h gs lock.1 c.args.desk.me c.join_seat.new.seat.me d desk.1 s.2)

pub returns-clause-lock : goal.returns-clause-lock
returns-clause-lock g c =
    let s = c.join_seat.ensures in
    let l = c.requires.lock in
    let d = c.requires.desk in
    (l.0, d.0 ∷ l.1, (s.0 ∙ l.2.0, joined c.args.lock.now.me l.0 l.1 l.2.1 c.args.desk.me c.join_seat.new.seat.me d.0 d.1.1 s.2))
