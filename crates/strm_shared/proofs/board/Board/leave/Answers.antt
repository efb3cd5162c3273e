use Rattle.std.proofs.Common.{[], ◌∷◌, ap, sym, arith, ◌∙◌}
use Rattle.strm_shared.specs.declared.views.View.TheVariants.{Lock}
use Rattle.strm_shared.proofs.seats.Keeping.{leaves_as}
use Rattle.strm_shared.proofs.seats.Seated.{Mine, guest, left}
use Rattle.strm_shared.proofs.board.Board.leave.Goals as goal

pub split_seat-requires : goal.split_seat-requires
split_seat-requires g c =
    let b = c.args.self.now in
    let l = c.requires in
    (l.3.0 ∙ sym b.named, omega (arith, b.one_word), leaves_as _ _ _ l.0 l.1 l.2 (ap (λ (m : Mine). m.0) {y = (Lock l.0 (l.1 ∷ l.2), [])} l.3.1))

pub returns : goal.returns
returns g c h d gs lock =
    let s = c.split_seat.ensures in
    let was = c.args.lock.now.me in
    ((s.0 ∙ lock.0, left was h d gs lock.1 _ s.2), (s.3 ∙ lock.0, guest was h d gs lock.1 _ s.4))
