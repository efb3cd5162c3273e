use Rattle.std.proofs.Common.{[], arith, ap, sym, ◌∙◌}
use Rattle.strm_shared.specs.declared.views.View.TheVariants.{Lock}
use Rattle.strm_shared.proofs.seats.Keeping.{opens_as}
use Rattle.strm_shared.proofs.seats.Seated.{Mine, new_desk, opened}
use Rattle.strm_shared.proofs.board.Board.seat_desk.Goals as goal

pub split_seat-requires : goal.split_seat-requires
split_seat-requires g c =
    let b = c.args.self.now in
    let l = c.requires in
    (l.1.0 ∙ sym b.named, omega (arith, b.one_word), opens_as _ _ _ l.0 [] (ap (λ (m : Mine). m.0) {y = (Lock l.0 [], [])} l.1.1))

pub returns : goal.returns
returns g c h lock =
    let s = c.split_seat.ensures in
    let was = c.args.lock.now.me in
    ((s.0 ∙ lock.0, opened was h [] lock.1 _ s.2), (s.3 ∙ lock.0, new_desk was h [] lock.1 _ s.4))
