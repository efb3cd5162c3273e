use Rattle.std.proofs.Common.{◌≡◌, [], ap, subst, ◌∙◌}
use Rattle.strm_shared.specs.declared.views.View.TheVariants.{At}
use Rattle.strm_shared.specs.Pairs.{pair_at}
use Rattle.strm_shared.specs.Seats.{Shows, view_with_pair, with_pair}
use Rattle.strm_shared.proofs.seats.Seated.{Mine}
use Rattle.strm_shared.proofs.board.Board.see.Goals as goal

pub load-requires : goal.load-requires
load-requires g c = c.requires.1.0

pub returns : goal.returns
returns g c d desk =
    let s = c.load.ensures in
    let p = c.load.result in
    let saw : c.load.new.seat.me ≡ (At (with_pair p d), []) = s.seat.1 ∙ ap (λ (m : Mine). let n : Mine = (view_with_pair p m.0, m.1) in n) desk.1 in
    ((s.seat.0, saw), subst (λ (m : Mine). Shows (pair_at g.N.Name.first g.N.Name.opened) p m.0) saw s.shown)
