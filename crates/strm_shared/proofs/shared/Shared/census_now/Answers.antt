use Rattle.std.proofs.Common.{◌≤◌, subst, ◌∙◌}
use Rattle.strm_shared.specs.Desks.{DeskValue, stamp_seen}
use Rattle.strm_shared.specs.Pairs.{pair_at}
use Rattle.strm_shared.specs.SeatsLayout.{known_in}
use Rattle.strm_shared.proofs.seats.Desks.{seat_is, seated_shown, seen_before}
use Rattle.strm_shared.proofs.seats.Seated.{shown_whole}
use Rattle.strm_shared.proofs.shared.Shared.census_now.Goals as goal

pub see-pair-requires : goal.see-pair-requires
see-pair-requires g c = (known_in c.desk.inside.seat, seat_is c.in-Some.is c.desk.invariant.seat)

pub invariant_of-desk : goal.invariant_of-desk
invariant_of-desk g c =
    let saw = c.see-pair.ensures (known_in c.desk.inside.seat) (seat_is c.in-Some.is c.desk.invariant.seat) in
    record {
      desk = record { below = c.desk.invariant.desk.below; carry = c.desk.invariant.desk.carry };
      share = c.desk.invariant.share;
      seat = seated_shown c.see-pair.result c.see-pair.new.desk c.desk.invariant.seat saw.0 saw.1;
    }

pub returns-clause-later : goal.returns-clause-later
returns-clause-later g c =
    let saw = c.see-pair.ensures (known_in c.desk.inside.seat) (seat_is c.in-Some.is c.desk.invariant.seat) in
    subst (λ (d : DeskValue). stamp_seen d ≤ c.see-pair.result.0) c.desk.view_is (seen_before _ _ _ _ _ _ _ _ _ c.see-pair.result c.desk.invariant.seat saw.1)

pub returns-clause-whole : goal.returns-clause-whole
returns-clause-whole g c =
    let saw = c.see-pair.ensures (known_in c.desk.inside.seat) (seat_is c.in-Some.is c.desk.invariant.seat) in
    shown_whole (pair_at g.N.Name.first g.N.Name.opened) c.see-pair.result _ saw.1 ∙ c.desk.invariant.seat.sized
