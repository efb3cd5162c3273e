use Rattle.std.proofs.Common.{◌≤◌, map, subst}
use Rattle.strm_links.specs.Counting.{times}
use Rattle.strm_shared.specs.Pairs.{pair_at}
use Rattle.strm_shared.specs.Seats.{with_pair}
use Rattle.strm_shared.proofs.seats.Numbers.{numbers-with_pair}
use Rattle.strm_shared.proofs.seats.Seated.{lock_shown, looked}
use Rattle.strm_shared.proofs.board.Board.show_guests.Goals as goal

pub load-requires : goal.load-requires
load-requires g c = c.requires.2.0

pub returns : goal.returns
returns g c h gs lock =
    let s = c.load.ensures in
    let p = c.load.result in
    let saw = looked c.args.lock.now.me h gs lock.1 c.load.new.seat.me p s.seat.1 in
    let shown = lock_shown c.load.new.seat.me h (map (with_pair p) gs) saw (pair_at g.N.Name.first g.N.Name.opened) p s.shown in
    record { here = (s.seat.0, saw); lawful = shown.0; last = shown.1; guests = shown.2; apart = λ n. subst (λ ns. times n ns ≤ 1) (numbers-with_pair p gs) (shown.3 n) }
