use Rattle.std.proofs.Common.{[], ◌∷◌}
use Rattle.std.proofs.lemmas.List.Elements.{All-head}
use Rattle.strm_shared.specs.Seats.{IsOf, with_pair}
use Rattle.strm_shared.proofs.board.Board.show_desk.Goals as goal

pub join-requires-clause-lock : goal.join-requires-clause-lock
join-requires-clause-lock g c = let l = c.requires.lock in (l.0, [], l.1)

pub show_guests-pair-requires : goal.show_guests-pair-requires
show_guests-pair-requires g c =
    let l = c.requires.lock in
    let d = c.requires.desk in
    (l.0, d.0 ∷ [], c.join.ensures.joined l.0 [] d.0 l.1 d.1)

pub leave-requires : goal.leave-requires
leave-requires g c =
    let l = c.requires.lock in
    let d = c.requires.desk in
    (l.0, with_pair c.show_guests-pair.result d.0, [], (c.show_guests-pair.ensures l.0 (d.0 ∷ []) (c.join.ensures.joined l.0 [] d.0 l.1 d.1)).here)

pub returns : goal.returns
returns g c h d lock desk =
    let p = c.show_guests-pair.result in
    let shown = c.show_guests-pair.ensures h (d ∷ []) (c.join.ensures.joined h [] d lock desk) in
    let left = c.leave.ensures h (with_pair p d) [] shown.here in
    record { here = left.0; there = left.1; lawful = shown.lawful; last = shown.last; known = All-head (IsOf g.N.Name.first h) (with_pair p d) [] shown.guests }
