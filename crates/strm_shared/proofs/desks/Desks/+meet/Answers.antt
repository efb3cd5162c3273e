use Rattle.std.proofs.Common.{rules, ◌≡◌, ℕ, ◌≤◌, List, [], ◌∷◌, ◌++◌, map, get_or, ap, sym, subst, ◌∙◌, append_assoc, arith}
use Rattle.std.specs.Prelude.{All, Contains}
use Rattle.std.proofs.lemmas.List.{map_push}
use Rattle.std.proofs.lemmas.List.Elements.{All-head, All-push, All-tail}
use Rattle.strm_links.specs.Counting.{times}
use Rattle.strm_links.proofs.lists.Counting.{times-cons}
use Rattle.strm_shared.specs.declared.views.Known.{Known}
use Rattle.strm_shared.specs.Desks.{DeskValue, desk_value, with_pair_seen}
use Rattle.strm_shared.specs.Pairs.{pair_at}
use Rattle.strm_shared.specs.Seats.{IsOf, with_pair}
use Rattle.strm_shared.specs.SeatsLayout.{IsDeskOfHistory, known_at, known_in}
use Rattle.strm_shared.proofs.seats.Desks.{desk_shown, known_is, seat_is, seated_shown}
use Rattle.strm_shared.proofs.desks.Desks.+meet.Goals as goal

pub leave-seat-requires : goal.leave-seat-requires
leave-seat-requires g t c =
    let i = c.number.inside in
    let d = known_in i.seat in
    let p = c.meet-pair.result in
    let l = c.requires.lock in
    let here = seat_is c.in-Some.is c.number.invariant.seat in
    (l.0, with_pair p d, map (with_pair p) l.1, (c.meet-pair.ensures.guests l.0 (d ∷ l.1) (c.join.ensures.joined l.0 l.1 d l.2 here)).here)

pub invariant_of-push : goal.invariant_of-push
invariant_of-push g t c =
    let o = pair_at g.N.Name.first g.N.Name.opened in
    let i = c.number.inside in
    let d = known_in i.seat in
    let p = c.meet-pair.result in
    let l = c.requires.lock in
    let here = seat_is c.in-Some.is c.number.invariant.seat in
    let m = c.meet-pair.ensures.guests l.0 (d ∷ l.1) (c.join.ensures.joined l.0 l.1 d l.2 here) in
    let of = All-head (IsOf o.0 l.0) (with_pair p d) (map (with_pair p) l.1) m.guests in
    let away = (c.leave-seat.ensures l.0 (with_pair p d) (map (with_pair p) l.1) m.here).1 in record {
      desk = record { below = c.number.invariant.desk.below; carry = c.number.invariant.desk.carry };
      share = c.number.invariant.share;
      seat = seated_shown p c.leave-seat.result c.number.invariant.seat away (desk_shown o l.0 (with_pair p d) p m.lawful m.last of);
    }

pub returns-clause-guests : goal.returns-clause-guests
returns-clause-guests g t c h gs lock =
    let i = c.number.inside in
    let d = known_in i.seat in
    let p = c.meet-pair.result in
    let here = seat_is c.in-Some.is c.number.invariant.seat in
    let m = c.meet-pair.ensures.guests h (d ∷ gs) (c.join.ensures.joined h gs d lock here) in
    record {
      here = (c.leave-seat.ensures h (with_pair p d) (map (with_pair p) gs) m.here).0;
      lawful = m.lawful;
      last = m.last;
      guests = All-tail (IsOf g.N.Name.first h) (with_pair p d) (map (with_pair p) gs) m.guests;
      apart = λ n. omega (arith, m.apart n, times-cons n d.number (map (λ (k : Known). k.number) gs));
    }

pub returns-clause-shown : goal.returns-clause-shown
returns-clause-shown g t c =
    let i = c.number.inside in
    let d = known_in i.seat in
    let p = c.meet-pair.result in
    let l = c.requires.lock in
    let here = seat_is c.in-Some.is c.number.invariant.seat in
    let m = c.meet-pair.ensures.guests l.0 (d ∷ l.1) (c.join.ensures.joined l.0 l.1 d l.2 here) in
    let away = (c.leave-seat.ensures l.0 (with_pair p d) (map (with_pair p) l.1) m.here).1 in
    let desk : desk_value i.number i.regs (known_at c.leave-seat.result).pairs (known_at c.leave-seat.result).served ≡ with_pair_seen p c.take_last.result =
    ap (λ (k : Known). desk_value i.number i.regs k.pairs k.served) (known_is g.N.Name.board (with_pair p d) c.leave-seat.result away)
    ∙ ap (with_pair_seen p) c.number.view_is in
    c.push.ensures
    ∙ (λ j. c.meet-pair.ensures.shown j ++ desk j ∷ [])
    ∙ sym (map_push (with_pair_seen p) c.take_last.new.self c.take_last.result)
    ∙ ap (map (with_pair_seen p)) (sym c.take_last.ensures)

pub returns-clause-met : goal.returns-clause-met
returns-clause-met g t c h gs lock =
    let i = c.number.inside in
    let d = known_in i.seat in
    let p = c.meet-pair.result in
    let here = seat_is c.in-Some.is c.number.invariant.seat in
    let there = c.join.ensures.joined h gs d lock here in
    let m = c.meet-pair.ensures.guests h (d ∷ gs) there in
    let of = All-head (IsOf g.N.Name.first h) (with_pair p d) (map (with_pair p) gs) m.guests in
    let away = (c.leave-seat.ensures h (with_pair p d) (map (with_pair p) gs) m.here).1 in
    let e : DeskValue = desk_value i.number i.regs (known_at c.leave-seat.result).pairs (known_at c.leave-seat.result).served in
    let met : IsDeskOfHistory g.N.Name.opened.arena.id g.N.Name.desks g.N.Name.first h e =
    record {
      desk = record { below = c.number.invariant.desk.below; carry = c.number.invariant.desk.carry };
      pairs = subst (λ (k : Known). All (Contains h.pairs) k.pairs) (sym (known_is g.N.Name.board (with_pair p d) c.leave-seat.result away)) of.pairs;
      served = cc (known_is g.N.Name.board (with_pair p d) c.leave-seat.result away, of.served, c.number.invariant.seat.number);
      table = ap (λ (n : ℕ). get_or h.tables n []) (sym c.number.invariant.seat.number) ∙ of.table ∙ c.number.invariant.seat.table;
    } in
    subst (All (IsDeskOfHistory g.N.Name.opened.arena.id g.N.Name.desks g.N.Name.first h)) {x = c.meet-pair.new.self ++ e ∷ []} (sym c.push.ensures)
    (All-push (IsDeskOfHistory g.N.Name.opened.arena.id g.N.Name.desks g.N.Name.first h) c.meet-pair.new.self e (c.meet-pair.ensures.met h (d ∷ gs) there) met)

pub returns-clause-apart : goal.returns-clause-apart
returns-clause-apart g t c h gs lock n =
    let i = c.number.inside in
    let d = known_in i.seat in
    let here = seat_is c.in-Some.is c.number.invariant.seat in
    let there = c.join.ensures.joined h gs d lock here in
    let e : DeskValue = desk_value i.number i.regs (known_at c.leave-seat.result).pairs (known_at c.leave-seat.result).served in
    let before : List ℕ = map (λ (x : DeskValue). x.number) c.meet-pair.new.self in
    let guests : List ℕ = map (λ (x : Known). x.number) gs in
    let is : map (λ (x : DeskValue). x.number) c.push.new.self ++ guests ≡ before ++ d.number ∷ guests =
    cc (c.push.ensures, map_push (λ (x : DeskValue). x.number) c.meet-pair.new.self e, append_assoc before (i.number ∷ []) guests, c.number.invariant.seat.number) in
    subst (λ (ns : List ℕ). times n ns ≤ 1) (sym is) (c.meet-pair.ensures.apart h (d ∷ gs) there n)

pub returns-then-is_empty-clause-apart : goal.returns-then-is_empty-clause-apart
returns-then-is_empty-clause-apart g t c h gs lock n =
    let none : c.args.self.now ≡ [] = search rules in
    subst (λ (ds : List DeskValue). times n (map (λ (x : DeskValue). x.number) ds ++ map (λ (x : Known). x.number) gs) ≤ 1) (sym none) ((c.show_guests.ensures h gs lock).apart n)
