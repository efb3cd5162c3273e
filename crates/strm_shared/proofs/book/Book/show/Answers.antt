use Rattle.std.proofs.Common.{◌≡◌, [], sym, ap, ◌∙◌, subst}
use Rattle.strm_shared.specs.declared.views.History.{History}
use Rattle.strm_shared.specs.declared.views.Known.{Known}
use Rattle.strm_shared.specs.Chronicle.{AreTold}
use Rattle.strm_shared.specs.Books.{BookValue, IsBookOf, pair_in}
use Rattle.strm_shared.specs.Desks.{desk_value, with_pair_seen}
use Rattle.strm_shared.specs.Pairs.{pair_at}
use Rattle.strm_shared.specs.Seats.{with_pair}
use Rattle.strm_shared.specs.Traces.{IsTraceOf}
use Rattle.strm_shared.specs.SeatsLayout.{IsShownBy, book_with, history_at, known_at, known_in}
use Rattle.strm_shared.proofs.seats.Seated.{history_is, kept}
use Rattle.strm_shared.proofs.seats.Desks.{desk_shown, known_is, seat_is, seated_shown}
use Rattle.strm_shared.proofs.book.Book.show.Given as given
use Rattle.strm_shared.proofs.book.Book.show.Goals as goal
use Rattle.strm_shared.proofs.book.Book.show.Goals.{After-show_desk-seat}

-- both seats, once the desk has seen the pair
looked : (g : given.Over) (c : After-show_desk-seat g)
    → IsShownBy g.N.Name.board (pair_at g.N.Name.first g.N.Name.opened) (history_at c.self.inside.seat) (known_in c.desk.inside.seat) c.show_desk-seat.result.0 c.show_desk-seat.new.lock c.show_desk-seat.result.1
looked g c = c.show_desk-seat.ensures (history_at c.self.inside.seat) (known_in c.desk.inside.seat) c.self.invariant.seat.here (seat_is (sym c.take.ensures.value ∙ c.in-Some.is) c.desk.invariant.seat)

-- what contracts see of the book is as it was
same_book : (g : given.Over) (c : After-show_desk-seat g)
    → book_with (history_at c.show_desk-seat.new.lock) c.self.inside.pool c.self.inside.stamp c.self.inside.trace ≡ book_with (history_at c.self.inside.seat) c.self.inside.pool c.self.inside.stamp c.self.inside.trace
same_book g c = ap (λ (h : History). book_with h c.self.inside.pool c.self.inside.stamp c.self.inside.trace) (history_is _ _ [] c.show_desk-seat.new.lock (looked g c).here)

-- and of the desk, that it has seen the pair
desk_shown_it : (g : given.Over) (c : After-show_desk-seat g)
    → desk_value c.desk.inside.number c.desk.inside.regs (known_at c.show_desk-seat.result.1).pairs (known_at c.show_desk-seat.result.1).served ≡ with_pair_seen c.show_desk-seat.result.0 (desk_value c.desk.inside.number c.desk.inside.regs (known_in c.desk.inside.seat).pairs (known_in c.desk.inside.seat).served)
desk_shown_it g c = ap (λ (k : Known). desk_value c.desk.inside.number c.desk.inside.regs k.pairs k.served) (known_is _ (with_pair c.show_desk-seat.result.0 (known_in c.desk.inside.seat)) c.show_desk-seat.result.1 (looked g c).there)

pub invariant_of-self : goal.invariant_of-self
invariant_of-self g c =
    let was = c.self.invariant.seat in
    let at = (goal.at.invariant_of-self g c).After-show_desk-seat in
    let same = sym (same_book g at) in record {
      book = subst (IsBookOf g.N.Name.opened.arena.id g.N.Name.desks g.N.Name.first) same c.self.invariant.book;
      ledger = c.self.invariant.ledger;
      seat = kept _ _ _ _ _ _ c.show_desk-seat.new.lock (looked g at).here was.lawful was.last was.desks;
      told = subst (λ (b : BookValue). AreTold g.N.Name.opened g.N.Name.desks g.N.Name.first b.stamp b.entries b.pool b.tables b.pairs) same c.self.invariant.told;
      trace = subst (λ (b : BookValue). IsTraceOf g.N.Name.kept b.entries b.trace) same c.self.invariant.trace;
    }

pub invariant_of-desk : goal.invariant_of-desk
invariant_of-desk g c =
    let at = (goal.at.invariant_of-desk g c).After-show_desk-seat in
    let now = looked g at in
    let p = c.show_desk-seat.result.0 in
    let d = with_pair p (known_in c.desk.inside.seat) in record {
      desk = record { below = c.desk.invariant.desk.below; carry = c.desk.invariant.desk.carry };
      share = c.desk.invariant.share;
      seat = seated_shown p c.show_desk-seat.result.1 c.desk.invariant.seat now.there (desk_shown (pair_at g.N.Name.first g.N.Name.opened) (history_at c.self.inside.seat) d p now.lawful now.last now.known);
    }

pub returns-clause-book : goal.returns-clause-book
returns-clause-book g c = same_book g (goal.at.returns-clause-book g c).After-show_desk-seat ∙ c.self.view_is

pub returns-clause-desk : goal.returns-clause-desk
returns-clause-desk g c =
    let at = (goal.at.returns-clause-desk g c).After-show_desk-seat in
    let last : c.show_desk-seat.result.0 ≡ pair_in c.args.self.now = sym (looked g at).last ∙ c.self.invariant.seat.last ∙ ap pair_in c.self.view_is in
    desk_shown_it g at ∙ (λ i. with_pair_seen (last i) (c.desk.view_is i))
