use Rattle.std.proofs.Common.{rules, ◌≡◌, ◌+◌, false, List, None, refl, sym, ap, ◌∙◌, subst, arith, length}
use Rattle.strm_mblk.specs.declared.census.Census.{Census}
use Rattle.strm_pool.specs.Registers.{entries_of}
use Rattle.strm_shared.specs.Books.{BookValue, IsServed, end_of}
use Rattle.strm_shared.specs.Desks.{DeskValue, desk_value}
use Rattle.strm_shared.specs.Pairs.{pair_at}
use Rattle.strm_shared.specs.Chronicle.{entry_of}
use Rattle.strm_shared.specs.Seats.{IsOf}
use Rattle.strm_shared.specs.SeatsLayout.{IsAt, book_with, history_at, known_at, known_in}
use Rattle.strm_shared.specs.Traces.{IsTraceOf, is_full}
use Rattle.strm_pool.specs.declared.line.Entry.{Entry}
use Rattle.strm_shared.proofs.Turning.{IsKnown, Turns, held_moved, owned, turns}
use Rattle.strm_shared.proofs.Telling.{told_next, trace_next}
use Rattle.strm_shared.proofs.seats.Desks.{seat_is}
use Rattle.strm_shared.proofs.seats.Served.{Entered, entered, few_calls, later, next, table_known}
use Rattle.strm_shared.proofs.book.Book.turn_into.Given as given
use Rattle.strm_shared.proofs.book.Book.turn_into.Goals as goal
use Rattle.strm_shared.proofs.book.Book.turn_into.Goals.{After-census-before, After-enter-seat}

-- ---- book and desk as they were

-- where the desk's seat is, which joins the lock's
there : (g : given.Over) (c : After-census-before g) → IsAt g.N.Name.board (known_in c.desk.inside.seat) c.in-Some-take.seat
there g c = seat_is (sym c.take.ensures.value ∙ c.in-Some-take.is) c.desk.invariant.seat

-- what the desk knows is of the lock's history, which its seat has joined
joined : (g : given.Over) (c : After-census-before g) → IsOf g.N.Name.first (history_at c.self.inside.seat) (known_in c.desk.inside.seat)
joined g c = (c.admit.ensures (history_at c.self.inside.seat) (known_in c.desk.inside.seat) c.self.invariant.seat.here (there g c)).1

-- so the book knows the desk
is_known : (g : given.Over) (c : After-census-before g)
    → IsKnown g.N.Name.opened.arena.id g.N.Name.desks g.N.Name.first (book_with (history_at c.self.inside.seat) c.self.inside.pool c.self.inside.stamp c.self.inside.trace)
    (desk_value c.desk.inside.number c.desk.inside.regs (known_in c.desk.inside.seat).pairs (known_in c.desk.inside.seat).served)
is_known g c = record { book = c.self.invariant.book; desk = c.desk.invariant.desk; table = table_known c.self.invariant.seat c.desk.invariant.seat (joined g c) }

-- calls are still served
unended : (g : given.Over) (c : After-census-before g) → end_of (book_with (history_at c.self.inside.seat) c.self.inside.pool c.self.inside.stamp c.self.inside.trace) ≡ None
unended g c = search rules

not_full : (g : given.Over) (c : After-census-before g) → is_full c.self.inside.trace ≡ false
not_full g c = search rules

pub apply_into-requires : goal.apply_into-requires
apply_into-requires g c = owned (is_known g (goal.at.apply_into-requires g c).After-census-before)

pub count_held-requires-clause-enough : goal.count_held-requires-clause-enough
count_held-requires-clause-enough g c =
    let moved = held_moved (is_known g (goal.at.count_held-requires-clause-enough g c).After-census-before) c.apply_into.ensures in
    let before = ap (λ (census : Census). census.held) c.census-before.ensures in
    let after = ap (λ (census : Census). census.held) c.census-census.ensures in
    omega (arith, moved, before, after, c.desk.invariant.share.counted)

-- ---- what the call left

pub enter-seat-requires-clause-lock : goal.enter-seat-requires-clause-lock
enter-seat-requires-clause-lock g c =
    let h = history_at c.self.inside.seat in
    let d = known_in c.desk.inside.seat in
    let kept = c.self.invariant.seat in
    let joined = c.admit.ensures h d kept.here (there g (goal.at.enter-seat-requires-clause-lock g c).After-census-before) in
    let whole = c.lawful.ensures.whole ∙ c.apply_into.ensures.size ∙ c.self.invariant.ledger.sized in
    (h, d, joined.0, kept.lawful, next kept c.desk.invariant.seat joined.1 c.apply_into.new.self whole c.census-census.result c.census-census.ensures, sym c.desk.invariant.seat.number)

pub overflow_add-desk : goal.overflow_add-desk
overflow_add-desk g c =
    let h = history_at c.self.inside.seat in
    let d = known_in c.desk.inside.seat in
    let joined = c.admit.ensures h d c.self.invariant.seat.here (there g (goal.at.overflow_add-desk g c).After-census-before) in
    omega (arith, few_calls c.self.invariant.seat c.desk.invariant.seat joined.1, c.self.invariant.book.unspent)

-- book, desk and their seats, once the call is entered
left : (g : given.Over) (c : After-enter-seat g)
    → IsKnown g.N.Name.opened.arena.id g.N.Name.desks g.N.Name.first (book_with (history_at c.self.inside.seat) c.self.inside.pool c.self.inside.stamp c.self.inside.trace)
    (desk_value c.desk.inside.number c.desk.inside.regs (known_in c.desk.inside.seat).pairs (known_in c.desk.inside.seat).served)
    → IsAt g.N.Name.board (known_in c.desk.inside.seat) c.in-Some-take.seat
    → end_of (book_with (history_at c.self.inside.seat) c.self.inside.pool c.self.inside.stamp c.self.inside.trace) ≡ None
    → Turns g.N.Name.opened.arena.id g.N.Name.desks g.N.Name.first (book_with (history_at c.self.inside.seat) c.self.inside.pool c.self.inside.stamp c.self.inside.trace)
    (desk_value c.desk.inside.number c.desk.inside.regs (known_in c.desk.inside.seat).pairs (known_in c.desk.inside.seat).served) c.args.line c.args.call.now
    (book_with (history_at c.enter-seat.new.lock) c.apply_into.new.self (c.self.inside.stamp + 1) c.keep.new.self)
    (desk_value c.desk.inside.number c.apply_into.new.regs (known_at c.enter-seat.result).pairs (known_at c.enter-seat.result).served) c.apply_into.new.reply
    × Entered g.N.Name.board (pair_at g.N.Name.first g.N.Name.opened) (length g.N.Name.opened.arena.held) g.N.Name.desks (c.self.inside.stamp + 1) c.desk.inside.number (c.desk.inside.calls + 1) c.apply_into.new.self
    (entries_of c.apply_into.new.regs) (entry_of c.desk.inside.number c.args.line c.args.call.now c.apply_into.new.reply) (history_at c.self.inside.seat) (known_in c.desk.inside.seat) c.enter-seat.new.lock c.enter-seat.result
left g c known at going =
    let h = history_at c.self.inside.seat in
    let d = known_in c.desk.inside.seat in
    let kept = c.self.invariant.seat in
    let joined = c.admit.ensures h d kept.here at in
    let whole = c.lawful.ensures.whole ∙ c.apply_into.ensures.size ∙ c.self.invariant.ledger.sized in
    let now =
    entered kept c.desk.invariant.seat joined.1 c.apply_into.new.self whole c.census-census.result c.census-census.ensures (entry_of c.desk.inside.number c.args.line c.args.call.now c.apply_into.new.reply)
    (entries_of c.apply_into.new.regs) c.enter-seat.new.lock c.enter-seat.result refl (c.enter-seat.ensures h d joined.0) in (
      turns known c.apply_into.ensures c.args.line (history_at c.enter-seat.new.lock).tables (history_at c.enter-seat.new.lock).pairs (known_at c.enter-seat.result).pairs (history_at c.enter-seat.new.lock).entries (known_at c.enter-seat.result).served c.keep.new.self now.tables
          going now.listed now.saw joined.1.pairs (later kept c.desk.invariant.seat joined.1 c.apply_into.new.self whole) now.entered now.served c.keep.ensures.entries,
      now,
    )

pub invariant_of-self : goal.invariant_of-self
invariant_of-self g c =
    let at = goal.at.invariant_of-self g c in
    let now = left g at.After-enter-seat (is_known g at.After-census-before) (there g at.After-census-before) (unended g at.After-census-before) in
    let before = ap (λ (census : Census). census.held) c.census-before.ensures in
    let after = ap (λ (census : Census). census.held) c.census-census.ensures in record {
      book = now.0.book;
      ledger = record { some = c.self.invariant.ledger.some; counted = omega (arith, c.count_held.ensures.total, c.self.invariant.ledger.counted, before, after); sized = now.0.sized ∙ c.self.invariant.ledger.sized };
      seat = now.1.kept;
      told = told_next c.self.invariant.told now.0.served c.desk.invariant.desk.below;
      trace = subst (λ (es : List Entry). IsTraceOf g.N.Name.kept es c.keep.new.self) (sym now.1.entered)
          (trace_next (history_at c.self.inside.seat).entries (entry_of c.desk.inside.number c.args.line c.args.call.now c.apply_into.new.reply) c.self.inside.trace c.keep.new.self g.N.Name.kept
          c.self.invariant.trace (not_full g at.After-census-before) c.keep.ensures.most c.keep.ensures.entries);
    }

pub invariant_of-desk : goal.invariant_of-desk
invariant_of-desk g c =
    let at = goal.at.invariant_of-desk g c in
    let now = left g at.After-enter-seat (is_known g at.After-census-before) (there g at.After-census-before) (unended g at.After-census-before) in
    let before = ap (λ (census : Census). census.held) c.census-before.ensures in
    let after = ap (λ (census : Census). census.held) c.census-census.ensures in record {
      desk = now.0.desk;
      share = record { one = c.count_held.ensures.parts ∙ c.desk.invariant.share.one; counted = omega (arith, c.count_held.ensures.amount, c.desk.invariant.share.counted, now.0.moved, before, after) };
      seat = now.1.seated;
    }

pub returns-clause-answer : goal.returns-clause-answer
returns-clause-answer g c =
    let at = goal.at.returns-clause-answer g c in
    let now = left g at.After-enter-seat (is_known g at.After-census-before) (there g at.After-census-before) (unended g at.After-census-before) in
    let d = desk_value c.desk.inside.number c.desk.inside.regs (known_in c.desk.inside.seat).pairs (known_in c.desk.inside.seat).served in
    let b = book_with (history_at c.enter-seat.new.lock) c.apply_into.new.self (c.self.inside.stamp + 1) c.keep.new.self in
    let e = desk_value c.desk.inside.number c.apply_into.new.regs (known_at c.enter-seat.result).pairs (known_at c.enter-seat.result).served in
    subst (λ (x : DeskValue). IsServed c.args.self.now x c.args.line c.args.call.now b e c.apply_into.new.reply) c.desk.view_is
    (subst (λ (x : BookValue). IsServed x d c.args.line c.args.call.now b e c.apply_into.new.reply) c.self.view_is now.0.served)
