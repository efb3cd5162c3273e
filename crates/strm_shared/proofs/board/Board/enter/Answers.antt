use Rattle.std.proofs.Common.{◌≡◌, [], ◌∷◌, arith, ap, sym, ◌∙◌}
use Rattle.strm_pool.specs.Registers.{entries_of}
use Rattle.strm_pool.specs.declared.line.Entry.{Entry}
use Rattle.strm_shared.specs.declared.views.History.{History}
use Rattle.strm_shared.specs.declared.views.Known.{Known}
use Rattle.strm_shared.specs.Pairs.{count_in, pair_at}
use Rattle.strm_shared.specs.Seats.{history_after, known_after}
use Rattle.strm_shared.specs.Chronicle.{entry_of}
use Rattle.strm_shared.specs.SeatsLayout.{IsLock}
use Rattle.strm_shared.specs.Words.{pair_of}
use Rattle.strm_shared.proofs.seats.Histories.{pair_of-word_of}
use Rattle.strm_shared.proofs.seats.Keeping.{stores_as}
use Rattle.strm_shared.proofs.seats.Seated.{stored}
use Rattle.strm_shared.proofs.board.Board.enter.Given as given
use Rattle.strm_shared.proofs.board.Board.enter.Goals as goal
use Rattle.strm_shared.proofs.board.Board.enter.Goals.{After-store}

pub store-requires : goal.store-requires
store-requires g c =
    let b = c.args.self.now in
    let l = c.requires.lock in
    (l.2.0 ∙ sym b.named, omega (arith, b.one_word), stores_as _ (pair_at g.N.Name.first g.N.Name.opened) _ _ _ b.opened g.E.Says.entry g.E.Says.table l.0 l.1 c.args.pair _ l.2.1 c.pack.ensures l.4 (ap (λ (e : Entry). e.desk) (sym c.requires.entry) ∙ l.5))

-- the lock's seat, with the desk still its guest
after : (g : given.Over) (c : After-store g) (h : History) (d : Known) → IsLock g.N.Name.board h (d ∷ []) c.args.lock.now
    → IsLock g.N.Name.board (history_after c.args.pair (entry_of c.args.told.desk c.args.told.line c.args.told.call.now c.args.told.reply.now) (entries_of c.args.regs.now) h)
    (known_after c.args.pair (entry_of c.args.told.desk c.args.told.line c.args.told.call.now c.args.told.reply.now) (entries_of c.args.regs.now) d ∷ []) c.store.new.seat
after g c h d lock =
    let o = pair_at g.N.Name.first g.N.Name.opened in
    let l = c.requires.lock in
    let few = l.3.few in
    let packed : pair_of (count_in o.1) c.pack.result ≡ c.args.pair = ap (pair_of (count_in o.1)) c.pack.ensures ∙ pair_of-word_of (count_in o.1) c.args.pair (omega (arith, few)) l.4.whole in
    (c.store.ensures.0 ∙ lock.0, stored c.args.lock.now.me h (d ∷ []) lock.1 c.store.new.seat.me c.args.pair _ _ g.E.Says.entry _ g.E.Says.table packed (sym c.requires.entry) (sym c.requires.table) c.store.ensures.2)

pub leave-requires : goal.leave-requires
leave-requires g c = let l = c.requires.lock in (_, _, [], after g (goal.at.leave-requires g c).After-store l.0 l.1 l.2)

pub returns : goal.returns
returns g c h d lock = c.leave.ensures _ _ [] (after g (goal.at.returns g c).After-store h d lock)
