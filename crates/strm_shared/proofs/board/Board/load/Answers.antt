use Rattle.std.proofs.Common.{◌≡◌, arith, ap, sym, subst, ◌∙◌}
use Rattle.strm_shared.specs.Pairs.{Pair, count_in, pair_at}
use Rattle.strm_shared.specs.Seats.{Shows, view_with_pair}
use Rattle.strm_shared.specs.Words.{pair_of}
use Rattle.strm_shared.proofs.seats.Keeping.{loads_as}
use Rattle.strm_shared.proofs.seats.Seated.{Mine, shown_whole}
use Rattle.strm_shared.proofs.board.Board.load.Goals as goal

pub load-word-requires : goal.load-word-requires
load-word-requires g c =
    let b = c.args.self.now in
    (c.requires ∙ sym b.named, omega (arith, b.one_word), loads_as _ (pair_at g.N.Name.first g.N.Name.opened) _ _ _ b.opened)

pub unpack-requires : goal.unpack-requires
unpack-requires g c =
    let o = pair_at g.N.Name.first g.N.Name.opened in
    record { within = omega (arith, shown_whole o (pair_of (count_in o.1) c.load-word.result) _ c.load-word.ensures.2.1, c.args.self.now.sized) }

pub returns : goal.returns
returns g c =
    let o = pair_at g.N.Name.first g.N.Name.opened in
    let s = c.load-word.ensures in
    let was : Mine = c.args.seat.now.me in
    let is : pair_of (count_in o.1) c.load-word.result ≡ c.unpack.result = ap (λ k. pair_of k c.load-word.result) (sym c.args.self.now.sized) ∙ sym c.unpack.ensures in
    record {
      seat = (s.0 ∙ c.requires, s.2.0 ∙ ap (λ (q : Pair). let m : Mine = (view_with_pair q was.0, was.1) in m) is);
      shown = subst (λ (q : Pair). Shows o q c.load-word.new.seat.me.0) is s.2.1;
    }
