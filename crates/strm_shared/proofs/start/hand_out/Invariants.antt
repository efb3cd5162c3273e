use Rattle.std.proofs.Common.{◌≡◌, ◌+◌, [], ◌∷◌, length}
use Rattle.strm_shared.specs.Desks.{fresh_desks}
use Rattle.strm_shared.specs.Pairs.{pair_at}
use Rattle.strm_shared.specs.Seats.{opening_history}
use Rattle.strm_shared.specs.SeatsLayout.{IsLock}
use Rattle.strm_shared.proofs.start.hand_out.Given as goal

abbrev pub invariant-loop-number : goal.invariant-loop-number
invariant-loop-number g l = record {
  lock : IsLock g.N.Name.board (opening_history (pair_at g.N.Name.first g.N.Name.opened) l.number) [] l.lock;
  desks : l.desks ≡ fresh_desks l.number (pair_at g.N.Name.first g.N.Name.opened ∷ []);
  len : length l.desks ≡ l.number;
  parts : l.share.parts + l.number ≡ l.count;
  amount : l.share.amount ≡ 0;
}
