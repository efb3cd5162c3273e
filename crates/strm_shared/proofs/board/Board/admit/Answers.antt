use Rattle.std.proofs.Common.{[], ◌∷◌, arith, sym, ◌∙◌}
use Rattle.std.proofs.lemmas.List.Elements.{All-head}
use Rattle.strm_shared.specs.Pairs.{count_in, pair_at}
use Rattle.strm_shared.specs.Seats.{IsOf}
use Rattle.strm_shared.specs.Words.{pair_of}
use Rattle.strm_shared.proofs.seats.Keeping.{reads_as}
use Rattle.strm_shared.proofs.seats.Seated.{lock_shown}
use Rattle.strm_shared.proofs.board.Board.admit.Goals as goal

pub join-requires-clause-lock : goal.join-requires-clause-lock
join-requires-clause-lock g c = let l = c.requires.lock in (l.0, [], l.1)

pub load-requires : goal.load-requires
load-requires g c =
    let b = c.args.self.now in
    let l = c.requires.lock in
    let d = c.requires.desk in
    let there = c.join.ensures.joined l.0 [] d.0 l.1 d.1 in
    (there.0 ∙ sym b.named, omega (arith, b.one_word), reads_as _ (pair_at g.N.Name.first g.N.Name.opened) _ _ _ b.opened l.0 (d.0 ∷ []) there.1)

pub returns : goal.returns
returns g c h d lock desk =
    let o = pair_at g.N.Name.first g.N.Name.opened in
    let there = c.join.ensures.joined h [] d lock desk in
    let s = c.load.ensures in
    let shown = lock_shown c.join.new.lock.me h (d ∷ []) there.1 o (pair_of (count_in o.1) c.load.result) s.2.2 in
    ((s.0 ∙ there.0, s.2.1 ∙ there.1), All-head (IsOf o.0 h) d [] shown.2)
