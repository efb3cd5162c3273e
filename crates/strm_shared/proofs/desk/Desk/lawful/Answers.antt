use Rattle.std.proofs.Common.{ℕ, [], subst, length}
use Rattle.std.specs.Prelude.{All}
use Rattle.std.proofs.lemmas.List.Elements.{All-head}
use Rattle.strm_pool.specs.declared.line.Entry.{Entry}
use Rattle.strm_shared.specs.Desks.{DeskValue}
use Rattle.strm_shared.specs.Pairs.{AreSeen, HasStamp}
use Rattle.strm_shared.specs.Seats.{IsOf}
use Rattle.strm_shared.specs.SeatsLayout.{known_in}
use Rattle.strm_shared.proofs.seats.Desks.{seen_lawful}
use Rattle.strm_shared.proofs.desk.Desk.lawful.Goals as goal

pub returns-clause-seen : goal.returns-clause-seen
returns-clause-seen g c =
    subst (λ (d : DeskValue). AreSeen (length g.N.Name.opened.arena.held) d.pairs) c.self.view_is (seen_lawful _ _ _ _ _ _ _ _ _ c.self.invariant.seat)

pub returns-clause-carried : goal.returns-clause-carried
returns-clause-carried g c =
    let shows = c.self.invariant.seat.shows in
    subst (λ (d : DeskValue). All (λ (s : ℕ × Entry). HasStamp d.pairs s.0) d.served) c.self.view_is (All-head (IsOf g.N.Name.first shows.history) (known_in c.self.inside.seat) [] shows.view.desks).carried
