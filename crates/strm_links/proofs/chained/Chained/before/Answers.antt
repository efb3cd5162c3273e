use Rattle.std.proofs.Common.{ap, arith, sym, ◌∙◌}
use Rattle.strm_links.specs.declared.table.Place.{Place}
use Rattle.strm_links.proofs.linking.Carried.{place_read}
use Rattle.strm_links.proofs.linking.StoredRows.{previous_in-at}
use Rattle.strm_links.proofs.chains.Whole.{before_is, room}
use Rattle.strm_links.proofs.chained.Chained.before.Goals as goal

pub index-requires : goal.index-requires
index-requires g c = omega (arith, c.requires, room c.self.invariant c.self.view_is)

pub returns : goal.returns
returns g c s there = c.get.ensures ∙ ap (λ (p : Place). p.previous) (place_read _ c.args.head c.index.result.now (omega (arith, c.requires, room c.self.invariant c.self.view_is)) c.index.ensures) ∙ sym (previous_in-at c.self.invariant.sound c.args.head) ∙ before_is c.self.invariant c.self.view_is c.args.head s there
