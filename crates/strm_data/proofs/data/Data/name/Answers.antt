use Rattle.std.proofs.Common.{refl, sym, ap, subst}
use Rattle.strm_links.specs.Rows.{Rows}
use Rattle.strm_data.specs.CountedStore.{IsKept}
use Rattle.strm_data.proofs.layout.Alterations.{named, IsSound-altered}
use Rattle.strm_data.proofs.store.Kept.{IsKept-with_name}
use Rattle.strm_data.proofs.data.Data.name.Goals as goal

pub returns-clause-after : goal.returns-clause-after
returns-clause-after c = named c.self.inside _ c.self.view_is c.args.number c.load-block.result.now c.load-block.ensures c.set_load.new.self c.set_load.ensures.rows c.set_load.ensures.loads

pub returns-clause-kept : goal.returns-clause-kept
returns-clause-kept c =
    subst IsKept (sym (returns-clause-after c))
    (IsKept-with_name c.args.self.now c.args.number (subst IsKept c.self.view_is c.self.invariant.kept) c.requires.used c.requires.there c.requires.few)

pub invariant_of-self : goal.invariant_of-self
invariant_of-self c =
    IsSound-altered c.self.inside _ c.self.view_is c.args.number c.load-block.result.now c.load-block.ensures _ refl c.set_load.new.self c.set_load.ensures.loads c.self.invariant
    (ap (λ (r : Rows). r.nodes) c.set_load.ensures.rows) (returns-clause-kept c)
    (rw c.set_load.ensures.rows (record { each = c.self.invariant.least.each; fewest = c.self.invariant.least.fewest }))
