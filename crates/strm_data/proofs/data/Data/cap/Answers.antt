use Rattle.std.proofs.Common.{arith, subst}
use Rattle.strm_data.specs.CountedStore.{IsKept}
use Rattle.strm_data.proofs.layout.Seen.{capacity_is}
use Rattle.strm_data.proofs.store.Kept.{capacity_range}
use Rattle.strm_data.proofs.data.Data.cap.Goals as goal

pub returns-clause-answer : goal.returns-clause-answer
returns-clause-answer c = capacity_is c.self.inside _ c.self.view_is c.args.number c.load.result.now c.load.ensures c.self.invariant c.requires

pub returns-clause-range : goal.returns-clause-range
returns-clause-range c =
    let range = capacity_range c.args.self.now c.args.number (subst IsKept c.self.view_is c.self.invariant.kept) c.requires in
    (omega (arith, range.0, returns-clause-answer c), omega (arith, range.1, returns-clause-answer c))
