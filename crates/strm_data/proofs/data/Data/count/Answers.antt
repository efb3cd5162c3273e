use Rattle.std.proofs.Common.{arith, subst}
use Rattle.strm_data.specs.CountedStore.{IsKept}
use Rattle.strm_data.proofs.layout.Seen.{count_is}
use Rattle.strm_data.proofs.data.Data.count.Goals as goal

pub overflow_cast-result : goal.overflow_cast-result
overflow_cast-result c =
    omega (arith, count_is c.self.inside _ c.self.view_is c.args.number c.load.result.now c.load.ensures, (subst IsKept c.self.view_is c.self.invariant.kept).few_references c.args.number)

pub returns : goal.returns
returns c = count_is c.self.inside _ c.self.view_is c.args.number c.load.result.now c.load.ensures
