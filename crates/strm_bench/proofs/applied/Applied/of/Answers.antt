use Rattle.strm_bench.proofs.Empty.{empty_distinct}
use Rattle.strm_bench.proofs.applied.Applied.of.Goals as goal

pub invariant_of-result-clause-distinct : goal.invariant_of-result-clause-distinct
invariant_of-result-clause-distinct c = empty_distinct c.new.result c.new.ensures
