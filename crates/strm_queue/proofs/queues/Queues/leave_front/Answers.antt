use Rattle.std.proofs.Common.{arith, refl}
use Rattle.std.proofs.lemmas.Grind.{common_steps}
use Rattle.strm_queue.proofs.Laid.{lawful_changed, tally_changed, tally_seen}
use Rattle.strm_queue.proofs.queues.Queues.leave_front.Goals as goal

pub invariant_of-self : goal.invariant_of-self
invariant_of-self c = lawful_changed c.self.inside c.from.result c.index_mut.result.now (record c.index_mut.result.now { tally = c.leave_front.new.self }) c.index_mut.ensures.value refl refl (λ as_many. as_many) c.self.invariant

pub returns : goal.returns
returns c = grind (arith, common_steps, tally_seen, tally_changed)
