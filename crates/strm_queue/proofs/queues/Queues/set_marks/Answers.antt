use Rattle.std.proofs.Common.{arith, refl}
use Rattle.std.proofs.lemmas.Grind.{common_steps}
use Rattle.strm_queue.proofs.Laid.{lawful_marked, there, value_marked}
use Rattle.strm_queue.proofs.queues.Queues.set_marks.Goals as goal

pub invariant_of-self : goal.invariant_of-self
invariant_of-self c =
    let y = record c.index_mut.result.now { marks = c.set.new.self } in
    lawful_marked c.self.inside c.from.result c.index_mut.result.now y c.index_mut.ensures.value refl c.args.band c.args.marks c.set.ensures
    (there c.self.inside c.from.result c.index_mut.result.now y c.index_mut.ensures.value refl c.args.self.now c.self.view_is c.args.queue c.from.ensures c.requires.queue)
    c.requires.apart refl c.self.invariant

pub returns : goal.returns
returns c = grind (arith, common_steps, value_marked, there)
