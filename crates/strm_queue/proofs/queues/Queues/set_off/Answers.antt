use Rattle.std.proofs.Common.{refl}
use Rattle.strm_queue.specs.Flow.{Flags}
use Rattle.strm_queue.proofs.Laid.{lawful_changed, flags_changed}
use Rattle.strm_queue.proofs.queues.Queues.set_off.Goals as goal

pub invariant_of-self : goal.invariant_of-self
invariant_of-self c = lawful_changed c.self.inside c.from.result c.index_mut.result.now (record c.index_mut.result.now { noenable = c.args.off }) c.index_mut.ensures.value refl refl (λ as_many. as_many) c.self.invariant

pub returns : goal.returns
returns c =
    flags_changed c.self.inside c.from.result c.index_mut.result.now (record c.index_mut.result.now { noenable = c.args.off }) c.index_mut.ensures.value refl c.args.self.now c.self.view_is c.args.queue c.from.ensures
    c.requires (λ (m : Flags). record m { noenable = c.args.off }) refl refl refl
