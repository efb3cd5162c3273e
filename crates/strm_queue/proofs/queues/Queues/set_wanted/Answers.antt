use Rattle.std.proofs.Common.{true, length, refl, ap, set, ◌∙◌}
use Rattle.std.proofs.lemmas.List.{length-set}
use Rattle.std.specs.Prelude.{Bool, List}
use Rattle.strm_queue.specs.Flow.{Flags}
use Rattle.strm_queue.proofs.Laid.{lawful_changed, flags_changed}
use Rattle.strm_queue.proofs.queues.Queues.set_wanted.Goals as goal

pub invariant_of-self : goal.invariant_of-self
invariant_of-self c = lawful_changed c.self.inside c.from.result c.index_mut.result.now (record c.index_mut.result.now { wanted = c.insert.new.self }) c.index_mut.ensures.value refl refl (λ as_many. ap length c.insert.ensures ∙ length-set c.index_mut.result.now.wanted c.args.band true ∙ as_many) c.self.invariant

pub returns : goal.returns
returns c =
    flags_changed c.self.inside c.from.result c.index_mut.result.now (record c.index_mut.result.now { wanted = c.insert.new.self }) c.index_mut.ensures.value refl c.args.self.now c.self.view_is c.args.queue c.from.ensures
    c.requires (λ (m : Flags). record m { wanted = set m.wanted c.args.band true })
    (ap (λ (ws : List Bool). let m : Flags = record { read = c.index_mut.result.now.read; noenable = c.index_mut.result.now.noenable; wanted = ws } in m) c.insert.ensures) refl refl
