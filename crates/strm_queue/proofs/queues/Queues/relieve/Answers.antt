use Rattle.std.proofs.Common.{Bool, List, length, refl, ap, ◌∙◌}
use Rattle.std.proofs.lemmas.List.{length-map}
use Rattle.std.specs.Prelude.{slice_index_or}
use Rattle.strm_queue.specs.Flow.{Flags, every_band, lowat_of, no_marks, some_relieved, still_wanted}
use Rattle.strm_queue.specs.QueuedBlocks.{tally_at}
use Rattle.strm_queue.specs.Tallies.{Tally, count_of}
use Rattle.strm_queue.proofs.bands.Bands.{length_every_band}
use Rattle.strm_queue.proofs.Laid.{lawful_changed, flags_changed, flags_seen, marks_seen, tally_seen}
use Rattle.strm_queue.proofs.queues.Queues.relieve.Goals as goal

pub invariant_of-self : goal.invariant_of-self
invariant_of-self c = lawful_changed c.self.inside c.from.result c.index_mut.result.now (record c.index_mut.result.now { wanted = c.relieve.new.self }) c.index_mut.ensures.value refl refl (λ as_many. ap length c.relieve.ensures.left ∙ length-map every_band _ ∙ length_every_band) c.self.invariant

pub returns-clause-flags : goal.returns-clause-flags
returns-clause-flags c =
    let y = record c.index_mut.result.now { wanted = c.relieve.new.self } in
    let marks = c.each.ensures ∙ marks_seen c.self.inside c.from.result c.index_mut.result.now y c.index_mut.ensures.value refl c.args.self.now c.self.view_is c.args.queue c.from.ensures c.requires in
    let tally = tally_seen c.self.inside c.from.result c.index_mut.result.now y c.index_mut.ensures.value refl c.args.self.now c.self.view_is c.args.queue c.from.ensures c.requires in
    let counts = c.counts.ensures ∙ ap (λ (t : Tally). t.counts) tally in
    flags_changed c.self.inside c.from.result c.index_mut.result.now y c.index_mut.ensures.value refl c.args.self.now c.self.view_is c.args.queue c.from.ensures c.requires
    (λ (m : Flags). record m { wanted = still_wanted m.wanted (count_of (tally_at c.args.self.now c.args.queue)) (lowat_of c.args.self.now.state c.args.queue) })
    (ap (λ (ws : List Bool). let m : Flags = record { read = c.index_mut.result.now.read; noenable = c.index_mut.result.now.noenable; wanted = ws } in m)
    (c.relieve.ensures.left
    ∙ (λ i. still_wanted c.index_mut.result.now.wanted (λ band. slice_index_or (counts i) band 0) (λ band. (slice_index_or (marks i) band no_marks).lowat))))
    refl refl

pub returns-clause-some : goal.returns-clause-some
returns-clause-some c =
    let y = record c.index_mut.result.now { wanted = c.relieve.new.self } in
    let flags = flags_seen c.self.inside c.from.result c.index_mut.result.now y c.index_mut.ensures.value refl c.args.self.now c.self.view_is c.args.queue c.from.ensures c.requires in
    let marks = c.each.ensures ∙ marks_seen c.self.inside c.from.result c.index_mut.result.now y c.index_mut.ensures.value refl c.args.self.now c.self.view_is c.args.queue c.from.ensures c.requires in
    let tally = tally_seen c.self.inside c.from.result c.index_mut.result.now y c.index_mut.ensures.value refl c.args.self.now c.self.view_is c.args.queue c.from.ensures c.requires in
    let counts = c.counts.ensures ∙ ap (λ (t : Tally). t.counts) tally in
    c.relieve.ensures.some ∙ (λ i. some_relieved (flags i).wanted (λ band. slice_index_or (counts i) band 0) (λ band. (slice_index_or (marks i) band no_marks).lowat))
