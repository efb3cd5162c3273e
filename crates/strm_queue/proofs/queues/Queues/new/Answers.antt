use Rattle.std.proofs.Common.{◌≡◌, ◌++◌, [], ◌∷◌, arith, get_or, map, take, ap, sym, ◌∙◌, length}
use Rattle.std.proofs.lemmas.List.{map_push, take_all, take_more}
use Rattle.strm_links.specs.Rows as rows
use Rattle.strm_queue.specs.Flow.{no_spec}
use Rattle.strm_queue.specs.QueuesLayout.{new_queue}
use Rattle.strm_queue.proofs.Laid.{lawful_made, value_made}
use Rattle.strm_queue.proofs.queues.Queues.new.Goals as goal
use Rattle.strm_queue.proofs.queues.Queues.new.Goals.{In_ok-run}

-- all queues are made
made : (c : In_ok-run) → c.loop-spec.queues.items ≡ map new_queue c.args.specs.now
made c = c.loop-spec.invariant ∙ ap (map new_queue) (take_all c.loop-spec.spec-index c.args.specs.now (omega (arith, c.loop-spec-test.false)))

pub invariant_of-result : goal.invariant_of-result
invariant_of-result c =
    let here = (goal.at.invariant_of-result c).In_ok-run in
    lawful_made (record { queues = c.loop-spec.queues; run = c.in_ok-run.run' }) c.args.specs.now (made here) (ap (rows.list_at 0) c.in_ok-run.ensures.rows) c.requires
    (ap (λ (r : rows.Rows). r.nodes) c.in_ok-run.ensures.rows) (ap (λ (r : rows.Rows). length r.lists) c.in_ok-run.ensures.rows)

pub returns : goal.returns
returns c =
    let here = (goal.at.returns c).In_ok-run in
    value_made (record { queues = c.loop-spec.queues; run = c.in_ok-run.run' }) c.args.specs.now (made here) (ap (rows.list_at 0) c.in_ok-run.ensures.rows)

pub loop-spec-preserved : goal.loop-spec-preserved
loop-spec-preserved c =
    let specs = c.args.specs.now in
    let i = c.loop-spec.spec-index in
    c.in_ok-push.ensures.items ∙ (λ j. c.loop-spec.invariant j ++ c.new.ensures j ∷ []) ∙ sym (map_push new_queue (take i specs) (get_or specs i no_spec))
    ∙ ap (map new_queue) (sym (take_more specs i no_spec c.loop-spec-test.true))
