use Rattle.std.proofs.Common.{ap, codes, sym, ◌∙◌, ◌++◌}
use Rattle.std.specs.Option.{is_some}
use Rattle.std.proofs.lemmas.Result.{IfOk-equal}
use Rattle.strm_script.specs.Text.{waiting_text}
use Rattle.strm_script.proofs.Reports.{lines-next, list-end}
use Rattle.strm_script.proofs.report.RunPiece.append.Goals as goal

pub loop-queue-preserved : goal.loop-queue-preserved
loop-queue-preserved c =
    lines-next waiting_text (c.args.text.now.items ++ codes "run") c.loop-queue.text.items c.append-in-Some.new.text.items _ c.args.self.0.now.queues.run c.loop-queue.place c.in-Some.queue
    (sym c.run_at-in-loop-queue.ensures ∙ c.in-Some.is) c.in_ok-append-2.ensures.ok c.loop-queue.invariant

pub returns-clause-ok : goal.returns-clause-ok
returns-clause-ok c =
    IfOk-equal c.append-3.result _ _ _ c.append-3.ensures.ok (list-end (codes "run") waiting_text c.args.text.now.items c.loop-queue.text.items c.args.self.0.now.queues.run c.loop-queue.place
    (ap is_some (sym c.run_at.ensures) ∙ c.if-is_none.ensures) (sym c.run_at-in-loop-queue.ensures ∙ c.in_default.is) c.loop-queue.invariant)
