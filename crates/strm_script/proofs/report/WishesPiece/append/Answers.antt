use Rattle.std.proofs.Common.{ap, codes, sym, ◌∙◌, ◌++◌}
use Rattle.std.specs.Option.{is_some}
use Rattle.std.proofs.lemmas.Result.{IfOk-equal}
use Rattle.strm_script.specs.Text.{wish_text}
use Rattle.strm_script.proofs.Reports.{lines-next, list-end}
use Rattle.strm_script.proofs.report.WishesPiece.append.Goals as goal

pub loop-id-preserved : goal.loop-id-preserved
loop-id-preserved c =
    lines-next wish_text (c.args.text.now.items ++ codes "wishes") c.loop-id.text.items c.append-in-Some.new.text.items _ c.args.self.0.now.wishes.pending c.loop-id.place (c.in-Some.id, c.in-Some.size)
    (sym c.wish_at-in-loop-id.ensures ∙ c.in-Some.is) c.in_ok-append-2.ensures.ok c.loop-id.invariant

pub returns-clause-ok : goal.returns-clause-ok
returns-clause-ok c =
    IfOk-equal c.append-3.result _ _ _ c.append-3.ensures.ok (list-end (codes "wishes") wish_text c.args.text.now.items c.loop-id.text.items c.args.self.0.now.wishes.pending c.loop-id.place
    (ap is_some (sym c.wish_at.ensures) ∙ c.if-is_none.ensures) (sym c.wish_at-in-loop-id.ensures ∙ c.in_default.is) c.loop-id.invariant)
