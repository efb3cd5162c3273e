use Rattle.std.proofs.Common.{sym, ◌∙◌}
use Rattle.strm_data.specs.DataStore.{class_infos}
use Rattle.strm_script.specs.Text.{class_text}
use Rattle.strm_script.proofs.Reports.{lines-next, lines-end}
use Rattle.strm_script.proofs.report.ClassesPiece.append.Goals as goal

pub loop-info-preserved : goal.loop-info-preserved
loop-info-preserved c =
    lines-next class_text c.args.text.now.items c.loop-info.text.items c.append.new.text.items _ (class_infos c.args.self.0.now.arena.store) c.loop-info.class c.in-Some.info
    (sym c.class_info.ensures ∙ c.in-Some.is) c.in_ok-append.ensures.ok c.loop-info.invariant

pub returns-clause-ok : goal.returns-clause-ok
returns-clause-ok c =
    lines-end class_text c.args.text.now.items c.loop-info.text.items _ (class_infos c.args.self.0.now.arena.store) c.loop-info.class (sym c.class_info.ensures ∙ c.in_default.is) c.loop-info.invariant
