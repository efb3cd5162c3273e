use Rattle.std.proofs.Common.{◌≡◌, ℕ, false, List, ap, sym, ◌∙◌, ◌++◌, subst}
use Rattle.std.specs.List.{flat_map, list_any}
use Rattle.std.proofs.lemmas.Result.{IfOk-weaker}
use Rattle.strm_pool.specs.PoolValue.{opening_pool}
use Rattle.strm_pool.specs.declared.line.Entry.{Entry}
use Rattle.strm_script.specs.declared.script.Script.{Script}
use Rattle.strm_script.specs.Text.{entry_text, report_text}
use Rattle.strm_run.specs.declared.runs.Mode.TheVariants.{Workers}
use Rattle.strm_run.specs.Outcome.{IsTextAsServed, IsTextOf}
use Rattle.strm_run.specs.Told.{is_not_started}
use Rattle.strm_run.proofs.Holding.{idle_after}
use Rattle.strm_run.proofs.Working.{as_served, gathered_as_came, text_of_workers}
use Rattle.strm_run.proofs.by_workers.text_of_outcome.Goals as goal

pub returns-clause-spent : goal.returns-clause-spent
returns-clause-spent g c =
    c.drain-desks.ensures.spent
    ∙ gathered_as_came g.N.Name c.args.parts.now _ c.args.outcome.ends c.requires.worked.0 c.args.outcome.desks c.in-Ok.field-0.pool c.in-Ok.field-0.trace c.in-Ok.field-0.desks c.requires.under c.requires.worked.1 c.in-Ok.ensures.shown c.in-Ok.ensures.numbered

pub returns-clause-ordered : goal.returns-clause-ordered
returns-clause-ordered g c =
    IfOk-weaker c.text_of_trace-text.result
    (λ text. (list_any is_not_started c.items.result.now ≡ false) × (text.items ≡ flat_map entry_text c.items-in-Ok.result.now ++ report_text c.in-Ok.field-0.pool))
    (λ text. (script : Script) → script.parts ≡ c.args.parts.now → g.N.Name.opened ≡ opening_pool script.config → IsTextAsServed script g.N.Name.first c.drain-desks.result text.items)
    (λ text told script same opens.
    subst (λ (ds : List (List (ℕ × Entry))). IsTextAsServed script g.N.Name.first ds text.items) (sym (returns-clause-spent g c))
    (as_served g.N.Name c.args.parts.now _ c.args.outcome.ends c.requires.worked.0 c.args.outcome.desks c.in-Ok.field-0.pool c.in-Ok.field-0.trace c.in-Ok.field-0.desks c.requires.under c.requires.worked.1 c.in-Ok.ensures.shown
    (ap (list_any is_not_started) (sym c.items.ensures) ∙ told.0) script text.items same opens
    (told.1 ∙ ap (λ (es : List Entry). flat_map entry_text es ++ report_text c.in-Ok.field-0.pool) c.items-in-Ok.ensures)))
    c.text_of_trace-text.ensures

pub returns-clause-text : goal.returns-clause-text
returns-clause-text g c =
    IfOk-weaker c.text_of_trace-text.result
    (λ text. (script : Script) → script.parts ≡ c.args.parts.now → g.N.Name.opened ≡ opening_pool script.config → IsTextAsServed script g.N.Name.first c.drain-desks.result text.items)
    (λ text. (script : Script) → script.parts ≡ c.args.parts.now → g.N.Name.opened ≡ opening_pool script.config → IsTextOf Workers script text.items)
    (λ text served script same opens. text_of_workers script g.N.Name.first c.drain-desks.result text.items (served script same opens))
    (returns-clause-ordered g c)

pub returns-clause-freed : goal.returns-clause-freed
returns-clause-freed g c = idle_after c.in-Ok.field-0.pool c.drain-desks.new.pool c.in-Ok.field-0.desks c.in-Ok.ensures.accounted c.drain-desks.ensures.alike
