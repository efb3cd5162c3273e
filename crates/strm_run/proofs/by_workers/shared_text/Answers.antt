use Rattle.std.proofs.Common.{List, length, sym, ap, ◌∙◌, subst, arith}
use Rattle.strm_shared.specs.Desks.{DeskValue}
use Rattle.strm_shared.specs.Runs.{AllWorked}
use Rattle.strm_shared.proofs.Opening.{length-fresh}
use Rattle.strm_run.proofs.by_workers.shared_text.Goals as goal

pub run_workers_without_replies-requires-after_bounds : goal.run_workers_without_replies-requires-after_bounds
run_workers_without_replies-requires-after_bounds g c κs within = (
  omega arith,
  (omega arith, sym c.requires.under.desks ∙ sym (length-fresh g.N.Name.desks _) ∙ sym (ap length c.open-shared.ensures)),
)

pub text_of_outcome-text-requires : goal.text_of_outcome-text-requires
text_of_outcome-text-requires g c =
    let worked = c.in-Ok.ensures.worked in (
      omega arith,
      (
        c.requires.under,
        (worked.0, subst (λ (ds : List DeskValue). AllWorked g.N.Name c.args.parts.now ds c.in-Ok.outcome.ends worked.0 c.in-Ok.outcome.desks) c.open-shared.ensures worked.1),
      ),
    )
