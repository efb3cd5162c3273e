-- One class less is left, and fewer data blocks have to fit.
use Rattle.std.proofs.Common.{ap, arith, drop, nat_le, sym, ◌+◌, ◌-◌, ◌∙◌}
use Rattle.std.specs.Prelude.{is_some}
use Rattle.strm_data.specs.DataStore.{class_infos}
use Rattle.strm_scheduler.specs.Needs.{fitting, fitting_in}
use Rattle.strm_scheduler.proofs.Holding.{place_within}
use Rattle.strm_scheduler.proofs.Needing.{fewer_wanted, infos_here, infos_past, none_wanted}
use Rattle.strm_scheduler.proofs.need.+fits.Goals as goal

pub returns-in-None : goal.returns-in-None
returns-in-None t c =
    none_wanted c.args.count
    ∙ sym (ap (λ is. nat_le c.args.count (fitting c.args.all c.args.size is)) (infos_past (class_infos c.args.pool.now.arena.store) c.args.class (sym c.class_info.ensures ∙ c.in-None.is)))

pub overflow_add-class : goal.overflow_add-class
overflow_add-class t c =
    let here = place_within (class_infos c.args.pool.now.arena.store) c.args.class (ap is_some (sym c.class_info.ensures ∙ c.in-Some.is)) in
    omega (arith, here, c.lawful.ensures.few_classes)

pub fits-requires : goal.fits-requires
fits-requires t c =
    let here = place_within (class_infos c.args.pool.now.arena.store) c.args.class (ap is_some (sym c.class_info.ensures ∙ c.in-Some.is)) in
    (omega (arith, here), tt)

pub returns-in-Some : goal.returns-in-Some
returns-in-Some t c =
    let infos = class_infos c.args.pool.now.arena.store in
    c.fits.ensures
    ∙ ap (λ k. nat_le k (fitting c.args.all c.args.size (drop (c.args.class + 1) infos))) (c.saturating_sub.ensures ∙ ap (λ k. c.args.count - k) c.fitting_in.ensures)
    ∙ fewer_wanted c.args.count (fitting_in c.args.all c.args.size c.in-Some.info) (fitting c.args.all c.args.size (drop (c.args.class + 1) infos))
    ∙ sym (ap (λ is. nat_le c.args.count (fitting c.args.all c.args.size is)) (infos_here infos c.args.class c.in-Some.info (sym c.class_info.ensures ∙ c.in-Some.is)))
