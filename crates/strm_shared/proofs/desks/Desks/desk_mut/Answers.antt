use Rattle.std.proofs.Common.{arith, refl, ◌<◌, ◌∙◌, ap, sym, length, get_or}
use Rattle.std.specs.Prelude.{slice_set}
use Rattle.std.proofs.lemmas.List.{map-set, get_or-map, length-map}
use Rattle.strm_shared.specs.DesksLayout.{desk_in, desk_or, slot_with}
use Rattle.strm_shared.proofs.desks.Desks.desk_mut.Goals as goal

pub returns : goal.returns
returns g c =
    let items = c.self.inside.slots.items in
    let i = c.args.place in
    let r = c.desk_mut.result.now in
    let within : i < length items = omega (arith, c.requires, ap length c.self.view_is, length-map items desk_in) in (
      (refl, (λ w. map-set desk_in items i (slot_with w) ∙ ap (λ ds. slice_set ds i w) c.self.view_is)),
      record {
        writes_back = tt;
        value = sym (ap (λ ds. get_or ds i r) (sym c.self.view_is) ∙ get_or-map desk_in items i c.in-Some.slot.now r within ∙ ap desk_in (sym c.in-Some.ensures.value) ∙ ap desk_or c.desk_mut.ensures.value);
      },
    )
