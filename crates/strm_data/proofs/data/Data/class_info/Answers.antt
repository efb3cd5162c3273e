use Rattle.std.proofs.Common.{Some, [], get_or, length, sym, ap, ◌∙◌, arith}
use Rattle.std.proofs.lemmas.Bool.{ltb-true, ltb-false}
use Rattle.strm_data.specs.DataLayout.{store_of}
use Rattle.strm_data.proofs.layout.Seen.{info_there, info_past, free_there}
use Rattle.strm_data.proofs.data.Data.class_info.Goals as goal

pub returns-in_err-spec-clause-answer : goal.returns-in_err-spec-clause-answer
returns-in_err-spec-clause-answer c =
    let past = ltb-false _ _ (sym c.in_err-spec.ensures.lookup.0) in
    cc (c.from_residual.ensures, info_past c.self.inside c.args.self.now c.self.view_is c.self.invariant.kept c.args.class (omega (arith, past, c.from.ensures, ap length c.deref.ensures.value)))

pub returns-clause-answer : goal.returns-clause-answer
returns-clause-answer c =
    let k = c.in_ok-spec.field-0.now in
    let within = ltb-true _ _ (sym c.in_ok-spec.ensures.lookup.0) in
    ap (λ n. Some (record { size = k.spec.size; free = n; total = k.spec.count })) (c.len.ensures ∙ ap (λ n. length (get_or (store_of c.self.inside).store.free n [])) c.from-2.ensures)
    ∙ info_there c.self.inside c.args.self.now c.self.view_is c.self.invariant.kept c.args.class k (omega (arith, within, c.from.ensures, ap length c.deref.ensures.value)) (c.in_ok-spec.ensures.lookup.1 ∙ (λ j. get_or (c.deref.ensures.value j) (c.from.ensures j) k))

pub returns-clause-within : goal.returns-clause-within
returns-clause-within c =
    let k = c.in_ok-spec.field-0.now in
    let within = ltb-true _ _ (sym c.in_ok-spec.ensures.lookup.0) in
    let free = free_there c.self.inside c.args.self.now c.self.view_is c.self.invariant.kept c.args.class k (omega (arith, within, c.from.ensures, ap length c.deref.ensures.value)) (c.in_ok-spec.ensures.lookup.1 ∙ (λ j. get_or (c.deref.ensures.value j) (c.from.ensures j) k)) in
    omega (arith, free, c.len.ensures, ap (λ n. length (get_or (store_of c.self.inside).store.free n [])) c.from-2.ensures)
