use Rattle.std.proofs.Common.{◌≡◌, ◌<◌, ◌≤◌, length, get_or, ap, sym, ◌∙◌, subst, arith}
use Rattle.std.proofs.lemmas.List.{get_or_default, length-map, get_or-map}
use Rattle.strm_data.specs.declared.data.Class.{Class}
use Rattle.strm_data.specs.CountedStore.{CountedStore}
use Rattle.strm_data.specs.DataLayout.{store_of, no_class}
use Rattle.strm_data.specs.DataStore.{IsClassFor, IsTakenFrom, class_spec_at, free_of, no_class_spec}
use Rattle.strm_data.proofs.store.Lawful.{if_fits-small, if_fits-empty, fitting_from_next, none_before, IsTakenFrom-found}
use Rattle.strm_data.proofs.data.Data.class_for.Goals as goal
use Rattle.strm_data.proofs.data.Data.class_for.Goals.{After-index-class, else-class-size-via-then-class-size+else-len-gt0, else-class-size-via-else-class-size}

-- a class that is looked at
there : (c : After-index-class) → c.loop-number.number < length c.self.inside.classes.items
there c = omega (arith, c.loop-number-test.true, c.len-number-end.ensures)

in_classes : (c : After-index-class) → c.loop-number.number < length (store_of c.self.inside).store.classes
in_classes c = omega (arith, there c, length-map c.self.inside.classes.items (λ (k : Class). k.spec))

in_free : (c : After-index-class) → c.loop-number.number < length (store_of c.self.inside).store.free
in_free c = omega (arith, in_classes c, c.self.invariant.kept.lists)

spec_is : (c : After-index-class) → get_or (store_of c.self.inside).store.classes c.loop-number.number no_class_spec ≡ c.index-class.result.now.spec
spec_is c =
    get_or-map (λ (k : Class). k.spec) c.self.inside.classes.items c.loop-number.number no_class no_class_spec (there c)
    ∙ ap (λ (k : Class). k.spec) (sym (c.index-class.ensures ∙ get_or_default c.self.inside.classes.items c.loop-number.number c.index-class.result.now no_class (there c)))

pub returns-then-len-gt0-clause-found : goal.returns-then-len-gt0-clause-found
returns-then-len-gt0-clause-found c =
    let at = (goal.at.returns-then-len-gt0-clause-found c).After-index-class in
    subst (λ s. IsTakenFrom c.args.size s.store c.loop-number.number) c.self.view_is
    (IsTakenFrom-found c.args.size (store_of c.self.inside).store c.loop-number.number (in_classes at) (in_free at)
    (rw (spec_is at) c.if-class-size.true) (omega (arith, c.if-len-gt0.true, c.len.ensures)) c.loop-number.invariant)

pub returns-then-len-gt0-clause-class : goal.returns-then-len-gt0-clause-class
returns-then-len-gt0-clause-class c =
    let at = (goal.at.returns-then-len-gt0-clause-class c).After-index-class in
    let s = (store_of c.self.inside).store in
    let fits : c.args.size ≤ (class_spec_at s c.loop-number.number).size = rw (spec_is at) c.if-class-size.true in
    subst (λ (s : CountedStore). IsClassFor c.args.size s.store c.loop-number.number) c.self.view_is
    (record {
      wide = fits;
      before = λ k below wide. none_before c.args.size s c.self.invariant.kept.lists c.loop-number.number k below (omega (arith, in_classes at)) c.loop-number.invariant wide;
    })

pub loop-number-preserved : goal.loop-number-preserved
loop-number-preserved c =
    let at = (goal.at.loop-number-preserved c).After-index-class in
    let s = (store_of c.self.inside).store in
    let i = c.loop-number.number in
    elim c.else-class-size.branch [
      | else-class-size-via-then-class-size+else-len-gt0 w ↦
          fitting_from_next c.args.size s i no_class_spec (in_classes at) (in_free at)
          (if_fits-empty c.args.size (get_or s.classes i no_class_spec) (free_of s i) (omega (arith, w.if-len-gt0.false, w.len.ensures)))
          c.loop-number.invariant
      | else-class-size-via-else-class-size w ↦
          fitting_from_next c.args.size s i no_class_spec (in_classes at) (in_free at)
          (if_fits-small c.args.size (get_or s.classes i no_class_spec) (free_of s i) (rw (spec_is at) w.if-class-size.false)) c.loop-number.invariant
    ]
