use Rattle.std.proofs.Common.{rules, arith, ap, sym, subst, ◌∙◌, length, IsPermutation}
use Rattle.std.specs.List.Sorted.{IsNonDecreasingBy}
use Rattle.std.proofs.lemmas.List.Sorted.{All-permutation, IsPermutation-map, IsNonDecreasingBy-from_sort_by_key}
use Rattle.arrayvec.proofs.ArrayVecLemmas.{items-with_items}
use Rattle.strm_shared.specs.Desks.{DeskValue}
use Rattle.strm_shared.specs.DesksLayout.{AreFilled, IsFilled, desk_in, desks_in}
use Rattle.strm_shared.proofs.Gathering.{sorted-map}
use Rattle.strm_shared.proofs.desks.Desks.sort.Goals as goal

pub invariant_of-self : goal.invariant_of-self
invariant_of-self g c =
    let s = c.sort_unstable_by_key in
    let is = items-with_items c.self.inside.slots s.new.self (s.ensures.len ∙ ap length c.as_mut_slice.ensures.value) in
    let xs = c.self.inside.slots.items in
    let moved : IsPermutation xs s.new.self = subst (λ ys. IsPermutation ys s.new.self) c.as_mut_slice.ensures.value s.ensures.permutation in
    subst AreFilled (sym is) (omega (arith, s.ensures.len, ap length c.as_mut_slice.ensures.value, c.self.invariant.0), All-permutation IsFilled xs s.new.self moved c.self.invariant.1)

pub returns-clause-same : goal.returns-clause-same
returns-clause-same g c =
    let s = c.sort_unstable_by_key in
    let is = items-with_items c.self.inside.slots s.new.self (s.ensures.len ∙ ap length c.as_mut_slice.ensures.value) in
    let xs = c.self.inside.slots.items in
    let moved : IsPermutation xs s.new.self = subst (λ ys. IsPermutation ys s.new.self) c.as_mut_slice.ensures.value s.ensures.permutation in
    subst (λ ys. IsPermutation c.args.self.now (desks_in ys)) (sym is) (subst (λ ds. IsPermutation ds (desks_in s.new.self)) c.self.view_is (IsPermutation-map desk_in xs s.new.self moved))

pub returns-clause-sorted : goal.returns-clause-sorted
returns-clause-sorted g c =
    let s = c.sort_unstable_by_key in
    let is = items-with_items c.self.inside.slots s.new.self (s.ensures.len ∙ ap length c.as_mut_slice.ensures.value) in
    subst (λ ys. IsNonDecreasingBy (λ (d : DeskValue). d.number) (desks_in ys)) (sym is)
    (sorted-map desk_in (λ (d : DeskValue). d.number) s.new.self (IsNonDecreasingBy-from_sort_by_key (λ x. (desk_in x).number) _ s.ensures.sorted (λ a r q k. search rules)))
