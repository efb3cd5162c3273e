use Rattle.std.proofs.Common.{◌≡◌, ◌+◌, ◌≤◌, List, ℕ, drop, length, map, take, refl, sym, ap, ◌∙◌, subst, arith}
use Rattle.std.specs.Vec.{with_items}
use Rattle.std.specs.Fn.{FnOnceReturnsAtMut, FnOnceTakesAtMut}
use Rattle.std.proofs.lemmas.List.{length-drop, length-take-le, with_items_is}
use Rattle.strm_data.specs.CountedStore.{IsKept}
use Rattle.strm_data.specs.DataLayout.{room_of, store_of_parts, IsPlaced}
use Rattle.strm_data.specs.DataStore.{bytes_at, bytes_overwritten, capacity_of, with_bytes_written}
use Rattle.strm_data.proofs.Lists.{length-overwritten}
use Rattle.strm_data.proofs.layout.Copying.{in_bytes, overwrites, part_is, IsPlaced-overwrites}
use Rattle.strm_data.proofs.store.Kept.{IsKept-altered}
use Rattle.strm_data.proofs.data.Data.edit.Given.{Over}
use Rattle.strm_data.proofs.data.Data.edit.Goals as goal
use Rattle.strm_data.proofs.data.Data.edit.Goals.{After-deref_mut}

module _ (g : Over) (c : After-deref_mut g) where
  all : c.deref_mut.result.now ≡ c.self.inside.bytes.items
  all = c.deref_mut.ensures.value

  fits : c.place_of-place.result + c.args.len ≤ length c.deref_mut.result.now
  fits = omega (arith, ap length all, in_bytes c.self.inside _ c.self.view_is c.self.invariant c.args.number c.requires.there c.load.result.now c.load.ensures c.args.at _ c.place_of-place.ensures.place c.args.len c.requires.room)

  -- the bytes that are lent
  lent : take c.args.len (drop c.place_of-place.result c.deref_mut.result.now) ≡ bytes_at c.args.number c.args.at c.args.len c.args.self.now.store
  lent =
      ap (λ bs. take c.args.len (drop c.place_of-place.result bs)) all
      ∙ part_is c.self.inside _ c.self.view_is c.self.invariant c.args.number c.requires.there c.load.result.now c.load.ensures c.args.at _ c.place_of-place.ensures.place c.args.len c.requires.room

  long : length (take c.args.len (drop c.place_of-place.result c.deref_mut.result.now)) ≡ c.args.len
  long =
      length-take-le c.args.len (drop c.place_of-place.result c.deref_mut.result.now)
      (omega (arith, fits, length-drop c.place_of-place.result c.deref_mut.result.now))

  -- once these bytes are in their place
  module _ (left new : List ℕ) (same : length left ≡ length (take c.args.len (drop c.place_of-place.result c.deref_mut.result.now)))
      (is : new ≡ bytes_overwritten c.place_of-place.result left c.deref_mut.result.now) where
    room : c.args.at + length left ≤ capacity_of c.args.self.now.store c.args.number
    room = omega (arith, same, long, c.requires.room)

    -- all bytes then
    bytes_are : (with_items c.self.inside.bytes new).items ≡ bytes_overwritten c.place_of-place.result left c.self.inside.bytes.items
    bytes_are =
        with_items_is c.self.inside.bytes new
        (ap length is ∙ length-overwritten c.place_of-place.result left c.deref_mut.result.now (omega (arith, same, long, fits)) ∙ c.deref_mut.ensures.len)
        ∙ is ∙ ap (bytes_overwritten c.place_of-place.result left) all

    after : store_of_parts c.self.inside.classes.items (with_items c.self.inside.bytes new).items c.self.inside.blocks.loads c.self.inside.blocks.rows.lists
        ≡ record c.args.self.now { store = with_bytes_written c.args.number c.args.at left c.args.self.now.store }
    after =
        ap (λ bs. store_of_parts c.self.inside.classes.items bs c.self.inside.blocks.loads c.self.inside.blocks.rows.lists) bytes_are
        ∙ overwrites c.self.inside _ c.self.view_is c.self.invariant c.args.number c.requires.there c.load.result.now c.load.ensures c.args.at _ c.place_of-place.ensures.place left room

    kept : IsKept (store_of_parts c.self.inside.classes.items (with_items c.self.inside.bytes new).items c.self.inside.blocks.loads c.self.inside.blocks.rows.lists)
    kept =
        subst IsKept (sym after)
        (IsKept-altered c.args.self.now c.args.number _ refl (length-overwritten c.args.at left _ room) (subst IsKept c.self.view_is c.self.invariant.kept))

    placed : IsPlaced (map room_of c.self.inside.classes.items) (with_items c.self.inside.bytes new).items c.self.inside.blocks.loads
    placed =
        subst (λ bs. IsPlaced (map room_of c.self.inside.classes.items) bs c.self.inside.blocks.loads) (sym bytes_are)
        (IsPlaced-overwrites c.self.inside _ c.self.view_is c.self.invariant c.args.number c.requires.there c.load.result.now c.load.ensures c.args.at _ c.place_of-place.ensures.place left room)

pub edit_part-requires-clause-there : goal.edit_part-requires-clause-there
edit_part-requires-clause-there g c = fits g (goal.at.edit_part-requires-clause-there g c).After-deref_mut

pub edit_part-requires-clause-callable : goal.edit_part-requires-clause-callable
edit_part-requires-clause-callable g c =
    subst (FnOnceTakesAtMut g.F.FnOnce c.args.change) (sym (lent g (goal.at.edit_part-requires-clause-callable g c).After-deref_mut)) c.requires.callable

pub invariant_of-self : goal.invariant_of-self
invariant_of-self g c =
    let at = (goal.at.invariant_of-self g c).After-deref_mut in
    let edits = c.edit_part.ensures in
    record {
      kept = kept g at edits.left _ edits.long edits.after;
      placed = placed g at edits.left _ edits.long edits.after;
      least = record { each = c.self.invariant.least.each; fewest = c.self.invariant.least.fewest };
      nodes = c.self.invariant.nodes;
    }

pub returns-clause-after : goal.returns-clause-after
returns-clause-after g c =
    let at = (goal.at.returns-clause-after g c).After-deref_mut in
    let edits = c.edit_part.ensures in
    record {
      left = edits.left;
      long = edits.long ∙ ap length (lent g at);
      called = subst (λ bytes. FnOnceReturnsAtMut g.F.FnOnce c.args.change bytes c.edit_part.result edits.left) (lent g at) edits.called;
      after = after g at edits.left _ edits.long edits.after;
    }

pub returns-clause-kept : goal.returns-clause-kept
returns-clause-kept g c =
    let edits = c.edit_part.ensures in
    kept g (goal.at.returns-clause-kept g c).After-deref_mut edits.left _ edits.long edits.after
