use Rattle.std.proofs.Common.{◌≡◌, ℕ, ◌+◌, ◌≤◌, List, length, map, take, drop, refl, sym, ap, ◌∙◌, subst, arith}
use Rattle.std.specs.Vec.{with_items}
use Rattle.std.proofs.lemmas.List.{with_items_is}
use Rattle.strm_data.specs.CountedStore.{IsKept}
use Rattle.strm_data.specs.DataLayout.{room_of, store_of_parts, IsPlaced}
use Rattle.strm_data.specs.DataStore.{capacity_of, data_block_at, bytes_overwritten, with_bytes_written}
use Rattle.strm_data.proofs.Lists.{length-overwritten, length-part}
use Rattle.strm_data.proofs.layout.Copying.{in_bytes, overwrites, part_is, IsPlaced-overwrites}
use Rattle.strm_data.proofs.store.Kept.{IsKept-altered}
use Rattle.strm_data.proofs.data.Data.copy.Goals as goal
use Rattle.strm_data.proofs.data.Data.copy.Goals.{After-deref_mut}

pub copy_inside-requires-clause-there : goal.copy_inside-requires-clause-there
copy_inside-requires-clause-there c =
    omega (arith, ap length c.deref_mut.ensures.value, in_bytes c.self.inside _ c.self.view_is c.self.invariant c.args.from c.requires.from c.load.result.now c.load.ensures c.args.at _ c.place_of-source.ensures.place c.args.len c.requires.there)

pub copy_inside-requires-clause-room : goal.copy_inside-requires-clause-room
copy_inside-requires-clause-room c =
    omega (arith, ap length c.deref_mut.ensures.value, in_bytes c.self.inside _ c.self.view_is c.self.invariant c.args.into c.requires.into c.load-2.result.now c.load-2.ensures c.args.to _ c.place_of-target.ensures.place c.args.len c.requires.room)

module _ (c : After-deref_mut) where
  -- the bytes that are copied
  abbrev bytes : List ℕ
  bytes = take c.args.len (drop c.args.at (data_block_at c.args.self.now.store c.args.from).bytes)

  long : length bytes ≡ c.args.len
  long = length-part c.args.len c.args.at (data_block_at c.args.self.now.store c.args.from).bytes c.requires.there

  room : c.args.to + length bytes ≤ capacity_of c.args.self.now.store c.args.into
  room = omega (arith, long, c.requires.room)

  -- all bytes then
  module _ (new : List ℕ) (many : length new ≡ length c.deref_mut.result.now)
      (is : new ≡ bytes_overwritten c.place_of-target.result (take c.args.len (drop c.place_of-source.result c.deref_mut.result.now)) c.deref_mut.result.now) where
    bytes_are : (with_items c.self.inside.bytes new).items ≡ bytes_overwritten c.place_of-target.result bytes c.self.inside.bytes.items
    bytes_are =
        with_items_is c.self.inside.bytes new (many ∙ c.deref_mut.ensures.len) ∙ is
        ∙ ap (λ bs. bytes_overwritten c.place_of-target.result (take c.args.len (drop c.place_of-source.result bs)) bs) c.deref_mut.ensures.value
        ∙ ap (λ bs. bytes_overwritten c.place_of-target.result bs c.self.inside.bytes.items)
        (part_is c.self.inside _ c.self.view_is c.self.invariant c.args.from c.requires.from c.load.result.now c.load.ensures c.args.at _ c.place_of-source.ensures.place c.args.len c.requires.there)

    copied : store_of_parts c.self.inside.classes.items (with_items c.self.inside.bytes new).items c.self.inside.blocks.loads c.self.inside.blocks.rows.lists
        ≡ record c.args.self.now { store = with_bytes_written c.args.into c.args.to bytes c.args.self.now.store }
    copied =
        ap (λ bs. store_of_parts c.self.inside.classes.items bs c.self.inside.blocks.loads c.self.inside.blocks.rows.lists) bytes_are
        ∙ overwrites c.self.inside _ c.self.view_is c.self.invariant c.args.into c.requires.into c.load-2.result.now c.load-2.ensures c.args.to _ c.place_of-target.ensures.place bytes room

    placed : IsPlaced (map room_of c.self.inside.classes.items) (with_items c.self.inside.bytes new).items c.self.inside.blocks.loads
    placed =
        subst (λ bs. IsPlaced (map room_of c.self.inside.classes.items) bs c.self.inside.blocks.loads) (sym bytes_are)
        (IsPlaced-overwrites c.self.inside _ c.self.view_is c.self.invariant c.args.into c.requires.into c.load-2.result.now c.load-2.ensures c.args.to _ c.place_of-target.ensures.place bytes room)

pub returns-clause-after : goal.returns-clause-after
returns-clause-after c = copied (goal.at.returns-clause-after c).After-deref_mut c.copy_inside.new.bytes c.copy_inside.auto.bytes c.copy_inside.ensures

pub returns-clause-kept : goal.returns-clause-kept
returns-clause-kept c =
    let at = (goal.at.returns-clause-kept c).After-deref_mut in
    subst IsKept (sym (returns-clause-after c))
    (IsKept-altered c.args.self.now c.args.into _ refl (length-overwritten c.args.to (bytes at) _ (room at)) (subst IsKept c.self.view_is c.self.invariant.kept))

pub invariant_of-self : goal.invariant_of-self
invariant_of-self c = record {
  kept = returns-clause-kept c;
  placed = placed (goal.at.invariant_of-self c).After-deref_mut c.copy_inside.new.bytes c.copy_inside.auto.bytes c.copy_inside.ensures;
  least = record { each = c.self.invariant.least.each; fewest = c.self.invariant.least.fewest };
  nodes = c.self.invariant.nodes;
}
