use Rattle.std.proofs.Common.{◌≡◌, ◌+◌, ◌<◌, ◌≤◌, [], Some, drop, length, take, refl, sym, ap, ◌∙◌, arith, subst}
use Rattle.std.specs.Prelude.{min, option_map, slice_get}
use Rattle.std.proofs.lemmas.List.{drop_all, length-map, nil_from_length}
use Rattle.std.proofs.lemmas.Option.{slice_get-map}
use Rattle.strm_data.specs.CountedStore.{CountedStore}
use Rattle.strm_data.specs.DataStore.{capacity_of, with_bytes_written}
use Rattle.strm_mblk.specs.Block.{Message}
use Rattle.strm_mblk.specs.BlocksLayout.{IsPlaced, block_at, message_of, block_of}
use Rattle.strm_mblk.specs.InPlace.{bytes_within, store_overwritten}
use Rattle.strm_links.specs.ChainLists.{nodes_at}
use Rattle.strm_mblk.proofs.Altering.{overwritten_next, overwritten_nothing, written_within}
use Rattle.strm_mblk.proofs.layout.HeldBlocks.{nodes_room}
use Rattle.std.proofs.Math.Nat.{min-le_right}
use Rattle.strm_data.proofs.store.Kept.{capacity_range}
use Rattle.strm_mblk.proofs.layout.Rooms.{HasRooms, placed-over, rooms-both, rooms-written}
use Rattle.strm_mblk.proofs.blocks.overwriting.overwrite_blocks.Goals.{After-fields_at-fields, In-loop-block}
use Rattle.strm_mblk.proofs.blocks.overwriting.overwrite_blocks.Goals as goal

pub loop-block-init : goal.loop-block-init
loop-block-init c = record {
  at = record { here = λ some. c.requires.begun; in_range = λ some. nodes_room c.args.chains.now.lists c.args.head c.requires.begun };
  rest = refl;
  counts = refl;
  rooms = record { many = refl; room = λ k. refl };
  kept = c.requires.kept;
}

module _ (c : In-loop-block) where
  abbrev m : Message
  m = message_of c.args.chains.now.loads (nodes_at c.args.chains.now.lists c.args.head)

  at : slice_get (nodes_at c.args.chains.now.lists c.args.head) c.loop-block._block ≡ Some c.loop-block.node
  at = c.loop-block.invariant.at.here (omega (arith, c.loop-block-test.true, c.requires.count))

  there : c.loop-block.node < length c.args.chains.now.loads
  there = omega (arith, c.loop-block.invariant.at.in_range (omega (arith, c.loop-block-test.true, c.requires.count)), c.requires.listed)

pub fields_at-fields-requires : goal.fields_at-fields-requires
fields_at-fields-requires c = there (goal.at.fields_at-fields-requires c).In-loop-block

module _ (c : After-fields_at-fields) where
  abbrev loop : In-loop-block
  loop = (goal.at.After-fields_at-fields c).In-loop-block

  placed : IsPlaced c.loop-block.stored.store c.fields_at-fields.result
  placed =
      subst (IsPlaced c.loop-block.stored.store) (sym c.fields_at-fields.ensures)
      (placed-over c.loop-block.invariant.rooms (c.requires.placed c.loop-block.node (there loop)))

  block : slice_get (m loop) c.loop-block._block ≡ Some (block_of c.loop-block.node c.fields_at-fields.result)
  block =
      slice_get-map (block_at c.args.chains.now.loads) (nodes_at c.args.chains.now.lists c.args.head) c.loop-block._block ∙ ap (option_map (block_at c.args.chains.now.loads)) (at loop)
      ∙ ap (λ f. Some (block_of c.loop-block.node f)) (sym c.fields_at-fields.ensures)

pub returns-then-rest-eq0-clause-after : goal.returns-then-rest-eq0-clause-after
returns-then-rest-eq0-clause-after c =
    let behind = drop c.loop-block._block (message_of c.args.chains.now.loads (nodes_at c.args.chains.now.lists c.args.head)) in
    let store = c.loop-block.invariant.rest
    ∙ ap (λ bytes. store_overwritten c.loop-block.skip bytes behind c.loop-block.stored.store) (nil_from_length c.loop-block.rest.now c.if-rest-eq0.true)
    ∙ overwritten_nothing c.loop-block.skip behind c.loop-block.stored.store in
    λ i. record { store = sym store i; counts = c.loop-block.invariant.counts i }

pub overflow_add-fields : goal.overflow_add-fields
overflow_add-fields c =
    let before = (goal.at.overflow_add-fields c).After-fields_at-fields in
    omega (arith, (placed before).within, (capacity_range c.loop-block.stored c.fields_at-fields.result.data_number c.loop-block.invariant.kept (placed before).there).1, c.min.ensures, min-le_right c.loop-block.skip c.fields_at-fields.result.len)

pub write-requires-clause-there : goal.write-requires-clause-there
write-requires-clause-there c = (placed (goal.at.write-requires-clause-there c).After-fields_at-fields).there

pub write-requires-clause-room : goal.write-requires-clause-room
write-requires-clause-room c =
    let f = c.fields_at-fields.result in
    let within = written_within f.offset f.len _ c.loop-block.skip (length c.loop-block.rest.now) (placed (goal.at.write-requires-clause-room c).After-fields_at-fields).within in
    omega (arith, within, c.split_at.ensures.front_len, c.min-here.ensures, ap (min (length c.loop-block.rest.now)) c.saturating_sub.ensures, c.min.ensures)

pub onward-node-requires : goal.onward-node-requires
onward-node-requires c = omega (arith, there (goal.at.onward-node-requires c).In-loop-block, c.requires.listed)

pub loop-block-preserved : goal.loop-block-preserved
loop-block-preserved c =
    let before = (goal.at.loop-block-preserved c).After-fields_at-fields in
    let k = c.loop-block._block in
    let f = c.fields_at-fields.result in
    let behind = drop (k + 1) (m (loop before)) in
    let here : c.min-here.result ≡ bytes_within c.loop-block.skip (length c.loop-block.rest.now) (block_of c.loop-block.node c.fields_at-fields.result) =
    c.min-here.ensures ∙ ap (min (length c.loop-block.rest.now)) c.saturating_sub.ensures in
    let store : c.write.new.self ≡ record c.loop-block.stored { store = with_bytes_written f.data_number (f.offset + min c.loop-block.skip f.len) (take c.min-here.result c.loop-block.rest.now) c.loop-block.stored.store } =
    c.write.ensures.after
    ∙ (λ i. record c.loop-block.stored { store = with_bytes_written f.data_number (f.offset + c.min.ensures i) (c.split_at.ensures.front i) c.loop-block.stored.store }) in
    let within = written_within f.offset f.len _ c.loop-block.skip (length c.loop-block.rest.now) (placed before).within in
    let room : f.offset + min c.loop-block.skip f.len + length (take c.min-here.result c.loop-block.rest.now) ≤ capacity_of c.loop-block.stored.store f.data_number =
    omega (arith, within, here, ap length c.split_at.ensures.front, c.split_at.ensures.front_len) in
    record {
      at = c.onward-node.ensures c.args.head k c.loop-block.invariant.at;
      rest =
          c.loop-block.invariant.rest
          ∙ overwritten_next (m (loop before)) k (block before) c.loop-block.stored.store c.loop-block.skip c.loop-block.rest.now
          ∙ (λ i. store_overwritten (sym c.saturating_sub-skip.ensures i) (drop (sym here i) c.loop-block.rest.now) behind
          (with_bytes_written f.data_number (f.offset + min c.loop-block.skip f.len) (take (sym here i) c.loop-block.rest.now) c.loop-block.stored.store))
          ∙ (λ i. store_overwritten c.saturating_sub-skip.result (sym c.split_at.ensures.back i) behind (sym store i).store);
      counts = ap (λ (s : CountedStore). s.counts) store ∙ c.loop-block.invariant.counts;
      rooms = rooms-both c.loop-block.invariant.rooms (subst (HasRooms c.loop-block.stored.store) (sym (ap (λ (s : CountedStore). s.store) store)) (rooms-written c.loop-block.stored.store f.data_number (f.offset + min c.loop-block.skip f.len) (take c.min-here.result c.loop-block.rest.now) room));
      kept = c.write.ensures.kept;
    }

pub returns-clause-after : goal.returns-clause-after
returns-clause-after c =
    let all = message_of c.args.chains.now.loads (nodes_at c.args.chains.now.lists c.args.head) in
    let none : drop c.loop-block._block all ≡ [] = drop_all c.loop-block._block all (omega (arith, c.loop-block-test.false, length-map (nodes_at c.args.chains.now.lists c.args.head) (block_at c.args.chains.now.loads), c.requires.count)) in
    let store = c.loop-block.invariant.rest ∙ ap (λ bs. store_overwritten c.loop-block.skip c.loop-block.rest.now bs c.loop-block.stored.store) none in
    λ i. record { store = sym store i; counts = c.loop-block.invariant.counts i }

pub returns-clause-kept : goal.returns-clause-kept
returns-clause-kept c = c.loop-block.invariant.kept
