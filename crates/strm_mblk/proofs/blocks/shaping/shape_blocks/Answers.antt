use Rattle.std.proofs.Common.{◌≡◌, ◌+◌, ◌<◌, ◌^◌, List, Some, drop, length, length-set, map, sym, ap, ◌∙◌, arith, ℕ, set, subst}
use Rattle.std.specs.Prelude.{option_map, slice_get}
use Rattle.std.proofs.lemmas.Option.{slice_get-map}
use Rattle.strm_data.specs.CountedStore.{CountedStore}
use Rattle.strm_data.specs.DataStore.{with_kind}
use Rattle.strm_mblk.specs.declared.block_place.Shape.{Shape}
use Rattle.strm_mblk.specs.Block.{Message}
use Rattle.strm_mblk.specs.BlocksLayout.{block_at, message_of, fields_at, fields_shaped, with_shapes}
use Rattle.strm_mblk.specs.InPlace.{store_retyped}
use Rattle.strm_links.specs.ChainLists.{nodes_at, ChainLists}
use Rattle.strm_mblk.proofs.Altering.{banded_one, named_one, retyped_next, shape_at, shaped_next}
use Rattle.strm_mblk.specs.declared.blocks.Fields.{Fields}
use Rattle.strm_mblk.proofs.layout.HeldBlocks.{still_on}
use Rattle.strm_mblk.proofs.blocks.shaping.shape_blocks.Given.{Over}
use Rattle.strm_mblk.proofs.blocks.shaping.shape_blocks.Goals.{In-loop-shaped}
use Rattle.strm_mblk.proofs.blocks.shaping.shape_blocks.Goals as goal

module _ (g : Over) (c : In-loop-shaped g) where
  there : c.loop-shaped.node < length c.args.chains.now.lists.held
  there = c.loop-shaped.invariant.at.in_range (omega (arith, c.loop-shaped-test.true, c.requires.count))

pub fields_at-data_number-requires : goal.fields_at-data_number-requires
fields_at-data_number-requires g c = omega (arith, there g (goal.at.fields_at-data_number-requires g c).In-loop-shaped, c.requires.listed, c.loop-shaped.invariant.many)

pub set_load-requires : goal.set_load-requires
set_load-requires g c = omega (arith, there g (goal.at.set_load-requires g c).In-loop-shaped, c.requires.listed, c.loop-shaped.invariant.many)

pub onward-node-requires : goal.onward-node-requires
onward-node-requires g c = omega (arith, there g (goal.at.onward-node-requires g c).In-loop-shaped, ap (λ (v : ChainLists). length v.held) (c.set_load.ensures.lists ∙ c.loop-shaped.invariant.lists))

pub loop-shaped-preserved : goal.loop-shaped-preserved
loop-shaped-preserved g c =
    let inv = c.loop-shaped.invariant in
    let i = c.loop-shaped.shaped-index in
    let n = c.loop-shaped.node in
    let xs : List Shape = map g.S.Shaped.shape c.args.shapes.now in
    let ns = nodes_at c.args.chains.now.lists c.args.head in
    let m : Message = message_of c.args.chains.now.loads ns in
    let x = c.shape-shape.result in
    let item : slice_get xs i ≡ Some x = shape_at g.S.Shaped.shape c.args.shapes.now i c.loop-shaped-test.true c.shaped-item.is c.shape-shape.ensures in
    let at : slice_get ns i ≡ Some n = inv.at.here (omega (arith, c.loop-shaped-test.true, c.requires.count)) in
    let now = c.loop-shaped.chains.loads in
    let lists = c.set_load.ensures.lists ∙ inv.lists in
    let loads : c.set_load.new.self.loads ≡ set now n (fields_shaped x (fields_at now n)) = c.set_load.ensures.loads ∙ ap (λ (f : Fields). set now n (fields_shaped x f)) c.fields_at-data_number.ensures in
    let small : x.band < 2 ^ 8 = omega (arith, c.shape-shape.type_inv) in
    record {
      lists = lists;
      at = still_on lists c.onward-node.ensures c.args.head i inv.at;
      fields = ap (with_shapes (drop (i + 1) xs) (drop (i + 1) ns)) loads ∙ sym (shaped_next xs i item ns now at) ∙ inv.fields;
      named = λ k. ap (λ fields. (fields_at fields k).data_number) loads ∙ named_one x n now k ∙ inv.named k;
      many = ap (λ (fields : List Fields). length fields) loads ∙ length-set now n _ ∙ inv.many;
      banded = subst (λ (fields : List Fields). (k : ℕ) → k < length fields → (fields_at fields k).band < 2 ^ 8) (sym loads) (banded_one x n now small inv.banded);
      store =
          ap (λ (s : CountedStore). store_retyped (drop (i + 1) xs) (drop (i + 1) m) s.store) c.set_kind.ensures.after
          ∙ (λ j. store_retyped (drop (i + 1) xs) (drop (i + 1) m) (with_kind ((ap (λ (f : Fields). f.data_number) c.fields_at-data_number.ensures ∙ inv.named n) j) x.kind c.loop-shaped.stored.store))
          ∙ sym (retyped_next xs i item m c.loop-shaped.stored.store (slice_get-map (block_at c.args.chains.now.loads) ns i ∙ ap (option_map (block_at c.args.chains.now.loads)) at))
          ∙ inv.store;
      counts = ap (λ (s : CountedStore). s.counts) c.set_kind.ensures.after ∙ inv.counts;
      long = ap (λ (s : CountedStore). length s.store.blocks) c.set_kind.ensures.after ∙ length-set c.loop-shaped.stored.store.blocks _ _ ∙ inv.long;
      kept = c.set_kind.ensures.kept;
    }
