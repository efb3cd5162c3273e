use Rattle.std.proofs.Common.{◌≡◌, ◌+◌, ◌<◌, ◌≤◌, ℕ, List, Bool, false, ◌&&◌, Some, drop, length, map, refl, sym, ap, ◌∙◌, arith, subst}
use Rattle.std.specs.Prelude.{nat_lt, not, slice_get}
use Rattle.std.proofs.lemmas.Bool.{cond-false, cond-true, le-ltb, lt-ltb}
use Rattle.strm_data.specs.CountedStore.{count_of}
use Rattle.strm_data.specs.DataStore.{capacity_of, data_block_at}
use Rattle.strm_data.specs.MsgType.{same_kind}
use Rattle.strm_mblk.specs.declared.block_place.Shape.{Shape}
use Rattle.strm_mblk.specs.declared.blocks.Fields.{Fields}
use Rattle.strm_mblk.specs.Arena.{Arena, message_at, references_to}
use Rattle.strm_mblk.specs.Block.{Block, Message, kind_of}
use Rattle.strm_mblk.specs.BlocksLayout.{block_at, fields_at}
use Rattle.strm_mblk.specs.Given.{and_then}
use Rattle.strm_mblk.specs.InPlace.{shape_fits, shapes_fit}
use Rattle.strm_links.specs.ChainLists.{nodes_at}
use Rattle.strm_mblk.proofs.Altering.{and_false, fits_next, kind_changes, shape_at}
use Rattle.strm_mblk.proofs.layout.HeldBlocks.{IsAt, block_reached}
use Rattle.strm_mblk.proofs.blocks.Blocks.fit.Goals.{After-fields_at-data_number, After-cap-capacity, After-ne, then-shape-capacity-via-then-shape-capacity, then-shape-capacity-via-else-shape-capacity+then-shape-capacity-2, else-ne-via-then-ne+else-count-gt1, else-ne-via-else-ne}
use Rattle.strm_mblk.proofs.blocks.Blocks.fit.Goals as goal

module _ (g : _) (c : After-fields_at-data_number g) where
  -- the block at this step
  is_at : IsAt c.self.inside.data c.self.inside.chains.loads c.self.inside.chains.lists c.args.self.now c.args.token.now.head c.loop-shaped.shaped-index c.loop-shaped.node (nodes_at c.self.inside.chains.lists c.args.token.now.head)
  is_at =
      block_reached c.self.invariant.filled c.self.view_is c.args.token.now.head c.loop-shaped.shaped-index
      c.args.token.now refl c.requires.had c.loop-shaped.invariant.at (omega (arith, c.loop-shaped-test.true, c.requires.count))

  read : c.fields_at-data_number.result ≡ fields_at c.self.inside.chains.loads c.loop-shaped.node
  read = c.fields_at-data_number.ensures

  abbrev xs : List Shape
  xs = map g.S.Shaped.shape c.args.shapes.now

  abbrev m : Message
  m = message_at c.args.self.now c.args.token.now.head

  abbrev b : Block
  b = block_at c.self.inside.chains.loads c.loop-shaped.node

  -- its shape
  item : slice_get xs c.loop-shaped.shaped-index ≡ Some c.shape-shape.result
  item = shape_at g.S.Shaped.shape c.args.shapes.now c.loop-shaped.shaped-index c.loop-shaped-test.true c.shaped-item.is c.shape-shape.ensures

  next : shapes_fit c.args.self.now xs m
      ≡ and_then (λ u. shapes_fit c.args.self.now (drop (c.loop-shaped.shaped-index + 1) xs) (drop (c.loop-shaped.shaped-index + 1) m)) (shape_fits c.args.self.now c.shape-shape.result b)
  next = c.loop-shaped.invariant.rest ∙ fits_next xs c.loop-shaped.shaped-index item c.args.self.now m is_at.block

  counted : {n : ℕ} → n ≡ count_of c.self.inside.data c.fields_at-data_number.result.data_number → n ≡ references_to c.args.self.now b.data_number
  counted is = is ∙ ap (λ (f : Fields). count_of c.self.inside.data f.data_number) read ∙ is_at.named

module _ (g : _) (c : After-cap-capacity g) where
  abbrev before : After-fields_at-data_number g
  before = (goal.at.After-cap-capacity g c).After-fields_at-data_number

  capacity_is : c.cap-capacity.result ≡ capacity_of c.args.self.now.store (b g before).data_number
  capacity_is =
      c.cap-capacity.ensures.answer ∙ ap (λ (f : Fields). capacity_of c.self.inside.data.store f.data_number) (read g before)
      ∙ ap (λ (a : Arena). capacity_of a.store (b g before).data_number) c.self.view_is

module _ (g : _) (c : After-ne g) where
  abbrev here : After-fields_at-data_number g
  here = (goal.at.After-ne g c).After-fields_at-data_number

  room : c.shape-shape.result.at + c.shape-shape.result.len ≤ capacity_of c.args.self.now.store (b g here).data_number
  room = omega (arith, c.if-shape-capacity.false, c.if-shape-capacity-2.false, capacity_is g (goal.at.After-ne g c).After-cap-capacity)

  kind_is : c.kind.result ≡ kind_of c.args.self.now.store (b g here)
  kind_is =
      c.kind.ensures ∙ ap (λ (f : Fields). (data_block_at c.self.inside.data.store f.data_number).kind) (read g here)
      ∙ ap (λ (a : Arena). (data_block_at a.store (b g here).data_number).kind) c.self.view_is

  changes : not (same_kind (kind_of c.args.self.now.store (b g here)) c.shape-shape.result.kind) ≡ c.ne.result
  changes = ap (λ k. not (same_kind k c.shape-shape.result.kind)) (sym kind_is) ∙ sym (kind_changes _ _ c.ne.ensures)

pub cap-capacity-requires : goal.cap-capacity-requires
cap-capacity-requires g c = subst (λ (f : Fields). f.data_number < length c.self.inside.data.store.blocks) (sym (read g c)) (is_at g c).placed.there

pub returns-then-shape-capacity : goal.returns-then-shape-capacity
returns-then-shape-capacity g c =
    let at = (goal.at.returns-then-shape-capacity g c).After-fields_at-data_number in
    let is = capacity_is g (goal.at.returns-then-shape-capacity g c).After-cap-capacity in
    let x = c.shape-shape.result in
    let past : capacity_of c.args.self.now.store (b g at).data_number < x.at + x.len =
    elim c.then-shape-capacity.branch [
      | then-shape-capacity-via-then-shape-capacity w ↦ omega (arith, w.if-shape-capacity.true, is)
      | then-shape-capacity-via-else-shape-capacity+then-shape-capacity-2 w ↦ omega (arith, w.if-shape-capacity.false, w.if-shape-capacity-2.true, is)
    ] in
    sym (next g at ∙ ap (and_then (λ u. shapes_fit c.args.self.now (drop (c.loop-shaped.shaped-index + 1) (xs g at)) (drop (c.loop-shaped.shaped-index + 1) (m g at)))) (cond-true _ _ _ (lt-ltb _ _ past)))

pub returns-then-count-gt1 : goal.returns-then-count-gt1
returns-then-count-gt1 g c =
    let ne = (goal.at.returns-then-count-gt1 g c).After-ne in
    let at = here g ne in
    let many : 1 < references_to c.args.self.now (b g at).data_number = omega (arith, c.if-count-gt1.true, counted g at c.count.ensures) in
    sym (next g at ∙ ap (and_then (λ u. shapes_fit c.args.self.now (drop (c.loop-shaped.shaped-index + 1) (xs g at)) (drop (c.loop-shaped.shaped-index + 1) (m g at))))
    (cond-false _ _ _ (le-ltb _ _ (room g ne)) ∙ cond-true _ _ _ (ap (λ p. p && nat_lt 1 (references_to c.args.self.now (b g at).data_number)) (changes g ne ∙ c.if-ne.true) ∙ lt-ltb 1 _ many)))

pub onward-node-requires : goal.onward-node-requires
onward-node-requires g c = omega (arith, (is_at g (goal.at.onward-node-requires g c).After-fields_at-data_number).there, c.self.invariant.filled.listed)

pub loop-shaped-preserved : goal.loop-shaped-preserved
loop-shaped-preserved g c =
    let ne = (goal.at.loop-shaped-preserved g c).After-ne in
    let at = here g ne in
    let type_changes : Bool = not (same_kind (kind_of c.args.self.now.store (b g at)) c.shape-shape.result.kind) in
    let none : (type_changes && nat_lt 1 (references_to c.args.self.now (b g at).data_number)) ≡ false =
    elim c.else-ne.branch [
      | else-ne-via-then-ne+else-count-gt1 w ↦
          ap (λ p. type_changes && p) (le-ltb 1 _ (omega (arith, w.if-count-gt1.false, counted g at w.count.ensures))) ∙ and_false type_changes
      | else-ne-via-else-ne w ↦ ap (λ p. p && nat_lt 1 (references_to c.args.self.now (b g at).data_number)) (changes g ne ∙ w.if-ne.false)
    ] in
    record {
      at = c.onward-node.ensures c.args.token.now.head c.loop-shaped.shaped-index c.loop-shaped.invariant.at;
      rest =
          next g at ∙ ap (and_then (λ u. shapes_fit c.args.self.now (drop (c.loop-shaped.shaped-index + 1) (xs g at)) (drop (c.loop-shaped.shaped-index + 1) (m g at))))
          (cond-false _ _ _ (le-ltb _ _ (room g ne)) ∙ cond-false _ _ _ none);
    }
