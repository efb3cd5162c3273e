use Rattle.std.proofs.Common.{◌≡◌, ◌+◌, ◌<◌, ◌&&◌, Bool, length, take, drop, refl, sym, ap, ◌∙◌, arith}
use Rattle.std.specs.List.{list_all}
use Rattle.std.proofs.lemmas.List.{take-append-drop}
use Rattle.std.proofs.lemmas.List.Folds.{list_all-append, list_all_more}
use Rattle.std.proofs.lemmas.Option.{get_or_from_slice_get, slice_get_within}
use Rattle.strm_data.specs.Classes.{fits_a_class}
use Rattle.strm_data.specs.DataStore.{capacity_of}
use Rattle.strm_mblk.specs.declared.blocks.Fields.{Fields}
use Rattle.strm_mblk.specs.Arena.{Arena, message_at}
use Rattle.strm_mblk.specs.Block.{Block, Message}
use Rattle.strm_mblk.specs.BlocksLayout.{block_at, fields_at}
use Rattle.strm_links.specs.ChainLists.{nodes_at}
use Rattle.strm_mblk.proofs.layout.HeldBlocks.{IsAt, block_reached}
use Rattle.strm_mblk.proofs.blocks.Blocks.fits_classes.Goals.{After-has_class_for, After-fields_at, In-loop-block}
use Rattle.strm_mblk.proofs.blocks.Blocks.fits_classes.Goals as goal

module _ (c : In-loop-block) where
  -- the block at this step
  is_at : IsAt c.self.inside.data c.self.inside.chains.loads c.self.inside.chains.lists c.args.self.now c.args.token.now.head c.loop-block._block c.loop-block.node (nodes_at c.self.inside.chains.lists c.args.token.now.head)
  is_at =
      block_reached c.self.invariant.filled c.self.view_is c.args.token.now.head c.loop-block._block
      c.args.token.now refl c.requires c.loop-block.invariant.at (omega (arith, c.loop-block-test.true, c.blocks-block-end.ensures))

read : (c : After-fields_at) → c.loop-block.node < length c.self.inside.chains.loads → c.fields_at.result ≡ fields_at c.self.inside.chains.loads c.loop-block.node
read c there = c.fields_at.ensures

pub cap-size-requires : goal.cap-size-requires
cap-size-requires c =
    let at = is_at (goal.at.cap-size-requires c).In-loop-block in omega (arith, at.placed.there, ap (λ (f : Fields). f.data_number) (read c at.there))

module _ (c : After-has_class_for) where
  abbrev m : Message
  m = message_at c.args.self.now c.args.token.now.head

  abbrev fits : Block → Bool
  fits b = fits_a_class (capacity_of c.args.self.now.store b.data_number) c.args.stored.now.store.classes

  here : IsAt c.self.inside.data c.self.inside.chains.loads c.self.inside.chains.lists c.args.self.now c.args.token.now.head c.loop-block._block c.loop-block.node (nodes_at c.self.inside.chains.lists c.args.token.now.head)
  here = is_at (goal.at.After-has_class_for c).In-loop-block

  abbrev b : Block
  b = block_at c.self.inside.chains.loads c.loop-block.node

  size_is : c.cap-size.result ≡ capacity_of c.args.self.now.store b.data_number
  size_is =
      c.cap-size.ensures.answer ∙ ap (λ (f : Fields). capacity_of c.self.inside.data.store f.data_number) (read (goal.at.After-has_class_for c).After-fields_at here.there)
      ∙ ap (λ (a : Arena). capacity_of a.store b.data_number) c.self.view_is

  -- what is known with this block
  fits_more : list_all fits (take (c.loop-block._block + 1) m) ≡ c.has_class_for.result
  fits_more =
      list_all_more fits m c.loop-block._block b (slice_get_within m c.loop-block._block b here.block)
      ∙ (λ i. c.loop-block.invariant.fitted i && fits (get_or_from_slice_get m c.loop-block._block b b here.block i))
      ∙ ap (λ n. fits_a_class n c.args.stored.now.store.classes) (sym size_is)
      ∙ sym c.has_class_for.ensures

pub returns-then-not-has_class_for : goal.returns-then-not-has_class_for
returns-then-not-has_class_for c =
    let at = (goal.at.returns-then-not-has_class_for c).After-has_class_for in
    let n = c.loop-block._block + 1 in
    sym (ap (list_all (fits at)) (sym (take-append-drop n (m at))) ∙ list_all-append (fits at) (take n (m at)) (drop n (m at))
    ∙ ap (λ x. x && list_all (fits at) (drop n (m at))) (fits_more at ∙ c.if-not-has_class_for.true))

pub loop-block-preserved : goal.loop-block-preserved
loop-block-preserved c = record {
  at = c.onward-node.ensures c.args.token.now.head c.loop-block._block c.loop-block.invariant.at;
  fitted = fits_more (goal.at.loop-block-preserved c).After-has_class_for ∙ c.if-not-has_class_for.false;
}
