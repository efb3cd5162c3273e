use Rattle.std.proofs.Common.{◌≡◌, ℕ, ◌+◌, ◌<◌, ◌∷◌, length, set, true, Some, drop, refl, sym, ap, ◌∙◌, subst, arith, length-set, List}
use Rattle.std.specs.Prelude.{slice_get}
use Rattle.std.specs.Result.{is_ok}
use Rattle.strm_data.specs.CountedStore.{CountedStore}
use Rattle.strm_data.specs.DataStore.{DataStore, capacity_of, take_data}
use Rattle.strm_mblk.specs.declared.blocks.Fields.{Fields}
use Rattle.strm_mblk.specs.Arena.{Arena, message_at}
use Rattle.strm_mblk.specs.Block.{Block, Message}
use Rattle.strm_mblk.specs.BlocksLayout.{IsPlaced, block_at, block_of, fields_at, fields_of}
use Rattle.strm_mblk.specs.Copying.{with_copy}
use Rattle.strm_links.specs.ChainLists.{nodes_at, ChainLists}
use Rattle.strm_mblk.proofs.layout.HeldBlocks.{IsAt, block_reached, nodes_room, reached_head, still_on}
use Rattle.strm_mblk.proofs.Lists.{drop_from}
use Rattle.strm_mblk.proofs.making.Copied.{IsCopying, next_copied, next_fits, none_copied}
use Rattle.strm_mblk.proofs.blocks.Blocks.copy_into.Goals.{After-fields_at, In-loop-block}
use Rattle.strm_mblk.proofs.blocks.Blocks.copy_into.Goals as goal
use Rattle.std.proofs.lemmas.Grind.{common_steps}

pub loop-block-init : goal.loop-block-init
loop-block-init c = record {
  read =
      reached_head c.self.invariant.filled c.self.view_is c.args.token.now c.requires.had c.head-read.ensures;
  written = grind (arith, common_steps, nodes_room);
  lists = refl;
  long_as = refl;
  copying = none_copied (Some c.args.self.now.store) (message_at c.args.self.now c.args.token.now.head) (nodes_at c.args.chains.now.lists c.args.head) c.args.chains.now.loads c.args.stored.now;
  kept = c.requires.kept;
}

module _ (c : In-loop-block) where
  abbrev k : ℕ
  k = c.loop-block._block

  abbrev m : Message
  m = message_at c.args.self.now c.args.token.now.head

  abbrev b : Block
  b = block_at c.self.inside.chains.loads c.loop-block.read

  few : k < c.args.token.now.blocks
  few = omega (arith, c.loop-block-test.true, c.blocks-block-end.ensures)

  -- the block that is copied at this step
  is_at : IsAt c.self.inside.data c.self.inside.chains.loads c.self.inside.chains.lists c.args.self.now c.args.token.now.head k c.loop-block.read (nodes_at c.self.inside.chains.lists c.args.token.now.head)
  is_at =
      block_reached c.self.invariant.filled c.self.view_is c.args.token.now.head k
      c.args.token.now refl c.requires.had c.loop-block.invariant.read few

  written_at : slice_get (nodes_at c.args.chains.now.lists c.args.head) k ≡ Some c.loop-block.written
  written_at = c.loop-block.invariant.written.here (omega (arith, few, c.requires.count))

  next : drop k m ≡ b ∷ drop (k + 1) m
  next = drop_from m k b is_at.block

  store_is : c.self.inside.data.store ≡ c.args.self.now.store
  store_is = ap (λ (a : Arena). a.store) c.self.view_is

  fits : is_ok (take_data (capacity_of c.args.self.now.store b.data_number) c.loop-block.stored.store) ≡ true
  fits =
      next_fits c.loop-block.invariant.copying b next c.requires.fit

written_there : (c : In-loop-block) → c.loop-block.written < length c.args.chains.now.lists.held
written_there c = c.loop-block.invariant.written.in_range (omega (arith, few c, c.requires.count))

pub fields_at-requires : goal.fields_at-requires
fields_at-requires c = (is_at (goal.at.fields_at-requires c).In-loop-block).there

read : (c : After-fields_at) → c.loop-block.read < length c.self.inside.chains.loads → c.fields_at.result ≡ fields_at c.self.inside.chains.loads c.loop-block.read
read c there = c.fields_at.ensures

pub take_copy-requires-clause-placed : goal.take_copy-requires-clause-placed
take_copy-requires-clause-placed c =
    let at = is_at (goal.at.take_copy-requires-clause-placed c).In-loop-block in
    subst (IsPlaced c.self.inside.data.store) (sym (read (goal.at.take_copy-requires-clause-placed c).After-fields_at at.there)) at.placed

pub take_copy-requires-clause-fits : goal.take_copy-requires-clause-fits
take_copy-requires-clause-fits c =
    let loop = (goal.at.take_copy-requires-clause-fits c).In-loop-block in
    subst (λ (p : DataStore × Fields). is_ok (take_data (capacity_of p.0 p.1.data_number) c.loop-block.stored.store) ≡ true)
    (λ i. (sym (store_is loop) i, sym (read (goal.at.take_copy-requires-clause-fits c).After-fields_at (is_at loop).there) i)) (fits loop)

pub onward-read-requires : goal.onward-read-requires
onward-read-requires c = omega (arith, (is_at (goal.at.onward-read-requires c).In-loop-block).there, c.self.invariant.filled.listed)

pub set_load-requires : goal.set_load-requires
set_load-requires c = omega (arith, written_there (goal.at.set_load-requires c).In-loop-block, c.requires.listed, c.loop-block.invariant.long_as)

pub onward-written-requires : goal.onward-written-requires
onward-written-requires c =
    omega (arith, written_there (goal.at.onward-written-requires c).In-loop-block, ap (λ (v : ChainLists). length v.held) (c.set_load.ensures.lists ∙ c.loop-block.invariant.lists))

pub loop-block-preserved : goal.loop-block-preserved
loop-block-preserved c =
    let loop = (goal.at.loop-block-preserved c).In-loop-block in
    let o = Some c.args.self.now.store in
    let lists = c.set_load.ensures.lists ∙ c.loop-block.invariant.lists in
    let at = is_at loop in
    let x = b loop in
    let d = c.take_copy.result.data_number in
    let said = read (goal.at.loop-block-preserved c).After-fields_at at.there in
    let says : c.take_copy.result ≡ fields_of (record x { data_number = d }) = c.take_copy.ensures.fields ∙ ap (λ (f : Fields). record f { data_number = d }) said in
    let leaves : c.take_copy.new.stored ≡ with_copy o x c.loop-block.stored d =
    c.take_copy.ensures.after c.loop-block.read ∙ (λ i. with_copy (Some (store_is loop i)) (block_of c.loop-block.read (said i)) c.loop-block.stored d) in
    let size : capacity_of c.self.inside.data.store c.fields_at.result.data_number ≡ capacity_of c.args.self.now.store x.data_number = λ i. capacity_of (store_is loop i) (said i).data_number in
    let copied =
    next_copied c.loop-block.invariant.copying
    x (next loop) d c.loop-block.written
    (ap (λ n. take_data n c.loop-block.stored.store) (sym size) ∙ c.take_copy.ensures.taken)
    c.take_copy.ensures.unused
    (omega (arith, size, c.take_copy.ensures.room))
    (omega (arith, at.placed.within, ap (λ s. capacity_of s x.data_number) (store_is loop))) at.placed.banded (written_at loop) in
    record {
      lists = lists;
      long_as = ap (λ (fields : List Fields). length fields) c.set_load.ensures.loads ∙ length-set c.loop-block.chains.loads c.loop-block.written c.take_copy.result ∙ c.loop-block.invariant.long_as;
      read = c.onward-read.ensures c.args.token.now.head c.loop-block._block c.loop-block.invariant.read;
      written = still_on lists c.onward-written.ensures c.args.head c.loop-block._block c.loop-block.invariant.written;
      copying =
          subst (λ (p : List Fields × CountedStore). IsCopying o (m loop) (nodes_at c.args.chains.now.lists c.args.head) (c.loop-block._block + 1) c.args.chains.now.loads p.0 c.args.stored.now p.1)
          (λ j. (sym (c.set_load.ensures.loads ∙ ap (set c.loop-block.chains.loads c.loop-block.written) says) j, sym leaves j)) copied;
      kept = c.take_copy.ensures.kept;
    }
