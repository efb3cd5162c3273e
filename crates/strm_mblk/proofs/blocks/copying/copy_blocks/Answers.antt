use Rattle.std.proofs.Common.{◌≡◌, ℕ, ◌∷◌, ◌+◌, ◌<◌, ap, sym, ◌∙◌, subst, arith, List, None, Some, true, length, set, length-set}
use Rattle.std.specs.Prelude.{drop, slice_get, take}
use Rattle.std.specs.Result.{is_ok}
use Rattle.strm_data.specs.CountedStore.{CountedStore}
use Rattle.strm_data.specs.DataStore.{capacity_of, take_data}
use Rattle.strm_mblk.specs.declared.blocks.Fields.{Fields}
use Rattle.strm_mblk.specs.Block.{Block}
use Rattle.strm_mblk.specs.BlocksLayout.{IsPlaced, block_at, block_of, fields_at, fields_of, message_of}
use Rattle.strm_mblk.specs.Copying.{with_copy}
use Rattle.strm_links.specs.ChainLists.{nodes_at, ChainLists}
use Rattle.strm_mblk.proofs.making.CopiesCounted.{next_block}
use Rattle.strm_mblk.proofs.making.Copied.{IsCopying, next_copied, next_fits, none_copied, source_stays}
use Rattle.strm_mblk.proofs.layout.HeldBlocks.{nodes_room, still_on}
use Rattle.strm_mblk.proofs.Lists.{times_at}
use Rattle.strm_mblk.proofs.layout.Rooms.{placed-over}
use Rattle.strm_mblk.proofs.blocks.copying.copy_blocks.Goals.{After-fields_at, After-set_load, In-loop-block}
use Rattle.strm_mblk.proofs.blocks.copying.copy_blocks.Goals as goal
use Rattle.std.proofs.lemmas.Grind.{common_steps}

pub loop-block-init : goal.loop-block-init
loop-block-init c = grind (arith, common_steps, nodes_room, none_copied)

module _ (c : In-loop-block) where
  -- the blocks that are copied
  abbrev bs : List Block
  bs = take c.args.count (message_of c.args.chains.now.loads (nodes_at c.args.chains.now.lists c.args.from))

  abbrev of : ℕ
  of = c.loop-block.read

  read_at : slice_get (nodes_at c.args.chains.now.lists c.args.from) c.loop-block._block ≡ Some of
  read_at = c.loop-block.invariant.read.here (omega (arith, c.loop-block-test.true, c.requires.enough))

  written_at : slice_get (nodes_at c.args.chains.now.lists c.args.into) c.loop-block._block ≡ Some c.loop-block.written
  written_at = c.loop-block.invariant.written.here (omega (arith, c.loop-block-test.true, c.requires.count))

  -- the block of this step, and those after it
  next : drop c.loop-block._block bs ≡ block_at c.args.chains.now.loads of ∷ drop (c.loop-block._block + 1) bs
  next = next_block c.args.chains.now.loads (nodes_at c.args.chains.now.lists c.args.from) c.args.count c.loop-block._block c.loop-block-test.true read_at

  -- it says what it said before
  said : fields_at c.loop-block.chains.loads of ≡ fields_at c.args.chains.now.loads of
  said =
      source_stays c.loop-block.invariant.copying of
      (omega (arith, c.requires.apart of, times_at of (nodes_at c.args.chains.now.lists c.args.from) c.loop-block._block read_at))

  there : of < length c.args.chains.now.loads
  there = omega (arith, c.requires.listed, c.loop-block.invariant.read.in_range (omega (arith, c.loop-block-test.true, c.requires.enough)))

  placed : IsPlaced c.loop-block.stored.store (fields_at c.args.chains.now.loads of)
  placed = grind (arith, common_steps, placed-over, there)

  written_there : c.loop-block.written < length c.args.chains.now.lists.held
  written_there = c.loop-block.invariant.written.in_range (omega (arith, c.loop-block-test.true, c.requires.count))

pub fields_at-requires : goal.fields_at-requires
fields_at-requires c = omega (arith, there (goal.at.fields_at-requires c).In-loop-block, c.loop-block.invariant.long_as)

-- what the code read
module _ (c : After-fields_at) where
  abbrev loop : In-loop-block
  loop = (goal.at.After-fields_at c).In-loop-block

  read : c.fields_at.result ≡ fields_at c.args.chains.now.loads c.loop-block.read
  read = c.fields_at.ensures ∙ said loop

pub copy_data-requires-clause-placed : goal.copy_data-requires-clause-placed
copy_data-requires-clause-placed c = let at = (goal.at.copy_data-requires-clause-placed c).After-fields_at in subst (IsPlaced c.loop-block.stored.store) (sym (read at)) (placed (loop at))

pub copy_data-requires-clause-fits : goal.copy_data-requires-clause-fits
copy_data-requires-clause-fits c =
    let at = (goal.at.copy_data-requires-clause-fits c).After-fields_at in
    subst (λ (f : Fields). is_ok (take_data (capacity_of c.loop-block.stored.store f.data_number) c.loop-block.stored.store) ≡ true) (sym (read at))
    (next_fits c.loop-block.invariant.copying
    (block_at c.args.chains.now.loads c.loop-block.read) (next (loop at)) c.requires.fit)

pub set_load-requires : goal.set_load-requires
set_load-requires c = omega (arith, written_there (goal.at.set_load-requires c).In-loop-block, c.requires.listed, c.loop-block.invariant.long_as)

-- as many message blocks as before
held_as : (c : After-set_load) → length c.set_load.new.self.lists.held ≡ length c.args.chains.now.lists.held
held_as c = ap (λ (v : ChainLists). length v.held) (c.set_load.ensures.lists ∙ c.loop-block.invariant.lists)

pub onward-read-requires : goal.onward-read-requires
onward-read-requires c = omega (arith, there (goal.at.onward-read-requires c).In-loop-block, c.requires.listed, held_as (goal.at.onward-read-requires c).After-set_load)

pub onward-written-requires : goal.onward-written-requires
onward-written-requires c = omega (arith, written_there (goal.at.onward-written-requires c).In-loop-block, held_as (goal.at.onward-written-requires c).After-set_load)

pub loop-block-preserved : goal.loop-block-preserved
loop-block-preserved c =
    let at = (goal.at.loop-block-preserved c).After-fields_at in
    let before = loop at in
    let said = read at in
    let inv = c.loop-block.invariant in
    let now = c.loop-block.chains.loads in
    let d = c.copy_data.result.data_number in
    let b = block_at c.args.chains.now.loads c.loop-block.read in
    let says : c.copy_data.result ≡ fields_of (record b { data_number = d }) = c.copy_data.ensures.fields ∙ ap (λ (f : Fields). record f { data_number = d }) said in
    let leaves : c.copy_data.new.stored ≡ with_copy None b c.loop-block.stored d =
    c.copy_data.ensures.after c.loop-block.read ∙ ap (λ (f : Fields). with_copy None (block_of c.loop-block.read f) c.loop-block.stored d) said in
    let lists = c.set_load.ensures.lists ∙ inv.lists in
    let copied =
    next_copied inv.copying
    b (next before) d c.loop-block.written
    (ap (λ (f : Fields). take_data (capacity_of c.loop-block.stored.store f.data_number) c.loop-block.stored.store) (sym said) ∙ c.copy_data.ensures.taken)
    c.copy_data.ensures.unused
    (omega (arith, ap (λ (f : Fields). capacity_of c.loop-block.stored.store f.data_number) said, c.copy_data.ensures.room))
    (placed before).within (placed before).banded (written_at before) in
    record {
      lists = lists;
      long_as = ap (λ (fields : List Fields). length fields) c.set_load.ensures.loads ∙ length-set now c.loop-block.written c.copy_data.result ∙ inv.long_as;
      read = still_on lists c.onward-read.ensures c.args.from c.loop-block._block inv.read;
      written = still_on lists c.onward-written.ensures c.args.into c.loop-block._block inv.written;
      copying =
          subst (λ (p : List Fields × CountedStore). IsCopying None (bs before) (nodes_at c.args.chains.now.lists c.args.into) (c.loop-block._block + 1) c.args.chains.now.loads p.0 c.args.stored.now p.1)
          (λ j. (sym (c.set_load.ensures.loads ∙ ap (set now c.loop-block.written) says) j, sym leaves j)) copied;
      kept = c.copy_data.ensures.kept;
    }
