use Rattle.std.proofs.Common.{◌≡◌, Some, arith, ◌∙◌, ℕ, ◌+◌, ◌<◌, List, ap, length, length-set, set, subst, sym}
use Rattle.std.specs.Prelude.{slice_get, take}
use Rattle.strm_links.specs.ChainLists.{nodes_at, ChainLists}
use Rattle.strm_mblk.proofs.Lists.{slice_get-take, times_at}
use Rattle.strm_mblk.proofs.making.Duplicated.{all_copied, next_copying, IsCopying}
use Rattle.strm_mblk.specs.declared.blocks.Fields.{Fields}
use Rattle.strm_mblk.specs.BlocksLayout.{fields_at}
use Rattle.strm_mblk.proofs.layout.HeldBlocks.{still_on}
use Rattle.strm_mblk.proofs.blocks.duplicating.copy_fields.Goals.{After-set_load, In-loop-block}
use Rattle.strm_mblk.proofs.blocks.duplicating.copy_fields.Goals as goal
use Rattle.std.proofs.lemmas.Grind.{common_steps}

module _ (c : In-loop-block) where
  abbrev from : List ℕ
  from = nodes_at c.args.chains.now.lists c.args.from

  abbrev to : List ℕ
  to = nodes_at c.args.chains.now.lists c.args.to

  read_at : slice_get from c.loop-block._block ≡ Some c.loop-block.read
  read_at = c.loop-block.invariant.read.here (omega (arith, c.loop-block-test.true, c.requires.enough))

  written_at : slice_get to c.loop-block._block ≡ Some c.loop-block.written
  written_at = c.loop-block.invariant.written.here (omega (arith, c.loop-block-test.true, c.requires.count))

  read_there : c.loop-block.read < length c.args.chains.now.lists.held
  read_there = c.loop-block.invariant.read.in_range (omega (arith, c.loop-block-test.true, c.requires.enough))

  written_there : c.loop-block.written < length c.args.chains.now.lists.held
  written_there = c.loop-block.invariant.written.in_range (omega (arith, c.loop-block-test.true, c.requires.count))

pub fields_at-said-requires : goal.fields_at-said-requires
fields_at-said-requires c = omega (arith, read_there (goal.at.fields_at-said-requires c).In-loop-block, c.requires.blocks, c.loop-block.invariant.long_as)

pub set_load-requires : goal.set_load-requires
set_load-requires c = omega (arith, written_there (goal.at.set_load-requires c).In-loop-block, c.requires.blocks, c.loop-block.invariant.long_as)

-- as many message blocks as before
held_as : (c : After-set_load) → length c.set_load.new.self.lists.held ≡ length c.args.chains.now.lists.held
held_as c = ap (λ (v : ChainLists). length v.held) (c.set_load.ensures.lists ∙ c.loop-block.invariant.lists)

pub onward-read-requires : goal.onward-read-requires
onward-read-requires c = omega (arith, read_there (goal.at.onward-read-requires c).In-loop-block, held_as (goal.at.onward-read-requires c).After-set_load)

pub onward-written-requires : goal.onward-written-requires
onward-written-requires c = omega (arith, written_there (goal.at.onward-written-requires c).In-loop-block, held_as (goal.at.onward-written-requires c).After-set_load)

pub loop-block-preserved : goal.loop-block-preserved
loop-block-preserved c =
    let at = (goal.at.loop-block-preserved c).In-loop-block in
    let inv = c.loop-block.invariant in
    let lists = c.set_load.ensures.lists ∙ inv.lists in
    let loads : c.set_load.new.self.loads ≡ set c.loop-block.chains.loads c.loop-block.written (fields_at c.loop-block.chains.loads c.loop-block.read) =
    c.set_load.ensures.loads ∙ ap (set c.loop-block.chains.loads c.loop-block.written) c.fields_at-said.ensures in
    record {
      lists = lists;
      long_as = ap (λ (fields : List Fields). length fields) c.set_load.ensures.loads ∙ length-set c.loop-block.chains.loads c.loop-block.written c.fields_at-said.result ∙ inv.long_as;
      read = still_on lists c.onward-read.ensures c.args.from c.loop-block._block inv.read;
      written = still_on lists c.onward-written.ensures c.args.to c.loop-block._block inv.written;
      copying =
          subst (IsCopying (take c.args.count (from at)) (to at) (c.loop-block._block + 1) c.args.chains.now.loads) (sym loads)
          (next_copying inv.copying
          (slice_get-take c.args.count c.loop-block._block (from at) c.loop-block-test.true ∙ read_at at) (written_at at)
          (omega (arith, c.requires.apart c.loop-block.read, times_at c.loop-block.read (from at) c.loop-block._block (read_at at))));
    }

pub returns : goal.returns
returns c = record { lists = c.loop-block.invariant.lists; loads = grind (arith, common_steps, all_copied) }
