use Rattle.std.proofs.Common.{◌≡◌, ◌<◌, ℕ, ◌+◌, List, Some, arith, ◌∙◌, sym, subst, ap}
use Rattle.std.proofs.lemmas.Grind.{common_steps}
use Rattle.std.specs.Prelude.{slice_get, take}
use Rattle.strm_mblk.specs.declared.blocks.Fields.{Fields}
use Rattle.strm_mblk.specs.BlocksLayout.{fields_at, data_used_by}
use Rattle.strm_links.specs.ChainLists.{nodes_at}
use Rattle.strm_mblk.proofs.Lists.{slice_get-take}
use Rattle.strm_mblk.proofs.Freeing.{IsDropping, named-get, next_dropping, next_used, start_dropping}
use Rattle.strm_mblk.proofs.blocks.freeing.drop_references.Goals.{In-loop-block}
use Rattle.strm_data.specs.CountedStore.{count_of, without_reference}
use Rattle.strm_mblk.proofs.blocks.freeing.drop_references.Goals as goal

-- the data blocks whose references are dropped
abbrev names : (fields : List Fields) (ns : List ℕ) (count : ℕ) → List ℕ
names fields ns count = take count (data_used_by fields ns)

-- a block of the message uses one of them
at_block : (fields : List Fields) (ns : List ℕ) (count i : ℕ) {n : ℕ} → i < count → slice_get ns i ≡ Some n → slice_get (names fields ns count) i ≡ Some (fields_at fields n).data_number
at_block fields ns count i within is = slice_get-take count i _ within ∙ named-get fields ns i is

-- ---- the first block

pub drop_name-requires-clause-used : goal.drop_name-requires-clause-used
drop_name-requires-clause-used c =
    subst (λ (f : Fields). 0 < count_of c.args.stored.now f.data_number) (sym c.fields_at.ensures)
    (next_used (start_dropping _ c.args.stored.now c.requires.named) (at_block c.args.chains.now.loads _ c.args.count 0 (omega (arith, c.if-count-eq0.false)) c.requires.begun))

pub loop-block-init : goal.loop-block-init
loop-block-init c =
    let ds = names c.args.chains.now.loads (nodes_at c.args.chains.now.lists c.args.head) c.args.count in
    let next : IsDropping ds 1 c.args.stored.now c.drop_name.new.self =
    subst (IsDropping ds 1 c.args.stored.now) (sym (c.drop_name.ensures.after ∙ ap (λ (f : Fields). without_reference f.data_number c.args.stored.now) c.fields_at.ensures))
    (next_dropping (start_dropping ds _ c.requires.named) (at_block c.args.chains.now.loads _ c.args.count 0 (omega (arith, c.if-count-eq0.false)) c.requires.begun)) in
    record {
      at = c.onward-node.ensures c.args.head 0 (record { here = λ _. c.requires.begun; in_range = λ _. grind (arith, common_steps) });
      after = next.after;
      named = next.named;
      many = next.many;
      kept = c.drop_name.ensures.kept;
    }

-- ---- each further one

module _ (c : In-loop-block) where
  abbrev ds : List ℕ
  ds = names c.args.chains.now.loads (nodes_at c.args.chains.now.lists c.args.head) c.args.count

  -- the data block of this step
  abbrev d : ℕ
  d = (fields_at c.args.chains.now.loads c.loop-block.node).data_number

  -- those of the first blocks are gone
  dropping : IsDropping ds c.loop-block._block c.args.stored.now c.loop-block.stored
  dropping = record { after = c.loop-block.invariant.after; named = c.loop-block.invariant.named; many = c.loop-block.invariant.many }

  -- the next to be dropped is that of this step
  named_at : slice_get ds c.loop-block._block ≡ Some d
  named_at = at_block c.args.chains.now.loads _ c.args.count c.loop-block._block c.loop-block-test.true (c.loop-block.invariant.at.here (omega (arith, c.loop-block-test.true, c.requires.count)))

pub drop_name-requires-in-loop-block-clause-used : goal.drop_name-requires-in-loop-block-clause-used
drop_name-requires-in-loop-block-clause-used c = grind (arith, common_steps, next_used, dropping, named_at)

pub loop-block-preserved : goal.loop-block-preserved
loop-block-preserved c =
    let at = (goal.at.loop-block-preserved c).In-loop-block in
    let next : IsDropping (ds at) (c.loop-block._block + 1) c.args.stored.now c.drop_name-in-loop-block.new.self =
    subst (IsDropping (ds at) (c.loop-block._block + 1) c.args.stored.now) (sym (c.drop_name-in-loop-block.ensures.after ∙ ap (λ (f : Fields). without_reference f.data_number c.loop-block.stored) c.fields_at-in-loop-block.ensures))
    (next_dropping (dropping at) (named_at at)) in
    record {
      at = c.onward-node-in-loop-block.ensures c.args.head c.loop-block._block c.loop-block.invariant.at;
      after = next.after;
      named = next.named;
      many = next.many;
      kept = c.drop_name-in-loop-block.ensures.kept;
    }
