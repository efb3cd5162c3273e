use Rattle.std.proofs.Common.{◌≡◌, ◌+◌, ◌-◌, ◌⊎◌, true, Some, ap, sym, subst, ◌∙◌, inl, inr, arith}
use Rattle.std.specs.Prelude.{not, slice_get}
use Rattle.std.proofs.lemmas.Bool.{not-false, not-true}
use Rattle.std.proofs.lemmas.List.{drop_all}
use Rattle.strm_data.specs.MsgType.{same_kind}
use Rattle.strm_mblk.specs.Block.{kind_of}
use Rattle.strm_mblk.specs.BlocksLayout.{block_at}
use Rattle.strm_mblk.specs.Cutting.{run_with}
use Rattle.strm_links.specs.ChainLists.{nodes_at}
use Rattle.strm_mblk.proofs.layout.HeldBlocks.{nodes_room}
use Rattle.strm_mblk.proofs.Trimming.{IsMeasured, all_measured, first_measured, next_measured, next_small, other_measured}
use Rattle.strm_mblk.proofs.blocks.trimming.run_in.Goals.{In-loop-block, else-not-from_tail-via-else-not-from_tail, else-not-from_tail-via-then-not-from_tail+else-ne}
use Rattle.strm_mblk.specs.declared.blocks.Fields.{Fields}
use Rattle.strm_data.specs.DataStore.{data_block_at}
use Rattle.strm_mblk.proofs.blocks.trimming.run_in.Goals as goal
use Rattle.std.proofs.lemmas.Grind.{common_steps}

pub loop-block-init : goal.loop-block-init
loop-block-init c = grind (arith, common_steps, nodes_room, first_measured)

-- the block of this step
here : (c : In-loop-block) → slice_get (nodes_at c.args.chains.now.lists c.args.head) c.loop-block.block ≡ Some c.loop-block.node
here c = c.loop-block.invariant.at.here (omega (arith, c.loop-block-test.true, c.requires.count))

pub returns : goal.returns
returns c = grind (arith, common_steps, all_measured, drop_all)

pub returns-then-ne : goal.returns-then-ne
unfolding same_kind
returns-then-ne c =
    let inv = c.loop-block.invariant in
    other_measured c.args.from_tail c.args.stored.now.store c.args.chains.now.loads (nodes_at c.args.chains.now.lists c.args.head) inv.measured
    (here (goal.at.returns-then-ne c).In-loop-block) c.if-not-from_tail.true (not-true _ (sym (c.ne.ensures ∙ ap (λ k. not (same_kind k c.loop-block.run.kind)) (c.kind-kind.ensures ∙ ap (λ (f : Fields). (data_block_at c.args.stored.now.store f.data_number).kind) c.fields_at-fields.ensures)) ∙ c.if-ne.true))

pub with-run-requires : goal.with-run-requires
with-run-requires c = grind (arith, common_steps, next_small, here)

pub loop-block-preserved : goal.loop-block-preserved
unfolding same_kind
loop-block-preserved c =
    let inv = c.loop-block.invariant in
    let ns = nodes_at c.args.chains.now.lists c.args.head in
    let s = c.args.stored.now.store in
    let b = block_at c.args.chains.now.loads c.loop-block.node in
    let kind = c.kind-kind.ensures ∙ ap (λ (f : Fields). (data_block_at s f.data_number).kind) c.fields_at-fields.ensures in
    let goes : (c.args.from_tail ≡ true) ⊎ (same_kind (kind_of s b) c.loop-block.run.kind ≡ true) =
    elim c.else-not-from_tail.branch [
      | else-not-from_tail-via-then-not-from_tail+else-ne w ↦
          inr (not-false _ (sym (w.ne.ensures ∙ ap (λ k. not (same_kind k c.loop-block.run.kind)) kind) ∙ w.if-ne.false))
      | else-not-from_tail-via-else-not-from_tail w ↦ inl w.if-not-from_tail.false
    ] in
    record {
      at = c.onward-node.ensures c.args.head c.loop-block.block inv.at;
      measured =
          subst (IsMeasured c.args.from_tail s c.args.chains.now.loads ns (c.loop-block.block + 1)) (sym (c.with-run.ensures ∙ (λ i. run_with c.loop-block.node (c.requires.count i - c.loop-block.block) (kind i) (c.fields_at-fields.ensures i).len c.loop-block.run)))
          (next_measured c.args.from_tail s c.args.chains.now.loads ns inv.measured (here (goal.at.loop-block-preserved c).In-loop-block) goes);
    }
