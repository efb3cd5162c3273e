use Rattle.std.proofs.Common.{◌≡◌, ℕ, ◌+◌, Some, length-set, set, ◌∙◌, subst, arith, ◌<◌, ◌^◌, ◌-◌, List, ap, length, sym}
use Rattle.std.specs.Prelude.{drop, slice_get}
use Rattle.strm_mblk.specs.Cutting.{with_bytes_cut, fields_cut}
use Rattle.strm_links.specs.ChainLists.{nodes_at, ChainLists}
use Rattle.strm_mblk.specs.BlocksLayout.{IsReached, fields_at}
use Rattle.strm_mblk.proofs.Trimming.{cut_next, cut_none, cut_small}
use Rattle.strm_mblk.proofs.blocks.trimming.cut.Goals.{After-onward-node, In-loop-block}
use Rattle.strm_mblk.specs.declared.blocks.Fields.{Fields}
use Rattle.strm_mblk.proofs.layout.HeldBlocks.{still_on}
use Rattle.strm_mblk.proofs.blocks.trimming.cut.Goals as goal
use Rattle.std.proofs.lemmas.Grind.{common_steps}

pub returns-then-not-from_tail : goal.returns-then-not-from_tail
returns-then-not-from_tail c = record { lists = c.loop-block.invariant.lists; loads = λ h i at count. grind (arith, common_steps, cut_none) }

module _ (c : In-loop-block) where
  there : c.loop-block.node < length c.args.chains.now.lists.held
  there = c.loop-block.invariant.in_range c.loop-block-test.true

pub fields_at-fields-requires : goal.fields_at-fields-requires
fields_at-fields-requires c = omega (arith, there (goal.at.fields_at-fields-requires c).In-loop-block, c.requires.blocks, c.loop-block.invariant.many)

pub cut-requires : goal.cut-requires
cut-requires c =
    subst (λ (f : Fields). f.offset + f.len < 2 ^ 32) (sym c.fields_at-fields.ensures)
    (c.loop-block.invariant.small c.loop-block.node (omega (arith, there (goal.at.cut-requires c).In-loop-block, c.requires.blocks, c.loop-block.invariant.many)))

pub set_load-requires : goal.set_load-requires
set_load-requires c = omega (arith, there (goal.at.set_load-requires c).In-loop-block, c.requires.blocks, c.loop-block.invariant.many)

pub onward-node-requires : goal.onward-node-requires
onward-node-requires c = omega (arith, there (goal.at.onward-node-requires c).In-loop-block, ap (λ (v : ChainLists). length v.held) (c.set_load.ensures.lists ∙ c.loop-block.invariant.lists))

-- the walk goes on
on : (c : After-onward-node) → (h i : ℕ) → slice_get (nodes_at c.args.chains.now.lists h) i ≡ Some c.args.first → IsReached c.args.chains.now.lists h (i + (c.loop-block._block + 1)) c.onward-node.result
on c h i at =
    subst (λ k. IsReached c.args.chains.now.lists h k c.onward-node.result) (let e : i + c.loop-block._block + 1 ≡ i + (c.loop-block._block + 1) = omega arith in e)
    (still_on (c.set_load.ensures.lists ∙ c.loop-block.invariant.lists) c.onward-node.ensures h (i + c.loop-block._block) (c.loop-block.invariant.at h i at))

pub loop-block-preserved : goal.loop-block-preserved
loop-block-preserved c =
    let inv = c.loop-block.invariant in
    let n = c.loop-block.node in
    let now = c.loop-block.chains.loads in
    let on = on (goal.at.loop-block-preserved c).After-onward-node in
    let tail = c.requires.tail in
    let cut : c.cut.result ≡ fields_cut c.args.from_tail c.loop-block.left (fields_at now n) = c.cut.ensures ∙ ap (fields_cut c.args.from_tail c.loop-block.left) c.fields_at-fields.ensures in
    let loads : c.set_load.new.self.loads ≡ set now n (fields_cut c.args.from_tail c.loop-block.left (fields_at now n)) = c.set_load.ensures.loads ∙ ap (set now n) cut in
    let left : c.saturating_sub-left.result ≡ c.loop-block.left - (fields_at now n).len = c.saturating_sub-left.ensures ∙ ap (λ (f : Fields). c.loop-block.left - f.len) c.fields_at-fields.ensures in
    record {
      lists = c.set_load.ensures.lists ∙ inv.lists;
      at = on;
      after = λ h i at count.
          let ns = nodes_at c.args.chains.now.lists h in
          let e : i + (c.loop-block._block + 1) ≡ i + c.loop-block._block + 1 = omega arith in
          (λ j. with_bytes_cut c.args.from_tail (left j) (drop (e j) ns) (loads j))
          ∙ cut_next c.args.from_tail c.loop-block.left ns (i + c.loop-block._block) now ((inv.at h i at).here (omega (arith, c.loop-block-test.true, count))) ∙ inv.after h i at count;
      in_range = λ more. (on tail.head tail.place tail.at).in_range (omega (arith, more, tail.len));
      many = ap (λ (fields : List Fields). length fields) c.set_load.ensures.loads ∙ length-set now n c.cut.result ∙ inv.many;
      small =
          subst (λ (fields : List Fields). (k : ℕ) → k < length fields → (fields_at fields k).offset + (fields_at fields k).len < 2 ^ 32) (sym c.set_load.ensures.loads)
          (cut_small c.args.from_tail c.loop-block.left n now inv.small cut);
    }
