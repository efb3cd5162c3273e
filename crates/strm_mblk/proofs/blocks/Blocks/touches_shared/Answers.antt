use Rattle.std.proofs.Common.{◌≡◌, ◌-◌, ◌+◌, ◌<◌, ◌≤◌, false, ◌&&◌, ◌||◌, drop, length, refl, sym, ap, ◌∙◌, arith, subst}
use Rattle.std.specs.Prelude.{min, nat_lt}
use Rattle.std.proofs.lemmas.Bool.{le-ltb, lt-ltb}
use Rattle.strm_data.specs.CountedStore.{count_of}
use Rattle.strm_mblk.specs.declared.blocks.Fields.{Fields}
use Rattle.strm_mblk.specs.Arena.{message_at, references_to}
use Rattle.strm_mblk.specs.BlocksLayout.{block_at, fields_at}
use Rattle.strm_mblk.specs.InPlace.{bytes_within, touches_shared}
use Rattle.strm_links.specs.ChainLists.{nodes_at}
use Rattle.strm_mblk.proofs.Altering.{and_false, touches_next, touches_nothing}
use Rattle.strm_mblk.proofs.layout.HeldBlocks.{IsAt, block_reached, reached_head}
use Rattle.strm_mblk.proofs.Reading.{past_last}
use Rattle.strm_mblk.proofs.blocks.Blocks.touches_shared.Goals.{else-here-gt0-via-then-here-gt0+else-count-gt1, else-here-gt0-via-else-here-gt0, In-loop-block, After-min-here}
use Rattle.strm_mblk.proofs.blocks.Blocks.touches_shared.Goals as goal

pub loop-block-init : goal.loop-block-init
loop-block-init c = record {
  at =
      reached_head c.self.invariant.filled c.self.view_is c.args.token.now c.requires c.head-node.ensures;
  rest = refl;
}

is_at : (c : In-loop-block) → IsAt c.self.inside.data c.self.inside.chains.loads c.self.inside.chains.lists c.args.self.now c.args.token.now.head c.loop-block._block c.loop-block.node (nodes_at c.self.inside.chains.lists c.args.token.now.head)
is_at c =
    block_reached c.self.invariant.filled c.self.view_is c.args.token.now.head c.loop-block._block
    c.args.token.now refl c.requires c.loop-block.invariant.at (omega (arith, c.loop-block-test.true, c.blocks-block-end.ensures))

pub fields_at-fields-requires : goal.fields_at-fields-requires
fields_at-fields-requires c = omega (arith, (is_at (goal.at.fields_at-fields-requires c).In-loop-block).there)

module _ (c : After-min-here) (at : IsAt c.self.inside.data c.self.inside.chains.loads c.self.inside.chains.lists c.args.self.now c.args.token.now.head c.loop-block._block c.loop-block.node (nodes_at c.self.inside.chains.lists c.args.token.now.head)) where
  read : c.fields_at-fields.result ≡ fields_at c.self.inside.chains.loads c.loop-block.node
  read = c.fields_at-fields.ensures

  -- how many of the bytes are in the block
  here : c.min-here.result ≡ bytes_within c.loop-block.skip c.loop-block.left (block_at c.self.inside.chains.loads c.loop-block.node)
  here = c.min-here.ensures ∙ ap (min c.loop-block.left) (c.saturating_sub.ensures ∙ ap (λ (f : Fields). f.len - c.loop-block.skip) read)

  next : touches_shared c.args.self.now c.args.at c.args.count (message_at c.args.self.now c.args.token.now.head)
      ≡ ((nat_lt 0 c.min-here.result && nat_lt 1 (references_to c.args.self.now (fields_at c.self.inside.chains.loads c.loop-block.node).data_number))
      || touches_shared c.args.self.now (c.loop-block.skip - (fields_at c.self.inside.chains.loads c.loop-block.node).len) (c.loop-block.left - c.min-here.result) (drop (c.loop-block._block + 1) (message_at c.args.self.now c.args.token.now.head)))
  next =
      c.loop-block.invariant.rest
      ∙ touches_next (message_at c.args.self.now c.args.token.now.head) c.loop-block._block at.block c.args.self.now c.loop-block.skip c.loop-block.left
      ∙ ap (λ n. (nat_lt 0 n && nat_lt 1 (references_to c.args.self.now (fields_at c.self.inside.chains.loads c.loop-block.node).data_number))
      || touches_shared c.args.self.now (c.loop-block.skip - (fields_at c.self.inside.chains.loads c.loop-block.node).len) (c.loop-block.left - n) (drop (c.loop-block._block + 1) (message_at c.args.self.now c.args.token.now.head)))
      (sym here)

pub returns-then-left-eq0 : goal.returns-then-left-eq0
returns-then-left-eq0 c =
    let behind = drop c.loop-block._block (message_at c.args.self.now c.args.token.now.head) in
    sym (c.loop-block.invariant.rest ∙ ap (λ n. touches_shared c.args.self.now c.loop-block.skip n behind) c.if-left-eq0.true ∙ touches_nothing c.args.self.now c.loop-block.skip behind)

pub count-requires : goal.count-requires
count-requires c =
    let at = is_at (goal.at.count-requires c).In-loop-block in
    subst (λ (f : Fields). f.data_number < length c.self.inside.data.store.blocks) (sym (read (goal.at.count-requires c).After-min-here at)) at.placed.there

pub returns-then-count-gt1 : goal.returns-then-count-gt1
returns-then-count-gt1 c =
    let at = is_at (goal.at.returns-then-count-gt1 c).In-loop-block in
    let before = (goal.at.returns-then-count-gt1 c).After-min-here in
    let f = fields_at c.self.inside.chains.loads c.loop-block.node in
    let rest = touches_shared c.args.self.now (c.loop-block.skip - f.len) (c.loop-block.left - c.min-here.result) (drop (c.loop-block._block + 1) (message_at c.args.self.now c.args.token.now.head)) in
    let counted : c.count.result ≡ references_to c.args.self.now f.data_number = c.count.ensures ∙ ap (λ (g : Fields). count_of c.self.inside.data g.data_number) (read before at) ∙ at.named in
    let many : 1 < references_to c.args.self.now f.data_number = omega (arith, c.if-count-gt1.true, counted) in
    sym (next before at ∙ ap (λ p. (p && nat_lt 1 (references_to c.args.self.now f.data_number)) || rest) (lt-ltb 0 _ c.if-here-gt0.true) ∙ ap (λ p. p || rest) (lt-ltb 1 _ many))

pub onward-node-requires : goal.onward-node-requires
onward-node-requires c = omega (arith, (is_at (goal.at.onward-node-requires c).In-loop-block).there, c.self.invariant.filled.listed)

pub loop-block-preserved : goal.loop-block-preserved
loop-block-preserved c =
    let at = is_at (goal.at.loop-block-preserved c).In-loop-block in
    let before = (goal.at.loop-block-preserved c).After-min-here in
    let f = fields_at c.self.inside.chains.loads c.loop-block.node in
    let behind = drop (c.loop-block._block + 1) (message_at c.args.self.now c.args.token.now.head) in
    let left = c.loop-block.left - c.min-here.result in
    let none : (nat_lt 0 c.min-here.result && nat_lt 1 (references_to c.args.self.now f.data_number)) ≡ false =
    elim c.else-here-gt0.branch [
      | else-here-gt0-via-then-here-gt0+else-count-gt1 w ↦
          let counted : w.count.result ≡ references_to c.args.self.now f.data_number = w.count.ensures ∙ ap (λ (g : Fields). count_of c.self.inside.data g.data_number) (read before at) ∙ at.named in
          let few : references_to c.args.self.now f.data_number ≤ 1 = omega (arith, w.if-count-gt1.false, counted) in
          ap (λ p. nat_lt 0 c.min-here.result && p) (le-ltb 1 _ few) ∙ and_false (nat_lt 0 c.min-here.result)
      | else-here-gt0-via-else-here-gt0 w ↦ ap (λ p. p && nat_lt 1 (references_to c.args.self.now f.data_number)) (le-ltb 0 _ w.if-here-gt0.false)
    ] in
    record {
      at = c.onward-node.ensures c.args.token.now.head c.loop-block._block c.loop-block.invariant.at;
      rest =
          next before at ∙ ap (λ p. p || touches_shared c.args.self.now (c.loop-block.skip - f.len) left behind) none
          ∙ ap (λ n. touches_shared c.args.self.now n left behind) (sym (c.saturating_sub-skip.ensures ∙ ap (λ (g : Fields). c.loop-block.skip - g.len) (read before at)));
    }

pub returns : goal.returns
returns c =
    sym (c.loop-block.invariant.rest
    ∙ ap (touches_shared c.args.self.now c.loop-block.skip c.loop-block.left)
    (past_last c.self.invariant.filled c.self.view_is c.args.token.now c.requires
    c.loop-block._block (omega (arith, c.loop-block-test.false, c.blocks-block-end.ensures))))
