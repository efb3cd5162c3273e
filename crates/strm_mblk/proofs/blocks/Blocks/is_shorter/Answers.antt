use Rattle.std.proofs.Common.{◌≡◌, ℕ, ◌+◌, drop, refl, sym, ap, ◌∙◌, inl, inr, arith}
use Rattle.std.specs.Prelude.{nat_lt}
use Rattle.std.proofs.lemmas.Bool.{cases_lt, le-ltb, lt-ltb}
use Rattle.strm_mblk.specs.declared.blocks.Fields.{Fields}
use Rattle.strm_mblk.specs.Arena.{message_at}
use Rattle.strm_mblk.specs.Block.{Block, size_of}
use Rattle.strm_mblk.specs.BlocksLayout.{fields_at}
use Rattle.strm_links.specs.ChainLists.{nodes_at}
use Rattle.strm_mblk.proofs.layout.HeldBlocks.{IsAt, block_reached, reached_head}
use Rattle.strm_mblk.proofs.Reading.{past_last, sum_from}
use Rattle.strm_mblk.proofs.blocks.Blocks.is_shorter.Goals.{In-loop-block}
use Rattle.strm_mblk.proofs.blocks.Blocks.is_shorter.Goals as goal

-- a message has fewer bytes if some are left
same : (size count left : ℕ) → size + left ≡ count + 0 → nat_lt 0 left ≡ nat_lt size count
same size count left is =
    elim (cases_lt 0 left) [
      | inl some ↦ lt-ltb 0 left some ∙ sym (lt-ltb size count (omega (arith, is, some)))
      | inr none ↦ le-ltb 0 left none ∙ sym (le-ltb size count (omega (arith, is, none)))
    ]

pub loop-block-init : goal.loop-block-init
loop-block-init c = record {
  at =
      reached_head c.self.invariant.filled c.self.view_is c.args.token.now c.requires c.head-node.ensures;
  rest = omega arith;
}

is_at : (c : In-loop-block) → IsAt c.self.inside.data c.self.inside.chains.loads c.self.inside.chains.lists c.args.self.now c.args.token.now.head c.loop-block._block c.loop-block.node (nodes_at c.self.inside.chains.lists c.args.token.now.head)
is_at c =
    block_reached c.self.invariant.filled c.self.view_is c.args.token.now.head c.loop-block._block
    c.args.token.now refl c.requires c.loop-block.invariant.at (omega (arith, c.loop-block-test.true, c.blocks-block-end.ensures))

module _ (c : In-loop-block) {f : Fields} (read : f ≡ fields_at c.self.inside.chains.loads c.loop-block.node) where
  -- the bytes from this block on are those in it, and those of the blocks after it
  bytes : size_of (drop c.loop-block._block (message_at c.args.self.now c.args.token.now.head)) ≡ f.len + size_of (drop (c.loop-block._block + 1) (message_at c.args.self.now c.args.token.now.head))
  bytes =
      sum_from (λ (b : Block). b.len) (message_at c.args.self.now c.args.token.now.head) c.loop-block._block (is_at c).block
      ∙ ap (λ (g : Fields). g.len + size_of (drop (c.loop-block._block + 1) (message_at c.args.self.now c.args.token.now.head))) (sym read)

pub fields_at-len-requires : goal.fields_at-len-requires
fields_at-len-requires c = omega (arith, (is_at (goal.at.fields_at-len-requires c).In-loop-block).there)

pub returns-then-left-len : goal.returns-then-left-len
returns-then-left-len c =
    let before = (goal.at.returns-then-left-len c).In-loop-block in
    let read = c.fields_at-len.ensures in
    sym (le-ltb (size_of (message_at c.args.self.now c.args.token.now.head)) c.args.count (omega (arith, c.loop-block.invariant.rest, bytes before read, c.if-left-len.true)))

pub onward-node-requires : goal.onward-node-requires
onward-node-requires c = omega (arith, (is_at (goal.at.onward-node-requires c).In-loop-block).there, c.self.invariant.filled.listed)

pub loop-block-preserved : goal.loop-block-preserved
loop-block-preserved c =
    let before = (goal.at.loop-block-preserved c).In-loop-block in
    let read = c.fields_at-len.ensures in
    record {
      at = c.onward-node.ensures c.args.token.now.head c.loop-block._block c.loop-block.invariant.at;
      rest = omega (arith, c.loop-block.invariant.rest, bytes before read, c.if-left-len.false);
    }

pub returns : goal.returns
returns c =
    let none = past_last c.self.invariant.filled c.self.view_is c.args.token.now c.requires
    c.loop-block._block (omega (arith, c.loop-block-test.false, c.blocks-block-end.ensures)) in
    same (size_of (message_at c.args.self.now c.args.token.now.head)) c.args.count c.loop-block.left (c.loop-block.invariant.rest ∙ ap (λ bs. c.args.count + size_of bs) none)
