use Rattle.std.proofs.Common.{◌≡◌, ◌+◌, ◌-◌, ◌<◌, List, ℕ, Some, length, sym, ap, subst, ◌∙◌, arith}
use Rattle.std.specs.Prelude.{option_map, slice_get, unwrap_or}
use Rattle.std.proofs.lemmas.Option.{slice_get-get_or, slice_get-map, slice_get_within, unwrap_or-slice_get}
use Rattle.strm_links.specs.ChainLists.{chain_of}
use Rattle.strm_mblk.specs.Block.{Message}
use Rattle.strm_mblk.specs.BlocksLayout.{IsStart, block_at, message_of}
use Rattle.strm_mblk.proofs.Altering.{size_next, size_parts}
use Rattle.strm_mblk.proofs.Lists.{below}
use Rattle.strm_mblk.proofs.blocks.finding.find_byte.Goals.{In-loop-block}
use Rattle.strm_mblk.specs.declared.blocks.Fields.{Fields}
use Rattle.strm_mblk.proofs.blocks.finding.find_byte.Goals as goal

pub overflow_sub-last : goal.overflow_sub-last
overflow_sub-last c = omega (arith, c.len-last.ensures, slice_get_within (chain_of c.args.chains.now.lists c.args.head) 0 c.args.head c.requires.begins)

pub loop-block-init : goal.loop-block-init
loop-block-init c = record { start = record { begins = c.requires.begins; there = c.requires.there; before = omega arith } }

module _ (c : In-loop-block) where
  abbrev ns : List ℕ
  ns = chain_of c.args.chains.now.lists c.args.head

  abbrev m : Message
  m = message_of c.args.chains.now.loads ns

  block : slice_get m c.loop-block.block ≡ Some (block_at c.args.chains.now.loads c.loop-block.node)
  block = slice_get-map (block_at c.args.chains.now.loads) ns c.loop-block.block ∙ ap (option_map (block_at c.args.chains.now.loads)) c.loop-block.invariant.start.begins

  -- there is one more
  more : c.loop-block.block + 1 < length ns
  more = omega (arith, c.loop-block-test.true, c.len-last.ensures)

pub fields_at-len-requires : goal.fields_at-len-requires
fields_at-len-requires c = omega (arith, c.loop-block.invariant.start.there, c.requires.listed)

pub returns-then-skip-len : goal.returns-then-skip-len
returns-then-skip-len c = c.loop-block.invariant.start

pub next-requires : goal.next-requires
next-requires c = c.loop-block.invariant.start.there

pub loop-block-preserved : goal.loop-block-preserved
loop-block-preserved c =
    let before = (goal.at.loop-block-preserved c).In-loop-block in
    let k = c.loop-block.block in
    let next : c.next.result ≡ slice_get (ns before) (k + 1) = c.next.ensures.value c.args.head k c.loop-block.invariant.start.begins in
    record {
      start = record {
        begins =
            slice_get-get_or (ns before) (k + 1) 4294967295 (more before)
            ∙ ap Some (sym (c.unwrap_or-node.ensures ∙ ap (λ o. unwrap_or o 4294967295) next ∙ unwrap_or-slice_get (ns before) (k + 1) 4294967295));
        there = omega (arith, c.unwrap_or-node.ensures, below 4294967295 _ (next ∙ slice_get-get_or (ns before) (k + 1) 0 (more before)) c.next.ensures.in_range);
        before =
            omega (
              arith,
              c.loop-block.invariant.start.before,
              c.if-skip-len.false,
              ap (λ (f : Fields). f.len) c.fields_at-len.ensures,
              size_parts (m before) k,
              size_parts (m before) (k + 1),
              size_next (m before) k (block before),
            );
      };
    }

pub returns : goal.returns
returns c =
    let last : c.loop-block.block ≡ c.len-last.result - 1 = omega (arith, c.loop-block-test.false, c.loop-block.auto.block-end) in
    subst (λ n. IsStart c.args.chains.now.lists c.args.chains.now.loads c.args.head c.args.at (record { node = c.loop-block.node; block = n; at = c.loop-block.skip })) last c.loop-block.invariant.start
