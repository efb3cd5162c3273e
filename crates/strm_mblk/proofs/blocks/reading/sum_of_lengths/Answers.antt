use Rattle.std.proofs.Common.{◌≡◌, ℕ, ◌+◌, ◌-◌, ◌^◌, ◌<◌, Bool, List, Some, drop, length, ap, arith, sym, ◌∙◌, subst}
use Rattle.std.specs.Prelude.{option_map, slice_get, sum_by}
use Rattle.std.proofs.lemmas.Grind.{common_steps}
use Rattle.std.proofs.lemmas.Option.{slice_get-get_or, unwrap_or-slice_get, slice_get-map}
use Rattle.strm_data.specs.DataStore.{DataStore}
use Rattle.strm_links.specs.ChainLists.{chain_of}
use Rattle.strm_mblk.specs.declared.blocks.Fields.{Fields}
use Rattle.strm_mblk.specs.Block.{len_counted}
use Rattle.strm_mblk.specs.BlocksLayout.{block_at, message_of, block_of}
use Rattle.strm_mblk.proofs.Lists.{below}
use Rattle.strm_mblk.proofs.Reading.{counted_most, sum_from}
use Rattle.strm_mblk.proofs.blocks.reading.sum_of_lengths.Goals as goal
use Rattle.strm_mblk.proofs.blocks.reading.sum_of_lengths.Goals.{After-unwrap_or-node}

-- the sum from block k on is its length, and that of the blocks after it
adds : (data_alone : Bool) (s : DataStore) (fields : List Fields) (ns : List ℕ) (k : ℕ) {n : ℕ} → slice_get ns k ≡ Some n → {len : ℕ} → len ≡ len_counted data_alone s (block_at fields n)
    → sum_by (len_counted data_alone s) (drop k (message_of fields ns)) ≡ len + sum_by (len_counted data_alone s) (drop (k + 1) (message_of fields ns))
adds data_alone s fields ns k at is =
    sum_from (len_counted data_alone s) (message_of fields ns) k (slice_get-map (block_at fields) ns k ∙ ap (option_map (block_at fields)) at)
    ∙ ap (λ j. j + sum_by (len_counted data_alone s) (drop (k + 1) (message_of fields ns))) (sym is)

pub loop-block-init : goal.loop-block-init
loop-block-init c = record {
  begun = omega arith;
  at = c.requires.begins;
  in_range = c.requires.there;
  sum = sym (adds c.args.data_alone c.args.stored.now.store c.args.chains.now.loads (chain_of c.args.chains.now.lists c.args.head) 0 c.requires.begins
      (c.length_of-sum.ensures c.args.head ∙ ap (λ f. len_counted c.args.data_alone c.args.stored.now.store (block_of c.args.head f)) c.fields_at.ensures));
}

module _ (c : After-unwrap_or-node) where
  -- the numbers of the message
  abbrev ns : List ℕ
  ns = chain_of c.args.chains.now.lists c.args.head

  next : c.next.result ≡ slice_get ns c.loop-block._block
  next = c.next.ensures.value c.args.head (c.loop-block._block - 1) c.loop-block.invariant.at ∙ ap (slice_get ns) (omega (arith, c.loop-block.invariant.begun))

  there : c.loop-block._block < length ns
  there = omega (arith, c.loop-block-test.true, c.len-block-end.ensures)

  -- the block at this step
  at : slice_get ns c.loop-block._block ≡ Some c.unwrap_or-node.result
  at = grind (arith, common_steps, slice_get-get_or, there, next, unwrap_or-slice_get)

  low : c.unwrap_or-node.result < length c.args.chains.now.lists.held
  low = omega (arith, c.unwrap_or-node.ensures, below (2 ^ 32 - 1) _ (next ∙ slice_get-get_or ns c.loop-block._block 0 there) c.next.ensures.in_range)

pub fields_at-requires-in-loop-block : goal.fields_at-requires-in-loop-block
fields_at-requires-in-loop-block c = omega (arith, c.requires.listed, low (goal.at.fields_at-requires-in-loop-block c).After-unwrap_or-node)

pub length_of-sum-requires-in-loop-block : goal.length_of-sum-requires-in-loop-block
length_of-sum-requires-in-loop-block c =
    subst (λ (f : Fields). f.data_number < length c.args.stored.now.store.blocks) (sym c.fields_at-in-loop-block.ensures)
    (c.requires.named c.unwrap_or-node.result (omega (arith, c.requires.listed, low (goal.at.length_of-sum-requires-in-loop-block c).After-unwrap_or-node)))

pub overflow_add-sum : goal.overflow_add-sum
overflow_add-sum c =
    let before = (goal.at.overflow_add-sum c).After-unwrap_or-node in
    omega (
      arith,
      c.loop-block.invariant.sum,
      adds c.args.data_alone c.args.stored.now.store c.args.chains.now.loads (ns before) c.loop-block._block (at before)
          (c.length_of-sum-in-loop-block.ensures c.unwrap_or-node.result ∙ ap (λ f. len_counted c.args.data_alone c.args.stored.now.store (block_of c.unwrap_or-node.result f)) c.fields_at-in-loop-block.ensures),
      c.requires.small,
      counted_most c.args.data_alone c.args.stored.now.store (message_of c.args.chains.now.loads (ns before)),
    )

pub loop-block-preserved : goal.loop-block-preserved
loop-block-preserved c =
    let before = (goal.at.loop-block-preserved c).After-unwrap_or-node in
    record {
      begun = omega (arith, c.loop-block.invariant.begun);
      at = ap (slice_get (ns before)) (omega arith) ∙ at before;
      in_range = low before;
      sum =
          omega (
            arith,
            c.loop-block.invariant.sum,
            adds c.args.data_alone c.args.stored.now.store c.args.chains.now.loads (ns before) c.loop-block._block (at before)
                (c.length_of-sum-in-loop-block.ensures c.unwrap_or-node.result ∙ ap (λ f. len_counted c.args.data_alone c.args.stored.now.store (block_of c.unwrap_or-node.result f)) c.fields_at-in-loop-block.ensures),
          );
    }
