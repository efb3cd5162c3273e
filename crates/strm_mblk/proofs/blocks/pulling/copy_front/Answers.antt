use Rattle.std.proofs.Common.{◌≡◌, ◌≢◌, ℕ, ◌<◌, List, length, Some, ap, ◌∙◌, arith, subst, sym}
use Rattle.std.proofs.lemmas.Option.{slice_get-map}
use Rattle.std.specs.Prelude.{option_map, slice_get}
use Rattle.strm_data.specs.DataStore.{times}
use Rattle.strm_mblk.specs.declared.blocks.Fields.{Fields}
use Rattle.strm_mblk.specs.BlocksLayout.{block_at, fields_at, data_used_by, block_of, IsPlaced}
use Rattle.strm_links.specs.ChainLists.{nodes_at}
use Rattle.strm_mblk.proofs.pulling.FrontPulled.{next_copied}
use Rattle.strm_mblk.proofs.Lists.{times_at}
use Rattle.strm_mblk.proofs.blocks.pulling.copy_front.Goals as goal

-- a block of the message does not name the data block
apart : (d : ℕ) (fields : List Fields) (ns : List ℕ) (k : ℕ) {n : ℕ} → times d (data_used_by fields ns) ≡ 0 → slice_get ns k ≡ Some n → (fields_at fields n).data_number ≢ d
apart d fields ns k {n} none at same =
    let named = slice_get-map (λ j. (fields_at fields j).data_number) ns k ∙ ap (option_map (λ j. (fields_at fields j).data_number)) at in
    absurd (omega (arith, none, ap (λ e. times e (data_used_by fields ns)) same, times_at (fields_at fields n).data_number (data_used_by fields ns) k named))

pub loop-block-preserved : goal.loop-block-preserved
loop-block-preserved c =
    let n = c.loop-block.node in
    let k = c.loop-block._block in
    let ns = nodes_at c.args.chains.now.lists c.args.head in
    let blocks = c.args.chains.now.loads in
    let at : slice_get ns k ≡ Some n = c.loop-block.invariant.at.here (omega (arith, c.loop-block-test.true)) in
    let there : n < length blocks = omega (arith, c.requires.listed, c.loop-block.invariant.at.in_range (omega (arith, c.loop-block-test.true))) in
    record {
      at = c.onward-node.ensures c.args.head k c.loop-block.invariant.at;
      copied =
          next_copied c.loop-block.invariant.copied c.requires.enough c.requires.there
          n (slice_get-map (block_at blocks) ns k ∙ ap (option_map (block_at blocks)) at ∙ ap (λ f. Some (block_of n f)) (sym c.fields_at-fields.ensures))
          (subst (IsPlaced c.args.stored.now.store) (sym c.fields_at-fields.ensures) (c.requires.placed n there)) (subst (λ (f : Fields). f.data_number ≢ c.args.into) (sym c.fields_at-fields.ensures) (apart c.args.into blocks ns k c.requires.unnamed at)) c.min-len.ensures c.copy.ensures.after;
      kept = c.copy.ensures.kept;
    }
