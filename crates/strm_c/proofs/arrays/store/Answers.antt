use Rattle.std.proofs.Common.{Some, arith, ap, map, set, sym, ◌∙◌}
use Rattle.std.specs.Prelude.{option_map}
use Rattle.std.proofs.lemmas.Option.{slice_get-get_or, slice_get-map}
use Rattle.strm_data.specs.declared.msg_type.MsgType.TheVariants.{MData}
use Rattle.strm_mblk.specs.declared.block_info.BlockInfo.{BlockInfo}
use Rattle.strm_mblk.proofs.Lists.{filled_more}
use Rattle.strm_c.specs.InC.{block_in_c}
use Rattle.strm_c.proofs.arrays.store.Goals as goal

abbrev no_block : BlockInfo
no_block = record { kind = MData; len = 0; band = 0; room = 0; names = 0 }

pub loop-place-preserved : goal.loop-place-preserved
loop-place-preserved c =
    let blocks = c.args.blocks.now in
    let k = c.loop-place.place in
    ap (λ xs. set xs k c.of.result) c.loop-place.invariant
    ∙ filled_more (map block_in_c blocks) c.args.into.now k c.of.result
    (slice_get-map block_in_c blocks k ∙ ap (option_map block_in_c) (slice_get-get_or blocks k no_block c.loop-place-test.true) ∙ ap Some (sym c.of.ensures)) (omega (arith, c.requires, c.loop-place-test.true))
