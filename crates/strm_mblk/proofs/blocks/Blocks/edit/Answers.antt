use Rattle.std.proofs.Common.{sym, ap}
use Rattle.std.specs.Fn.{FnOnceReturnsAtMut}
use Rattle.strm_data.specs.DataStore.{with_bytes_written}
use Rattle.strm_mblk.specs.Block.{bytes_of_block}
use Rattle.strm_mblk.specs.BlockCalls.{with_bytes}
use Rattle.strm_mblk.specs.BlocksLayout.{block_of_found}
use Rattle.strm_mblk.specs.Given.{answer_map}
use Rattle.strm_mblk.specs.InPlace.{edit}
use Rattle.strm_mblk.proofs.arena.Calls.{alters_store, lends}
use Rattle.strm_mblk.proofs.arena.Frame.{other_data}
use Rattle.strm_mblk.proofs.blocks.Blocks.edit.Goals as goal

pub returns : goal.returns
returns g c =
    let h = c.args.token.now.head in
    let k = c.args.place in
    let a = c.args.self.now in
    let x = block_of_found c.in_ok-fields.field-0 in
    let own = sym c.in_ok-fields.ensures.answer in
    let edits = c.edit_data.ensures in
    lends a _ c.args.token.now (FnOnceReturnsAtMut g.F.FnOnce c.args.change) (λ r left. edit h k r left a) c.edit_data.result _
    (ap (answer_map (bytes_of_block a.store)) own)
    (record {
      left = edits.left;
      long = edits.long;
      called = edits.called;
      after =
          alters_store a _ c.args.token.now k own c.requires.had (with_bytes_written x.data_number x.offset edits.left a.store) (other_data a.store x.data_number _) (edit h k c.edit_data.result edits.left a) c.edit_data.result edits.after
          (ap (answer_map (λ b. (c.edit_data.result, with_bytes b.data_number b.offset edits.left a))) own);
    })
