use Rattle.std.proofs.Common.{◌≡◌, length, sym, ap, ◌∙◌, subst, arith}
use Rattle.std.specs.Fn.{FnOnceReturnsAtMut}
use Rattle.std.proofs.lemmas.List.{take_all}
use Rattle.strm_data.specs.DataStore.{bytes_at, data_block_at, with_bytes_written}
use Rattle.strm_mblk.specs.BlockCalls.{with_bytes}
use Rattle.strm_mblk.specs.BlocksLayout.{block_of_found}
use Rattle.strm_mblk.specs.Given.{answer_map}
use Rattle.strm_mblk.specs.InPlace.{window}
use Rattle.strm_mblk.proofs.arena.Calls.{alters_store, lends}
use Rattle.strm_mblk.proofs.arena.Frame.{other_data}
use Rattle.strm_mblk.proofs.blocks.Blocks.window.Goals as goal

pub returns : goal.returns
returns g c =
    let h = c.args.token.now.head in
    let k = c.args.place in
    let a = c.args.self.now in
    let x = block_of_found c.in_ok-fields.field-0 in
    let own = sym c.in_ok-fields.ensures.answer in
    let edits = c.edit_data.ensures in
    let bytes = (data_block_at a.store x.data_number).bytes in
    -- the bytes that are lent are all that the data block has
    let all : bytes_at x.data_number 0 c.in_ok-fields.field-0.capacity a.store ≡ bytes =
    take_all c.in_ok-fields.field-0.capacity bytes (omega (arith, c.in_ok-fields.ensures.within.capacity)) in
    lends a _ c.args.token.now (FnOnceReturnsAtMut g.F.FnOnce c.args.change) (λ r left. window h k r left a) c.edit_data.result _
    (ap (answer_map (λ b. (data_block_at a.store b.data_number).bytes)) own)
    (record {
      left = edits.left;
      long = edits.long ∙ ap length all;
      called = subst (λ lent. FnOnceReturnsAtMut g.F.FnOnce c.args.change lent c.edit_data.result edits.left) all edits.called;
      after =
          alters_store a _ c.args.token.now k own c.requires.had (with_bytes_written x.data_number 0 edits.left a.store) (other_data a.store x.data_number _) (window h k c.edit_data.result edits.left a) c.edit_data.result edits.after
          (ap (answer_map (λ b. (c.edit_data.result, with_bytes b.data_number 0 edits.left a))) own);
    })
