use Rattle.std.proofs.Common.{◌≡◌, ◌+◌, ◌≤◌, length, refl, sym, ap, ◌∙◌, arith}
use Rattle.std.proofs.lemmas.Bool.{cond-false, le-ltb}
use Rattle.strm_data.specs.DataStore.{capacity_of, with_bytes_written}
use Rattle.strm_mblk.specs.BlockCalls.{with_bytes, write_block}
use Rattle.strm_mblk.specs.BlocksLayout.{block_of_found}
use Rattle.strm_mblk.specs.Given.{and_then}
use Rattle.strm_mblk.proofs.Altering.{found_own}
use Rattle.strm_mblk.proofs.arena.Calls.{alters_block}
use Rattle.strm_mblk.proofs.arena.Frame.{other_data}
use Rattle.strm_mblk.proofs.blocks.Blocks.write.Goals as goal

pub returns : goal.returns
returns c =
    let h = c.args.token.now.head in
    let k = c.args.place in
    let a = c.args.self.now in
    let x = block_of_found c.in_ok-node.field-0 in
    let own = sym c.in_ok-node.ensures.answer in
    let within = c.in_ok-node.ensures.within in
    let end = x.offset + x.len in
    let room : end + length c.args.bytes.now ≤ capacity_of a.store x.data_number = omega (arith, c.if-bytes-capacity.false, within.within, within.capacity) in
    alters_block a _ c.args.token.now k own c.requires (with_bytes_written x.data_number end c.args.bytes.now a.store) (other_data a.store x.data_number _) _ tt (record x { len = x.len + length c.args.bytes.now })
    (c.write_data.ensures ∙ ap (with_bytes x.data_number end c.args.bytes.now) (c.set_fields.ensures h k x (found_own a h k own) refl))
    (ap (and_then (write_block h k c.args.bytes.now a)) own ∙ cond-false _ _ _ (le-ltb _ _ room))
