use Rattle.std.proofs.Common.{◌≡◌, ◌+◌, ◌-◌, length, refl, sym, ap, ◌∙◌}
use Rattle.std.proofs.lemmas.Bool.{cond-false, le-ltb}
use Rattle.strm_data.specs.DataStore.{with_bytes_written}
use Rattle.strm_mblk.specs.BlockCalls.{with_bytes}
use Rattle.strm_mblk.specs.BlocksLayout.{block_of_found}
use Rattle.strm_mblk.specs.Given.{and_then}
use Rattle.strm_mblk.specs.InPlace.{prepend, prepend_block}
use Rattle.strm_mblk.proofs.Altering.{found_own}
use Rattle.strm_mblk.proofs.arena.Calls.{alters_block}
use Rattle.strm_mblk.proofs.arena.Frame.{other_data}
use Rattle.strm_mblk.proofs.blocks.Blocks.prepend.Goals as goal

pub returns : goal.returns
returns c =
    let h = c.args.token.now.head in
    let a = c.args.self.now in
    let x = block_of_found c.in_ok-node.field-0 in
    let own = sym c.in_ok-node.ensures.answer in
    let at = x.offset - length c.args.bytes.now in
    alters_block a _ c.args.token.now 0 own c.requires (with_bytes_written x.data_number at c.args.bytes.now a.store) (other_data a.store x.data_number _) (prepend h c.args.bytes.now a) tt
    (record x { offset = at; len = x.len + length c.args.bytes.now })
    (c.write_data.ensures ∙ ap (with_bytes x.data_number at c.args.bytes.now) (c.set_fields.ensures h 0 x (found_own a h 0 own) refl))
    (ap (and_then (prepend_block h c.args.bytes.now a)) own ∙ cond-false _ _ _ (le-ltb _ _ c.if-bytes-fields.false))
