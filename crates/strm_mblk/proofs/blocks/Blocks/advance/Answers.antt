use Rattle.std.proofs.Common.{◌+◌, ◌≤◌, refl, sym, ap, ◌∙◌, arith}
use Rattle.std.proofs.lemmas.Bool.{cond-false, le-ltb}
use Rattle.strm_data.specs.DataStore.{capacity_of}
use Rattle.strm_mblk.specs.BlocksLayout.{block_of_found}
use Rattle.strm_mblk.specs.Given.{and_then}
use Rattle.strm_mblk.specs.InPlace.{advance, advance_block}
use Rattle.strm_mblk.proofs.Altering.{found_own}
use Rattle.strm_mblk.proofs.arena.Calls.{alters_fields}
use Rattle.strm_mblk.proofs.blocks.Blocks.advance.Goals as goal

pub returns : goal.returns
returns c =
    let h = c.args.token.now.head in
    let k = c.args.place in
    let a = c.args.self.now in
    let x = block_of_found c.in_ok-node.field-0 in
    let own = sym c.in_ok-node.ensures.answer in
    let within = c.in_ok-node.ensures.within in
    let room : x.offset + x.len + c.args.count ≤ capacity_of a.store x.data_number = omega (arith, c.if-count-capacity.false, within.within, within.capacity) in
    alters_fields a _ c.args.token.now k (record x { len = x.len + c.args.count }) c.requires (advance h k c.args.count a) tt
    (c.set_fields.ensures h k x (found_own a h k own) refl)
    (ap (and_then (advance_block h k c.args.count a)) own ∙ cond-false _ _ _ (le-ltb _ _ room))
