use Rattle.std.proofs.Common.{◌+◌, ◌≤◌, refl, sym, ap, ◌∙◌, arith}
use Rattle.std.proofs.lemmas.Bool.{cond-false, le-ltb}
use Rattle.strm_data.specs.DataStore.{capacity_of}
use Rattle.strm_mblk.specs.BlocksLayout.{block_of_found}
use Rattle.strm_mblk.specs.Given.{and_then}
use Rattle.strm_mblk.specs.InPlace.{shape, shape_block}
use Rattle.strm_mblk.proofs.Altering.{found_at, suits_found}
use Rattle.strm_mblk.proofs.arena.Calls.{alters_fields}
use Rattle.strm_mblk.proofs.blocks.Blocks.shape.Goals as goal

pub set_fields-requires : goal.set_fields-requires
set_fields-requires c =
    let x = block_of_found c.in_ok-node.field-0 in
    let within = c.in_ok-node.ensures.within in
    suits_found c.args.self.now c.args.token.now.head c.args.place (found_at c.args.self.now c.args.token.now.head c.args.place (sym c.in_ok-node.ensures.answer)) _ refl
    (omega (arith, within.capacity)) within.banded

pub returns : goal.returns
returns c =
    let h = c.args.token.now.head in
    let k = c.args.place in
    let a = c.args.self.now in
    let x = block_of_found c.in_ok-node.field-0 in
    let found = sym c.in_ok-node.ensures.answer in
    let room : c.args.at + c.args.len ≤ capacity_of a.store x.data_number = omega (arith, c.in_ok-node.ensures.within.capacity) in
    alters_fields a _ c.args.token.now k (record x { offset = c.args.at; len = c.args.len }) c.requires (shape h k c.args.at c.args.len a) tt
    (c.set_fields.ensures h k x (found_at a h k found) refl)
    (ap (and_then (shape_block h k c.args.at c.args.len a)) found ∙ cond-false _ _ _ (le-ltb _ _ room))
