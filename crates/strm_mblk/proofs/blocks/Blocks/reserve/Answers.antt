use Rattle.std.proofs.Common.{refl, sym, ap, ◌∙◌, arith}
use Rattle.std.proofs.lemmas.Bool.{cond-false, le-ltb}
use Rattle.std.specs.Prelude.{◌||◌, nat_lt}
use Rattle.strm_data.specs.DataStore.{capacity_of}
use Rattle.strm_mblk.specs.BlocksLayout.{block_of_found}
use Rattle.strm_mblk.specs.Given.{and_then}
use Rattle.strm_mblk.specs.InPlace.{reserve, reserve_block}
use Rattle.strm_mblk.proofs.Altering.{found_own}
use Rattle.strm_mblk.proofs.arena.Calls.{alters_fields}
use Rattle.strm_mblk.proofs.blocks.Blocks.reserve.Goals as goal

pub returns : goal.returns
returns c =
    let h = c.args.token.now.head in
    let k = c.args.place in
    let a = c.args.self.now in
    let x = block_of_found c.in_ok-node.field-0 in
    let own = sym c.in_ok-node.ensures.answer in
    alters_fields a _ c.args.token.now k (record x { offset = c.args.count }) c.requires (reserve h k c.args.count a) tt
    (c.set_fields.ensures h k x (found_own a h k own) refl)
    (ap (and_then (reserve_block h k c.args.count a)) own
    ∙ cond-false _ _ _ (ap (λ p. p || nat_lt (capacity_of a.store x.data_number) c.args.count) (le-ltb _ _ c.if-fields-gt0.false) ∙ le-ltb _ _ (omega (arith, c.if-count-capacity.false, c.in_ok-node.ensures.within.capacity))))
