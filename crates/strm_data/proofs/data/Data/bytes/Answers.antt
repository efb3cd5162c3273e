use Rattle.std.proofs.Common.{ap, ◌∙◌, arith, drop, length, take}
use Rattle.strm_data.proofs.layout.Copying.{in_bytes, part_is}
use Rattle.strm_data.proofs.data.Data.bytes.Goals as goal

pub part_of-requires : goal.part_of-requires
part_of-requires c =
    omega (
      arith,
      ap length c.deref.ensures.value,
      in_bytes c.self.inside _ c.self.view_is c.self.invariant c.args.number c.requires.there c.load.result.now c.load.ensures c.args.at _ c.place_of-place.ensures.place c.args.len c.requires.room,
    )

pub returns : goal.returns
returns c =
    c.part_of.ensures ∙ ap (λ bs. take c.args.len (drop c.place_of-place.result bs)) c.deref.ensures.value
    ∙ part_is c.self.inside _ c.self.view_is c.self.invariant c.args.number c.requires.there c.load.result.now c.load.ensures c.args.at _ c.place_of-place.ensures.place c.args.len c.requires.room
