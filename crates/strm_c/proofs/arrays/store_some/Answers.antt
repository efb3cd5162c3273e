use Rattle.std.proofs.Common.{◌≤◌, ◌∙◌, arith, drop, length}
use Rattle.std.proofs.lemmas.List.{length-drop, length-map}
use Rattle.strm_mblk.specs.Arena.{message_at}
use Rattle.strm_mblk.specs.BlockCalls.{info_of}
use Rattle.strm_mblk.specs.InPlace.{infos_from}
use Rattle.strm_c.specs.InC.{block_in_c}
use Rattle.strm_c.proofs.BlockArrays.{in_buffer, stored_of, told_valid}
use Rattle.strm_c.proofs.arrays.store_some.Goals.{After-store}
use Rattle.strm_c.proofs.arrays.store_some.Goals as goal

few : (c : After-store) → c.in-Ok.count ≤ length (infos_from c.args.msg.head c.args.from c.args.named.now.pool.arena)
few c =
    let v = c.args.named.now in
    let m = message_at v.pool.arena c.args.msg.head in
    omega (arith, told_valid v c.args.msg c.in-Ok.count _ c.requires c.in-Ok.ensures.count, length-map (drop c.args.from m) (info_of v.pool.arena), length-drop c.args.from m)

pub returns-clause-infos : goal.returns-clause-infos
returns-clause-infos c =
    let enough = few (goal.at.returns-clause-infos c).After-store in
    c.store.ensures
    ∙ stored_of block_in_c c.in-Ok.count (infos_from c.args.msg.head c.args.from c.args.named.now.pool.arena) _ c.args.into.now enough
    (in_buffer c.min-room.result c.in-Ok.count (infos_from c.args.msg.head c.args.from c.args.named.now.pool.arena) _ _ c.walk.new.into enough c.in-Ok.ensures.infos)
