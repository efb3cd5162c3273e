use Rattle.std.proofs.Common.{◌≡◌, ℕ, arith, length, subst}
use Rattle.std.specs.Prelude.{IfOk}
use Rattle.strm_mblk.specs.InPlace as in_place
use Rattle.strm_named.specs.NamedCalls.{asked}
use Rattle.strm_c.proofs.Finding.{room_of, rooms}
use Rattle.strm_c.proofs.writable.count_of_room.Goals as goal

pub returns-in-Ok : goal.returns-in-Ok
returns-in-Ok c =
    let lends : ℕ → Type 0 = λ n. IfOk (asked c.args.named.now c.args.msg (in_place.bytes_to_fill c.args.msg.head c.args.place c.args.named.now.pool.arena)) (λ lent. n ≡ length lent) in
    subst lends (omega (arith, c.saturating_sub-after.ensures, c.saturating_sub-room.ensures))
    (subst (λ o. lends (room_of o)) c.in-Ok.is (rooms c.args.named.now c.args.msg c.args.place c.place.result c.place.ensures))

pub returns-in-Err : goal.returns-in-Err
returns-in-Err c =
    subst (λ o. IfOk (asked c.args.named.now c.args.msg (in_place.bytes_to_fill c.args.msg.head c.args.place c.args.named.now.pool.arena)) (λ lent. room_of o ≡ length lent)) c.in-Err.is
    (rooms c.args.named.now c.args.msg c.args.place c.place.result c.place.ensures)
