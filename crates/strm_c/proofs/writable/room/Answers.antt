use Rattle.std.proofs.Common.{rules}
use Rattle.strm_c.proofs.Finding.{room_finds}
use Rattle.strm_c.proofs.writable.room.Goals as goal

pub returns : goal.returns
returns c =
    room_finds _ c.count_of_room-count.result (λ bytes r left m. record { address = search rules; counted = search rules; same = search rules })
    c.args.named.now c.edit.new.self c.edit.result c.args.msg c.args.place c.count_of_room-count.ensures c.edit.ensures
