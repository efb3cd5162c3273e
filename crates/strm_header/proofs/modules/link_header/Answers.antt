-- The new block has the header, and the message comes after it.
use Rattle.std.proofs.Common.{[], ◌∷◌, refl, sym}
use Rattle.strm_mblk.specs.BlockCalls.{setband, write}
use Rattle.strm_mblk.specs.Given.{given_nothing}
use Rattle.strm_header.proofs.Outcomes.{altered_keeps, allocated_keeps, joined_keeps, linked_behind, others_had, tail_apart, tail_had, write_done}
use Rattle.strm_scheduler.proofs.Needing.{not_refused}
use Rattle.strm_scheduler.proofs.Unchanged.{keeps_joined}
use Rattle.strm_header.proofs.modules.link_header.Goals as goal

pub unreachable-requires-in_default-allocb : goal.unreachable-requires-in_default-allocb
unreachable-requires-in_default-allocb c = not_refused 2 c.args.pool.now c.allocb.new.self c.allocb.result c.requires.free c.allocb.ensures c.in_default-allocb.field-0 c.in_default-allocb.is

pub unreachable-requires-in_default-write : goal.unreachable-requires-in_default-write
unreachable-requires-in_default-write c =
    write_done c.args.header.now c.args.token c.in-Ok-allocb.first c.args.pool.now c.allocb.new.self c.lawful.ensures c.requires.two c.in-Ok-allocb.ensures c.write.new.self c.write.result c.write.ensures c.in_default-write.field-0 c.in_default-write.is

pub linkb-requires-clause-tail : goal.linkb-requires-clause-tail
linkb-requires-clause-tail c =
    let t = c.args.token in
    let heads = c.in-Ok-allocb.first.head ∷ [] in
    let apart = tail_apart c.args.header.now t c.in-Ok-allocb.first c.args.pool.now c.allocb.new.self c.lawful.ensures c.requires.two c.in-Ok-allocb.ensures c.requires.has in
    let had = tail_had c.args.header.now t c.in-Ok-allocb.first c.args.pool.now c.allocb.new.self c.lawful.ensures c.requires.two c.in-Ok-allocb.ensures c.requires.has in
    others_had t heads c.write.new.self.arena c.setband.new.self.arena c.setband.ensures.others apart
    (others_had t heads c.allocb.new.self.arena c.write.new.self.arena c.write.ensures.others apart had)

pub returns-clause-linked : goal.returns-clause-linked
returns-clause-linked c =
    linked_behind c.args.header.now c.args.token c.in-Ok-allocb.first c.args.pool.now c.allocb.new.self c.lawful.ensures c.requires.two c.in-Ok-allocb.ensures
    c.write.new.self c.setband.new.self c.linkb.new.self c.in-Ok.front.band c.write.ensures.after c.setband.ensures.after c.linkb.ensures.after
    c.in-Ok.front (sym c.in-Ok.ensures) refl c.linkb.new.token c.linkb.ensures.token

pub returns-clause-keeps : goal.returns-clause-keeps
returns-clause-keeps c =
    let v = c.args.pool.now in
    let u = c.in-Ok-allocb.first in
    let w = c.allocb.new.self in
    let x = c.write.new.self in
    let y = c.setband.new.self in
    let z = c.linkb.new.self in
    keeps_joined v w z (allocated_keeps c.args.header.now c.args.token u v w c.lawful.ensures c.requires.two c.in-Ok-allocb.ensures)
    (keeps_joined w x z (altered_keeps u w x (write u.head 0 c.args.header.now w.arena) c.write.result c.write.ensures)
    (keeps_joined x y z (altered_keeps u x y (given_nothing (setband u.head c.in-Ok.front.band x.arena)) _ c.setband.ensures)
    (joined_keeps u c.linkb.new.token c.args.token y z c.linkb.ensures)))
