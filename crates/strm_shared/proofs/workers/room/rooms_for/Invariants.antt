use Rattle.std.proofs.Common.{◌≡◌, ◌≤◌, length, take, vec_capacity}
use Rattle.strm_shared.specs.RunsLayout.{AreReady}
use Rattle.strm_shared.proofs.workers.room.rooms_for.Given as goal

abbrev pub invariant-loop-i : goal.invariant-loop-i
invariant-loop-i l = record {
  count : length l.rooms.items ≡ l.i;
  room : length l.parts ≤ vec_capacity l.rooms;
  ready : AreReady l.keeps (take l.i l.parts) l.rooms.items;
}
