use Rattle.std.proofs.Common.{◌≡◌, [], subst}
use Rattle.strm_pool.specs.PoolValue.{queued_blocks_of}
use Rattle.strm_scheduler.specs.Laws.{AreAllEmpty, AreEndsEmpty}
use Rattle.strm_scheduler.specs.Sides.{NoneWaits, SidesValue}
use Rattle.strm_scheduler.proofs.Delivering.{all_empty}
use Rattle.strm_scheduler.proofs.Waking.{none_short}
use Rattle.strm_scheduler.proofs.sides.Sides.delivered.Goals as goal

pub returns : goal.returns
returns c =
    let v = c.self.inside.pool in
    let law = c.lawful.ensures in
    let P : SidesValue → Type 0 = λ w. w.pool.queues.run ≡ [] → NoneWaits w.waits → AreEndsEmpty (queued_blocks_of w.pool) → AreAllEmpty (queued_blocks_of w.pool) in
    subst P c.self.view_is
    (λ idle none ends. all_empty (queued_blocks_of v) law.lawful_queues law.shelves law.marks (none_short (record { pool = v; waits = c.self.inside.waits }) none c.self.invariant).awake idle ends)
    c.requires.idle c.requires.none c.requires.ends
