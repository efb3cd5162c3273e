use Rattle.std.proofs.Common.{subst}
use Rattle.strm_pool.specs.PoolValue.{queued_blocks_of}
use Rattle.strm_scheduler.specs.Laws.{AreWaiting, AreWoken}
use Rattle.strm_scheduler.specs.Sides.{SidesValue}
use Rattle.strm_scheduler.proofs.PoolLaws.{banded_of}
use Rattle.strm_scheduler.proofs.Delivering.{waiting, woken_by}
use Rattle.strm_scheduler.specs.Waits.{AreReadyWoken}
use Rattle.strm_scheduler.proofs.Waking.{awake_unless_short, ready_woken}
use Rattle.strm_scheduler.proofs.sides.Sides.waiting.Goals as goal

pub returns-clause-waits : goal.returns-clause-waits
returns-clause-waits c =
    let v = c.self.inside.pool in
    let waits = c.self.inside.waits in
    let P : SidesValue → Type 0 = λ w. AreWaiting w.waits (queued_blocks_of w.pool) in
    subst P c.self.view_is (waiting (queued_blocks_of v) c.lawful.ensures.marks waits (awake_unless_short v waits c.self.invariant))

pub returns-clause-wakes : goal.returns-clause-wakes
returns-clause-wakes c =
    let v = c.self.inside.pool in
    let waits = c.self.inside.waits in
    let law = c.lawful.ensures in
    let P : SidesValue → Type 0 = λ w. AreWoken w.waits (queued_blocks_of w.pool) in
    subst P c.self.view_is (woken_by (queued_blocks_of v) law.lawful_queues c.self.invariant.sides (banded_of v law) law.marks waits (awake_unless_short v waits c.self.invariant))

pub returns-clause-blocks : goal.returns-clause-blocks
returns-clause-blocks c =
    subst AreReadyWoken c.self.view_is (λ x keeps q n next. ready_woken c.self.inside.pool x c.self.inside.waits keeps c.self.invariant.sides q n next)
