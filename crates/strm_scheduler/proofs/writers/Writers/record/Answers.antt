-- What is recorded of an answer, by whether the writer waits.
use Rattle.std.proofs.Common.{◌≡◌, ℕ, ◌+◌, ◌*◌, ◌<◌, ◌∙◌, ◌≤◌, ◌++◌, ◌∷◌, [], Bool, true, false, List, None, Some, ap, arith, map, set, sym}
use Rattle.strm_links.specs.Rows as rows
use Rattle.strm_links.specs.Rows.{Rows, holder, list_at}
use Rattle.strm_queue.specs.Limits.{bands, most_queues}
use Rattle.strm_scheduler.specs.Writers.{Writer, with_answer}
use Rattle.strm_scheduler.specs.WritersLayout.{node_of, writers_in}
use Rattle.strm_scheduler.proofs.Recording.{past-none, refused-again, refused-joined, room-left, room-none, stay_recorded}
use Rattle.strm_scheduler.proofs.writers.Writers.record.Goals as goal

-- the same is said of the value, and of the answer that was given
same_answer : (q band : ℕ) (so room : Bool) (ws now old : List Writer) → now ≡ with_answer q band so ws → room ≡ so → ws ≡ old → now ≡ with_answer q band room old
same_answer q band so room ws now old is answer value = is ∙ (λ i. with_answer q band (sym answer i) (value i))

-- no pool has the queue
pub returns-then-from-ge-MOST_QUEUES-clause-recorded : goal.returns-then-from-ge-MOST_QUEUES-clause-recorded
returns-then-from-ge-MOST_QUEUES-clause-recorded c =
    let r : Rows = c.self.inside.links in
    let q = c.args.queue in
    let band = c.args.band in
    let low : band < bands = omega (arith, c.ranges.band) in
    let past : most_queues ≤ q = omega (arith, c.from.ensures, c.if-from-ge-MOST_QUEUES.true) in
    sym c.self.view_is
    ∙ past-none r c.self.invariant q band low past c.parts_nodes.ensures.parting c.args.room
    ∙ ap (with_answer q band c.args.room) c.self.view_is

-- it waited, and there is room
pub returns-then-room-clause-recorded : goal.returns-then-room-clause-recorded
returns-then-room-clause-recorded c =
    let r : Rows = c.self.inside.links in
    let low : c.args.band < bands = omega (arith, c.ranges.band) in
    same_answer c.args.queue c.args.band true c.args.room (writers_in r) _ c.args.self.now
    (ap writers_in (c.remove.ensures.lists ∙ (λ i. record r { lists = map (rows.without (c.from-2.ensures i * bands + c.from-3.ensures i)) r.lists }))
    ∙ room-left r c.self.invariant c.args.queue c.args.band low)
    c.if-room.true c.self.view_is

-- it waited, and there is no room
pub returns-else-room-clause-recorded : goal.returns-else-room-clause-recorded
returns-else-room-clause-recorded c =
    let r : Rows = c.self.inside.links in
    let low : c.args.band < bands = omega (arith, c.ranges.band) in
    let there : c.args.queue < most_queues = omega (arith, c.from.ensures, c.if-from-ge-MOST_QUEUES.false) in
    let held : holder (node_of c.args.queue c.args.band) r ≡ Some c.in-Some.field-0 =
    (λ i. holder (sym c.from-2.ensures i * bands + sym c.from-3.ensures i) r) ∙ sym c.list_of.ensures.value ∙ c.in-Some.is in
    sym c.self.view_is
    ∙ same_answer c.args.queue c.args.band false c.args.room (writers_in r) _ c.args.self.now
    (refused-again r c.self.invariant c.args.queue c.args.band low there c.in-Some.field-0 held)
    c.if-room.false c.self.view_is

-- it did not wait, and there is no room
pub returns-then-not-room-clause-recorded : goal.returns-then-not-room-clause-recorded
returns-then-not-room-clause-recorded c =
    let r : Rows = c.self.inside.links in
    let low : c.args.band < bands = omega (arith, c.ranges.band) in
    let there : c.args.queue < most_queues = omega (arith, c.from.ensures, c.if-from-ge-MOST_QUEUES.false) in
    let free : holder (node_of c.args.queue c.args.band) r ≡ None =
    (λ i. holder (sym c.from-2.ensures i * bands + sym c.from-3.ensures i) r) ∙ sym c.list_of.ensures.value ∙ c.in-None.is in
    same_answer c.args.queue c.args.band false c.args.room (writers_in r) _ c.args.self.now
    (ap writers_in (c.push_back.ensures.lists ∙ (λ i. record r { lists = set r.lists 0 (list_at 0 r ++ (c.from-2.ensures i * bands + c.from-3.ensures i) ∷ []) }))
    ∙ refused-joined r c.self.invariant c.args.queue c.args.band low there free)
    c.if-not-room.true c.self.view_is

-- it did not wait, and there is room
pub returns-else-not-room-clause-recorded : goal.returns-else-not-room-clause-recorded
returns-else-not-room-clause-recorded c =
    let r : Rows = c.self.inside.links in
    let low : c.args.band < bands = omega (arith, c.ranges.band) in
    let free : holder (node_of c.args.queue c.args.band) r ≡ None =
    (λ i. holder (sym c.from-2.ensures i * bands + sym c.from-3.ensures i) r) ∙ sym c.list_of.ensures.value ∙ c.in-None.is in
    sym c.self.view_is
    ∙ same_answer c.args.queue c.args.band true c.args.room (writers_in r) _ c.args.self.now
    (room-none r c.self.invariant c.args.queue c.args.band low free)
    c.if-not-room.false c.self.view_is

-- ---- who still waits

pub returns-then-from-ge-MOST_QUEUES-clause-stay : goal.returns-then-from-ge-MOST_QUEUES-clause-stay
returns-then-from-ge-MOST_QUEUES-clause-stay c = stay_recorded c.args.queue c.args.band c.args.room c.args.self.now _ (returns-then-from-ge-MOST_QUEUES-clause-recorded c)

pub returns-then-room-clause-stay : goal.returns-then-room-clause-stay
returns-then-room-clause-stay c = stay_recorded c.args.queue c.args.band c.args.room c.args.self.now _ (returns-then-room-clause-recorded c)

pub returns-else-room-clause-stay : goal.returns-else-room-clause-stay
returns-else-room-clause-stay c = stay_recorded c.args.queue c.args.band c.args.room c.args.self.now _ (returns-else-room-clause-recorded c)

pub returns-then-not-room-clause-stay : goal.returns-then-not-room-clause-stay
returns-then-not-room-clause-stay c = stay_recorded c.args.queue c.args.band c.args.room c.args.self.now _ (returns-then-not-room-clause-recorded c)

pub returns-else-not-room-clause-stay : goal.returns-else-not-room-clause-stay
returns-else-not-room-clause-stay c = stay_recorded c.args.queue c.args.band c.args.room c.args.self.now _ (returns-else-not-room-clause-recorded c)
