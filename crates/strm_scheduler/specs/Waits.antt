-- Queues that rest because the blocks that their modules need are not free: when they do, and who wakes them.
use Rattle.std.specs.Prelude.{◌≡◌, ◌≢◌, ℕ, zero, suc, Bool, true, false, not, ◌||◌, filter, List, [], ◌∷◌, length, map, Option, None, Some, Ok, is_some, if◌then◌else◌, nat_eq, ◌+◌, ◌-◌, ◌++◌}
use Rattle.strm_scheduler.specs.declared.ended.Ended.{Ended}
use Rattle.strm_scheduler.specs.declared.ended.Ended.TheVariants.{HeldBack, Idle}
use Rattle.strm_scheduler.specs.declared.need.Need.{Need}
use Rattle.strm_links.specs.Rows as rows
use Rattle.strm_mblk.specs.Arena.{Arena}
use Rattle.strm_pool.specs.PoolValue.{PoolValue, queued_blocks_of}
use Rattle.strm_queue.specs.declared.queued_info.QueuedInfo.{QueuedInfo}
use Rattle.strm_queue.specs.Flow.{enabled_where}
use Rattle.strm_queue.specs.QueueLooks.{queued_at}
use Rattle.strm_scheduler.specs.Modules.{IsHeldBack, IsRunWith, Needs, Treats}
use Rattle.strm_scheduler.specs.Needs.{are_free, can_wait}
use Rattle.strm_scheduler.specs.Laws.{KeepsQueued}
use Rattle.strm_scheduler.specs.Sides.{NoneWaits, SidesValue, need_at, next_of}
use Rattle.std.specs.List.{All}
use Rattle.strm_queue.specs.Limits.{most_queues}
use Rattle.strm_scheduler.specs.Serving.{times_of, work}
use Rattle.strm_scheduler.specs.Steps.{with_run}

-- ---- waking

-- whether the wait of a queue is over: `all` says so of each, and otherwise what it waits for is free
abbrev pub is_over : Bool → Arena → Option Need → Bool
is_over all a None = false
is_over all a (Some need) = all || are_free need a

-- what the queue waits for, unless its wait is over
abbrev pub unless_over : Bool → Arena → Option Need → Option Need
unless_over all a o = if is_over all a o then None else o

-- queue q is enabled if `so` is true
abbrev pub with_queue_woken : Bool → ℕ → PoolValue → PoolValue
with_queue_woken so q v = record v { queues = enabled_where so q v.queues }

-- of the queues below this number, those whose wait is over are enabled, in the order of their numbers
abbrev pub with_queues_woken : Bool → List (Option Need) → ℕ → PoolValue → PoolValue
with_queues_woken all waits zero v = v
with_queues_woken all waits (suc q) v = with_queue_woken (is_over all v.arena (need_at waits q)) q (with_queues_woken all waits q v)

-- the queues whose wait is over are enabled, and wait no longer
abbrev pub with_woken : Bool → SidesValue → SidesValue
with_woken all v = record { pool = with_queues_woken all v.waits (length v.waits) v.pool; waits = map (unless_over all v.pool.arena) v.waits }

-- all queues that wait are enabled: so a run begins
abbrev pub with_all_woken : SidesValue → SidesValue
with_all_woken v = with_woken true v

-- exactly the queues are enabled whose blocks are free now: so a call ends that may free blocks
abbrev pub with_ready_woken : SidesValue → SidesValue
with_ready_woken v = with_woken false v

-- A call on the pool was made, and then exactly the queues were woken whose blocks are free now.
abbrev pub ThenWakes : (PoolValue → Type 0) → SidesValue → SidesValue → Type 0
ThenWakes does old new = (left : PoolValue) × does left × (new ≡ with_ready_woken (record { pool = left; waits = old.waits }))

-- What waking does to queue q, if a call left the pool x.
pub record IsReadyWoken (q : ℕ) (x : PoolValue) (waits : List (Option Need)) (w : SidesValue) : Type 0 where
  -- if what it waits for is free, it is on the run list, and waits no longer
  pub wakes : (need : Need) → need_at waits q ≡ Some need → are_free need x.arena ≡ true → (rows.has q w.pool.queues.run ≡ true) × (need_at w.waits q ≡ None)
  -- otherwise it is as before
  pub alone : ((need : Need) → need_at waits q ≡ Some need → are_free need x.arena ≡ false)
      → (rows.has q w.pool.queues.run ≡ rows.has q x.queues.run) × (need_at w.waits q ≡ need_at waits q)

-- whatever a call on held messages does, exactly the queues are woken whose blocks are free then
abbrev pub AreReadyWoken : SidesValue → Type 0
AreReadyWoken v = (x : PoolValue) → KeepsQueued v.pool x → (q n : ℕ) → next_of v.pool.queues.specs q ≡ Some n
    → IsReadyWoken q x v.waits (with_ready_woken (record { pool = x; waits = v.waits }))

-- ---- resting

-- What queue q waits for at the end of a run that left queues held back. If it is on the run list, the module was asked what it needs
-- for the first message. The queue waits for that exactly if it is not free, can become free, and is not wanted later.
abbrev pub IsEntry : {M : Type 0} → Needs M → M → ℕ → PoolValue → Option Need → Type 0
IsEntry needs m q v (Some need) = (rows.has q v.queues.run ≡ true)
    × ((first : QueuedInfo) × (queued_at q 0 (queued_blocks_of v) ≡ Ok first) × needs m v q first need × (can_wait need v.arena ≡ true))
IsEntry needs m q v None = rows.has q v.queues.run ≡ true → (first : QueuedInfo) → queued_at q 0 (queued_blocks_of v) ≡ Ok first
    → (need : Need) × needs m v q first need × (can_wait need v.arena ≡ false)

abbrev pub AreEntries : {M : Type 0} → Needs M → M → PoolValue → List (Option Need) → Type 0
AreEntries needs m v waits = (q : ℕ) → IsEntry needs m q v (need_at waits q)

-- these queues, without those that wait
abbrev pub not_waiting : List (Option Need) → List ℕ → List ℕ
not_waiting waits qs = filter (λ q. not (is_some (need_at waits q))) qs

-- Queues that are held back for blocks leave the run list, and rest. The others stay there, in their order.
pub record Rests {M : Type 0} (needs : Needs M) (m : M) (v : PoolValue) (w : SidesValue) : Type 0 where
  pub pool : w.pool ≡ with_run (not_waiting w.waits v.queues.run) v
  pub entries : AreEntries needs m v w.waits

-- how a run ended that leaves this run list
abbrev pub ended_by : List ℕ → Ended
ended_by [] = Idle
ended_by (q ∷ qs) = HeldBack

-- What a run of sides did. All queues that wait were enabled; then the run was as that of a pool, which it left like `left`. If queues
-- were held back then, those rest that wait for blocks.
pub record IsRunOfSides {M : Type 0} (needs : Needs M) (treats : Treats M) (budget : Option ℕ) (m : M) (v : SidesValue) (ended : Ended) (k : M) (w : SidesValue) : Type 0 where
  pub left : PoolValue
  pub before : Ended
  pub ran : IsRunWith needs treats budget m (with_all_woken v).pool before k left
  pub rests : before ≡ HeldBack → Rests needs k left w × (ended ≡ ended_by w.pool.queues.run)
  pub ends : before ≢ HeldBack → (w.pool ≡ left) × NoneWaits w.waits × (ended ≡ before)

-- ---- the run list while queues are held back; no public clause cites this

-- this number of queues, the last ones of the run list, are held back
pub record AreLastHeldBack {M : Type 0} (needs : Needs M) (m : M) (count : ℕ) (v : PoolValue) : Type 0 where
  pub front : List ℕ
  pub back : List ℕ
  pub run : v.queues.run ≡ front ++ back
  pub count_is : length back ≡ count
  pub held : All (λ q. IsHeldBack needs m q v true) back

-- whether there is a budget of services, and nothing is left of it
abbrev pub is_spent : Option ℕ → Bool
is_spent None = false
is_spent (Some services) = nat_eq services 0

-- what a run with a module makes less: the work, or the services that are left; then the queues that were not yet found held back
abbrev pub work_left : Option ℕ → PoolValue → ℕ → ℕ
work_left None v held = times_of (work (queued_blocks_of v)) (suc most_queues) + (length v.queues.run - held)
work_left (Some services) v held = times_of services (suc most_queues) + (length v.queues.run - held)
