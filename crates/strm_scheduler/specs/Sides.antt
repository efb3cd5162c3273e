-- Sides of streams: each queue with a service procedure passes messages on to its next queue.
use Rattle.std.specs.Prelude.{◌≡◌, ℕ, ◌+◌, Bool, true, false, List, [], ◌∷◌, Option, None, Some, Result, Ok, Err, is_some, slice_index_or, zero, suc, ◌<◌, ◌++◌, length, map}
use Rattle.strm_pool.specs.declared.config.Config.{Config}
use Rattle.strm_pool.specs.PoolValue.{Opens, PoolValue}
use Rattle.strm_queue.specs.declared.queue_spec.QueueSpec.{QueueSpec}
use Rattle.strm_queue.specs.Flow.{behind, spec_at}
use Rattle.strm_scheduler.specs.declared.need.Need.{Need}
use Rattle.strm_scheduler.specs.declared.sides_fault.SidesFault.{SidesFault}
use Rattle.strm_scheduler.specs.declared.sides_fault.SidesFault.TheVariants.{NoNext, NoService, NotMade}
use Rattle.strm_mblk.specs.Block.{Message}
use Rattle.strm_mblk.specs.Arena.{Arena, shelf_at}
use Rattle.strm_queue.specs.Ends.{of_rank}
use Rattle.strm_queue.specs.Rank.{as_queued, rank_of}

-- the next queue of q, if any
abbrev pub next_of : List QueueSpec → ℕ → Option ℕ
next_of specs q = (spec_at specs q).next

-- Queues form sides if exactly those with a next queue have a service procedure, which passes messages on to that queue. A side
-- ends at a queue without a next queue, from which the user takes messages.
abbrev pub AreSides : List QueueSpec → Type 0
AreSides specs = (q : ℕ) → (spec_at specs q).service ≡ is_some (next_of specs q)

-- ---- sides as a value

-- Sides: their pool, and for each queue what it waits for, if it rests because that is not free.
pub record SidesValue : Type 0 where
  pub pool : PoolValue
  pub waits : List (Option Need)

-- what queue q waits for, if anything
abbrev pub need_at : List (Option Need) → ℕ → Option Need
need_at waits q = slice_index_or waits q None

-- no queue waits for anything that is not free
abbrev pub NoneWaits : List (Option Need) → Type 0
NoneWaits waits = (q : ℕ) → need_at waits q ≡ None

-- ---- a configuration without sides

-- what is wrong with queue q, by whether it has a service procedure and a next queue
abbrev pub fault_of_queue : ℕ → Bool → Option ℕ → Option SidesFault
fault_of_queue q true None = Some (NoNext q)
fault_of_queue q true (Some n) = None
fault_of_queue q false None = None
fault_of_queue q false (Some n) = Some (NoService q)

-- this fault, if there is one; otherwise another
abbrev pub or_fault : Option SidesFault → Option SidesFault → Option SidesFault
or_fault (Some fault) other = Some fault
or_fault None other = other

-- the first fault of these queues, which are numbered from q
abbrev pub fault_from : ℕ → List QueueSpec → Option SidesFault
fault_from q [] = None
fault_from q (s ∷ specs) = or_fault (fault_of_queue q s.service s.next) (fault_from (q + 1) specs)

-- The first fault of the sides is returned. If there is none, the pool opens, or its fault is returned.
abbrev pub SidesOpen : Config → Result SidesValue SidesFault → Type 0
SidesOpen c (Ok v) = (fault_from 0 c.queues ≡ None) × Opens c (Ok v.pool) × NoneWaits v.waits
SidesOpen c (Err (NoNext q)) = fault_from 0 c.queues ≡ Some (NoNext q)
SidesOpen c (Err (NoService q)) = fault_from 0 c.queues ≡ Some (NoService q)
SidesOpen c (Err (NotMade why)) = (fault_from 0 c.queues ≡ None) × Opens c (Err why)

-- ---- the messages of a side, in the order in which its last queue gives them

-- the messages of a rank on queue q, as a queue has them
abbrev pub part_of : Arena → ℕ → ℕ → List Message
part_of a rank q = map (as_queued a.store) (of_rank (rank_of a.store) rank (shelf_at a q))

-- the messages of a rank on a queue, if there is one, and behind it, at most this many queues
abbrev pub side_within : ℕ → List QueueSpec → Arena → ℕ → Option ℕ → List Message
side_within zero specs a rank o = []
side_within (suc steps) specs a rank None = []
side_within (suc steps) specs a rank (Some q) = part_of a rank q ++ side_within steps specs a rank (behind specs q)

-- the messages of a rank on the side that ends at queue q
abbrev pub side_of : List QueueSpec → Arena → ℕ → ℕ → List Message
side_of specs a rank q = side_within (length specs) specs a rank (Some q)

-- Each side has the same messages as before, and within each rank in the same order.
abbrev pub KeepsOrder : PoolValue → PoolValue → Type 0
KeepsOrder old new = (end rank : ℕ) → next_of old.queues.specs end ≡ None → end < length old.queues.specs
    → side_of old.queues.specs new.arena rank end ≡ side_of old.queues.specs old.arena rank end
