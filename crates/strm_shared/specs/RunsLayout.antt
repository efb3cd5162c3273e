-- How workers are stored while they work. No public clause cites this module.
use Rattle.std.specs.Prelude.{◌≡◌, Bool, true, ℕ, ◌+◌, ◌≤◌, List, [], ◌∷◌, length, vec_capacity}
use Rattle.std.specs.Global.{Vec}
use Rattle.strm_pool.specs.declared.reply.Reply.{Reply}
use Rattle.strm_pool.specs.declared.line.Line.{Line}
use Rattle.strm_shared.specs.declared.name.Name.{Ghosts}
use Rattle.strm_shared.specs.declared.workers.carried.Carried.{Carried}
use Rattle.strm_shared.specs.declared.workers.crew.Done.{Done}
use Rattle.strm_shared.specs.declared.workers.room.Room.{Room}
use Rattle.strm_shared.specs.declared.workers.started.Started.{Started}
use Rattle.strm_shared.specs.declared.workers.started.Started.TheVariants.{Running, Not}
use Rattle.strm_shared.specs.Desks.{DeskValue}
use Rattle.strm_shared.specs.Keeping.{WorkedKeeping}
use Rattle.strm_pool.specs.Limits.{most_workers}

-- there is no reply yet; if replies are kept, there is room for one to each line
abbrev pub IsReady : Bool → List Line → Vec Reply → Type 0
IsReady keeps lines replies = (replies.items ≡ []) × (keeps ≡ true → length lines ≤ vec_capacity replies)

-- there is room for the replies to each part
abbrev pub AreReady : Bool → List (List Line) → List (Vec Reply) → Type 0
AreReady keeps [] [] = Unit {0}
AreReady keeps (lines ∷ parts) (replies ∷ rooms) = IsReady keeps lines replies × AreReady keeps parts rooms
AreReady keeps parts rooms = ⊥

-- a thread runs that serves the lines on this desk, or the worker has ended
abbrev pub IsStartedFor : {N : Type 0} → Bool → Ghosts N → List Line → DeskValue → Started N → Type 0
IsStartedFor keeps n lines d (Running child) = (child.promise.keeps ≡ keeps) × (child.promise.lines.now ≡ lines) × (child.promise.desk.value ≡ d)
IsStartedFor keeps n lines d (Not w) = WorkedKeeping keeps n lines d w.end w.replies.items w.desk

-- there is room for this number of further workers
abbrev pub HasRoom : {N : Type 0} → ℕ → Done N → Type 0
HasRoom n o = (length o.desks + n ≤ most_workers) × (length o.replies.items + n ≤ vec_capacity o.replies) × (length o.ends.items + n ≤ vec_capacity o.ends)

-- no worker has ended
abbrev pub IsEmpty : {N : Type 0} → Done N → Type 0
IsEmpty o = (o.desks ≡ []) × (o.replies.items ≡ []) × (o.ends.items ≡ [])

-- the memory is there that serving these parts takes
abbrev pub IsRoomFor : Bool → List (List Line) → Room → Type 0
IsRoomFor keeps parts r =
    AreReady keeps parts r.rooms.items
    × (r.replies.items ≡ []) × (r.ends.items ≡ []) × (length parts ≤ vec_capacity r.replies) × (length parts ≤ vec_capacity r.ends)

-- the workers for these parts, none of them started
pub record IsCarried {N : Type 0} (keeps : Bool) (parts : List (List Line)) (c : Carried N) : Type 0 where
  pub few : length parts ≤ most_workers
  pub desks : length c.crew.desks ≡ length parts
  pub ready : AreReady keeps parts c.crew.rooms.items
  pub room : HasRoom (length parts) c.done
  pub empty : IsEmpty c.done
