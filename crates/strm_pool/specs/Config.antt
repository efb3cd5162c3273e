-- When a configuration is lawful; if it is not, its first fault.
use Rattle.std.specs.Prelude.{ℕ, Bool, not, ◌&&◌, ◌||◌, ◌==◌, nat_lt, nat_le, List, length, Option, Some, None, if◌then◌else◌, codes}
use Rattle.strm_data.specs.Classes.{sizes_rise, each_has_blocks, total_of}
use Rattle.strm_data.specs.Limits.{most_data_blocks}
use Rattle.strm_mblk.specs.Limits.{most_message_blocks}
use Rattle.strm_queue.specs.QueueSpecs.{marks_meet, nexts_fit}
use Rattle.strm_pool.specs.declared.config.Config.{Config}
use Rattle.strm_pool.specs.declared.config.Which.{Which}
use Rattle.strm_pool.specs.declared.config.Which.TheVariants.{Mblks, Classes, ClassSize, ClassTotal, Queues, Marks, Next, Bufcalls, FirstId}
use Rattle.strm_pool.specs.Limits.{most_wishes}

abbrev pub name_of : Which → List ℕ
name_of Mblks = codes "Mblks"
name_of Classes = codes "Classes"
name_of ClassSize = codes "ClassSize"
name_of ClassTotal = codes "ClassTotal"
name_of Queues = codes "Queues"
name_of Marks = codes "Marks"
name_of Next = codes "Next"
name_of Bufcalls = codes "Bufcalls"
name_of FirstId = codes "FirstId"

-- whether a list is empty
abbrev pub is_nil : {X : Type 0} → List X → Bool
is_nil xs = length xs == 0

-- the first fault of a configuration, if any, in the order of `Which`
abbrev pub fault_of : Config → Option Which
fault_of c =
    if not (nat_le 1 c.mblks && nat_le c.mblks most_message_blocks) then Some Mblks
    else (if is_nil c.classes then Some Classes
    else (if not (sizes_rise 0 c.classes) then Some ClassSize
    else (if not (each_has_blocks c.classes) || nat_lt most_data_blocks (total_of c.classes) then Some ClassTotal
    else (if is_nil c.queues then Some Queues
    else (if marks_meet c.queues then Some Marks
    else (if not (nexts_fit c.queues) then Some Next
    else (if nat_lt most_wishes c.bufcalls then Some Bufcalls
    else (if c.first_id == 0 then Some FirstId else None))))))))
