-- How `Desks` stores its desks in slots. No public clause cites this module.
use Rattle.std.specs.Prelude.{◌≤◌, List, map, length, Option, Some, None, IsSome}
use Rattle.std.specs.List.{All}
use Rattle.strm_shared.specs.declared.desk_slot.DeskSlot.{DeskSlot}
use Rattle.strm_shared.specs.Desks.{DeskValue, no_desk}
use Rattle.strm_pool.specs.Limits.{most_workers}

-- a slot has a desk
abbrev pub IsFilled : {N : Type 0} → DeskSlot N → Type 0
IsFilled s = IsSome s.desk

-- a slot with this desk
abbrev pub slot_with : {N : Type 0} → DeskValue → DeskSlot N
slot_with d = record { desk = Some d }

abbrev pub desk_or : Option DeskValue → DeskValue
desk_or (Some d) = d
desk_or None = no_desk

abbrev pub desk_in : {N : Type 0} → DeskSlot N → DeskValue
desk_in s = desk_or s.desk

abbrev pub desks_in : {N : Type 0} → List (DeskSlot N) → List DeskValue
desks_in ss = map desk_in ss

-- there are at most `most_workers` slots, and each has a desk
abbrev pub AreFilled : {N : Type 0} → List (DeskSlot N) → Type 0
AreFilled ss = (length ss ≤ most_workers) × All IsFilled ss
