-- The number and the name of each refusal, as transcripts show them.
use Rattle.std.specs.Prelude.{ℕ, List, codes}
use Rattle.strm_data.specs.declared.refusal.Refusal.{Refusal}
use Rattle.strm_data.specs.declared.refusal.Refusal.TheVariants.{TooLarge, NoMblk, NoData, RefMax, NoSuchBlock, Shared, NoRoom, Short, NoSuchPlace, BadOrder, NoSuchQueue, Full, IdsSpent, NotPending, Stranger, TraceFull, Worn, DeskMissing, BadMarks, BadShared}

abbrev pub number_of : Refusal → ℕ
number_of TooLarge = 1
number_of NoMblk = 2
number_of NoData = 3
number_of RefMax = 4
number_of NoSuchBlock = 5
number_of Shared = 6
number_of NoRoom = 7
number_of Short = 8
number_of NoSuchPlace = 9
number_of BadOrder = 10
number_of NoSuchQueue = 11
number_of Full = 12
number_of IdsSpent = 13
number_of NotPending = 14
number_of Stranger = 16
number_of TraceFull = 17
number_of Worn = 18
number_of DeskMissing = 19
number_of BadMarks = 20
number_of BadShared = 21

abbrev pub name_of : Refusal → List ℕ
name_of TooLarge = codes "TooLarge"
name_of NoMblk = codes "NoMblk"
name_of NoData = codes "NoData"
name_of RefMax = codes "RefMax"
name_of NoSuchBlock = codes "NoSuchBlock"
name_of Shared = codes "Shared"
name_of NoRoom = codes "NoRoom"
name_of Short = codes "Short"
name_of NoSuchPlace = codes "NoSuchPlace"
name_of BadOrder = codes "BadOrder"
name_of NoSuchQueue = codes "NoSuchQueue"
name_of Full = codes "Full"
name_of IdsSpent = codes "IdsSpent"
name_of NotPending = codes "NotPending"
name_of Stranger = codes "Stranger"
name_of TraceFull = codes "TraceFull"
name_of Worn = codes "Worn"
name_of DeskMissing = codes "DeskMissing"
name_of BadMarks = codes "BadMarks"
name_of BadShared = codes "BadShared"
