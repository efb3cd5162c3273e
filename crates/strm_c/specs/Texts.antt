-- The names and the texts of the codes in strm.h, and the version.
use Rattle.std.specs.Prelude.{ℕ, ℤ, pos, ◌++◌, drop, length, List, [], ◌∷◌, take, find, Option, codes, if◌then◌else◌}
use Rattle.std.specs.Option.{option_map_or}
use Rattle.std.specs.Ordering.{int_eq}
use Rattle.strm_data.specs.declared.refusal.Refusal.TheVariants.{TooLarge, NoMblk, NoData, RefMax, NoSuchBlock, Shared, NoRoom, Short, NoSuchPlace, BadOrder, NoSuchQueue, Full, IdsSpent, NotPending, Stranger, TraceFull, Worn, DeskMissing, BadMarks, BadShared}
use Rattle.strm_pool.specs.declared.config.Which.TheVariants as which
use Rattle.strm_c.specs.declared.code.Code.{Code}
use Rattle.strm_c.specs.declared.code.Code.TheVariants.{BadArgument, BadConfig, Invalid, IsOpen, NoMemory, NotOpen, Nothing, Refused}
use Rattle.strm_c.specs.Codes.{number_of}

-- all codes of strm.h but 0
abbrev pub all_codes : List Code
all_codes = (Refused TooLarge) ∷ (Refused NoMblk) ∷ (Refused NoData) ∷ (Refused RefMax) ∷ (Refused NoSuchBlock) ∷ (Refused Shared) ∷ (Refused NoRoom) ∷ (Refused Short) ∷ (Refused NoSuchPlace) ∷ (Refused BadOrder) ∷ (Refused NoSuchQueue) ∷ (Refused Full) ∷ (Refused IdsSpent) ∷ (Refused NotPending) ∷ (Refused BadMarks) ∷ Nothing ∷ Invalid ∷ NotOpen ∷ BadArgument ∷ IsOpen ∷ NoMemory ∷ (BadConfig which.Mblks) ∷ (BadConfig which.Classes) ∷ (BadConfig which.ClassSize) ∷ (BadConfig which.ClassTotal) ∷ (BadConfig which.Queues) ∷ (BadConfig which.Marks) ∷ (BadConfig which.Next) ∷ (BadConfig which.Bufcalls) ∷ (BadConfig which.FirstId) ∷ []

-- the text of a number that is no code
abbrev pub no_text : List ℕ
no_text = codes "no such code"

-- The name of a code. Refusals that no call of strm.h returns have an empty one.
abbrev pub name_of : Code → List ℕ
name_of (Refused TooLarge) = codes "STRM_TOO_LARGE"
name_of (Refused NoMblk) = codes "STRM_NO_MBLK"
name_of (Refused NoData) = codes "STRM_NO_DATA"
name_of (Refused RefMax) = codes "STRM_REF_MAX"
name_of (Refused NoSuchBlock) = codes "STRM_NO_SUCH_BLOCK"
name_of (Refused Shared) = codes "STRM_SHARED"
name_of (Refused NoRoom) = codes "STRM_NO_ROOM"
name_of (Refused Short) = codes "STRM_SHORT"
name_of (Refused NoSuchPlace) = codes "STRM_NO_SUCH_PLACE"
name_of (Refused BadOrder) = codes "STRM_BAD_ORDER"
name_of (Refused NoSuchQueue) = codes "STRM_NO_SUCH_QUEUE"
name_of (Refused Full) = codes "STRM_FULL"
name_of (Refused IdsSpent) = codes "STRM_IDS_SPENT"
name_of (Refused NotPending) = codes "STRM_NOT_PENDING"
name_of (Refused BadMarks) = codes "STRM_BAD_MARKS"
name_of Nothing = codes "STRM_NONE"
name_of Invalid = codes "STRM_INVALID"
name_of NotOpen = codes "STRM_NOT_OPEN"
name_of BadArgument = codes "STRM_BAD_ARGUMENT"
name_of IsOpen = codes "STRM_IS_OPEN"
name_of NoMemory = codes "STRM_NO_MEMORY"
name_of (BadConfig which.Mblks) = codes "STRM_BAD_MBLKS"
name_of (BadConfig which.Classes) = codes "STRM_BAD_CLASSES"
name_of (BadConfig which.ClassSize) = codes "STRM_BAD_CLASS_SIZE"
name_of (BadConfig which.ClassTotal) = codes "STRM_BAD_CLASS_TOTAL"
name_of (BadConfig which.Queues) = codes "STRM_BAD_QUEUES"
name_of (BadConfig which.Marks) = codes "STRM_BAD_QUEUE_MARKS"
name_of (BadConfig which.Next) = codes "STRM_BAD_NEXT"
name_of (BadConfig which.Bufcalls) = codes "STRM_BAD_BUFCALLS"
name_of (BadConfig which.FirstId) = codes "STRM_BAD_FIRST_ID"
name_of (Refused Stranger) = []
name_of (Refused TraceFull) = []
name_of (Refused Worn) = []
name_of (Refused DeskMissing) = []
name_of (Refused BadShared) = []

abbrev pub text_of : Code → List ℕ
text_of (Refused TooLarge) = codes "the size is above the largest class"
text_of (Refused NoMblk) = codes "fewer message blocks are free than the call needs"
text_of (Refused NoData) = codes "no data block is free of a class that fits"
text_of (Refused RefMax) = codes "more than 255 message blocks would refer to a data block"
text_of (Refused NoSuchBlock) = codes "the message has no such block"
text_of (Refused Shared) = codes "more than one message block refers to the data block"
text_of (Refused NoRoom) = codes "the bytes do not fit in the data block"
text_of (Refused Short) = codes "the message has too few bytes, or too few of one type"
text_of (Refused NoSuchPlace) = codes "the queue has no such place"
text_of (Refused BadOrder) = codes "the ranks would rise from front to back"
text_of (Refused NoSuchQueue) = codes "there is no such queue"
text_of (Refused Full) = codes "no more wishes can be recorded"
text_of (Refused IdsSpent) = codes "the last id was given"
text_of (Refused NotPending) = codes "no wish has this id"
text_of (Refused BadMarks) = codes "the low water mark is not below the high one"
text_of Nothing = codes "done, and there is nothing to give"
text_of Invalid = codes "a name is not valid"
text_of NotOpen = codes "the handle is not open"
text_of BadArgument = codes "a pointer is null, or a number is out of range"
text_of IsOpen = codes "the handle is open already"
text_of NoMemory = codes "there is not enough memory"
text_of (BadConfig which.Mblks) = codes "message blocks are not 1 to 16383"
text_of (BadConfig which.Classes) = codes "there is no size class"
text_of (BadConfig which.ClassSize) = codes "sizes do not rise, or are not 1 to 4096"
text_of (BadConfig which.ClassTotal) = codes "a class has no data block, or all have more than 16383"
text_of (BadConfig which.Queues) = codes "there is no queue"
text_of (BadConfig which.Marks) = codes "a queue's low water mark is not below the high one"
text_of (BadConfig which.Next) = codes "a next queue is not there, has no greater number, or is named twice"
text_of (BadConfig which.Bufcalls) = codes "there are more than 64 wishes"
text_of (BadConfig which.FirstId) = codes "the first id is 0"
text_of (Refused Stranger) = no_text
text_of (Refused TraceFull) = no_text
text_of (Refused Worn) = no_text
text_of (Refused DeskMissing) = no_text
text_of (Refused BadShared) = no_text

-- the first of these codes that has this number, if any
abbrev pub first_at : List Code → ℤ → Option Code
first_at cs n = find (λ c. int_eq (number_of c) n) cs

-- the code with this number, if any
unfoldable pub code_at : ℤ → Option Code
code_at n = first_at all_codes n

-- the name of the code with this number, or an empty text if there is none
abbrev pub name_at : ℤ → List ℕ
name_at n = if int_eq n (pos 0) then codes "STRM_OK" else option_map_or name_of (code_at n) []

-- the text of the code with this number
abbrev pub text_at : ℤ → List ℕ
text_at n = if int_eq n (pos 0) then codes "done" else option_map_or text_of (code_at n) no_text

abbrev pub version : List ℕ
version = codes "0.12.0"

-- a buffer after as much of a text as fits was copied into it
abbrev pub buffer_with_text : List ℕ → List ℕ → List ℕ
buffer_with_text text into = take (length into) text ++ drop (length text) into
