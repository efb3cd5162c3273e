-- Flow control: the bytes and the water marks of a band, the flags of a queue, and which queue a call enables.
use Rattle.std.specs.Prelude.{ℕ, zero, suc, Bool, true, false, not, ◌&&◌, ◌||◌, ◌==◌, ◌<◌, nat_le, nat_lt, List, [], ◌∷◌, ◌++◌, length, map, sum_by, slice_index_or, slice_set, replicate, Option, None, Some, if◌then◌else◌}
use Rattle.std.specs.List.{list_any, position, range_with_len}
use Rattle.std.specs.Option.{option_map_or}
use Rattle.strm_data.specs.DataStore.{DataStore}
use Rattle.strm_links.specs.Rows as rows
use Rattle.strm_mblk.specs.Block.{Message, size_of}
use Rattle.strm_queue.specs.declared.marks.Marks.{Marks}
use Rattle.strm_queue.specs.declared.queue_spec.QueueSpec.{QueueSpec}
use Rattle.strm_queue.specs.Limits.{bands, high_rank}
use Rattle.strm_queue.specs.Rank.{rank_of}

-- ---- bytes

-- the band with which a message of this rank counts: band 0 for high priority, whose rank is above all bands
abbrev pub band_of_rank : ℕ → ℕ
band_of_rank r = if nat_lt r bands then r else 0

-- whether a message counts with a band
abbrev pub is_of_band : DataStore → ℕ → Message → Bool
is_of_band s band m = band_of_rank (rank_of s m) == band

-- the number of bytes of these messages
abbrev pub bytes_on : List Message → ℕ
bytes_on ms = sum_by size_of ms

-- the number of bytes of the messages of a band
abbrev pub band_count : DataStore → ℕ → List Message → ℕ
band_count s band ms = sum_by (λ m. if is_of_band s band m then size_of m else 0) ms

-- ---- the state of queues

-- The flags of a queue. read: the want-to-read mark, set in a new queue, and by a `getq` that returns none; a `getq` that
-- returns a message clears it. noenable: enabling is switched off. wanted: the bands that `bcanput` found full, until settling
-- finds that they have drained.
pub record Flags : Type 0 where
  pub read : Bool
  pub noenable : Bool
  pub wanted : List Bool

-- The state of queues: the specs that they were made with, the water marks of each queue's bands, the flags of each queue,
-- and the run list, first queue first.
pub record QueueState : Type 0 where
  pub specs : List QueueSpec
  pub marks : List (List Marks)
  pub flags : List Flags
  pub run : List ℕ

-- whether a set of bands, given as one Bool for each band, has this band
abbrev pub has_band : List Bool → ℕ → Bool
has_band set band = slice_index_or set band false

-- the bands of a queue, 0 to 255
unfoldable pub every_band : List ℕ
every_band = range_with_len 0 bands

-- the set of the bands of which this is true
abbrev pub bands_where : (ℕ → Bool) → List Bool
bands_where true_of = map true_of every_band

-- the flags of a new queue: the want-to-read mark is set, enabling is on, and no band is wanted
abbrev pub opening_flags : Flags
opening_flags = record { read = true; noenable = false; wanted = bands_where (λ band. false) }

-- the water marks that each band of a new queue has: those of its spec
abbrev pub spec_marks : QueueSpec → Marks
spec_marks spec = record { hiwat = spec.hiwat; lowat = spec.lowat }

abbrev pub opening_marks : QueueSpec → List Marks
opening_marks spec = replicate bands (spec_marks spec)

-- new queues have no messages, and the run list is empty
abbrev pub opening_queues : List QueueSpec → QueueState
opening_queues specs = record { specs = specs; marks = map opening_marks specs; flags = map (λ s. opening_flags) specs; run = [] }

-- the spec that is found for a number without a queue
abbrev pub no_spec : QueueSpec
no_spec = record { hiwat = 0; lowat = 0; service = false; next = None }

abbrev pub spec_at : List QueueSpec → ℕ → QueueSpec
spec_at specs q = slice_index_or specs q no_spec

abbrev pub flags_at : QueueState → ℕ → Flags
flags_at s q = slice_index_or s.flags q opening_flags

-- the queues once queue q has these flags
abbrev pub with_flags : ℕ → Flags → QueueState → QueueState
with_flags q f s = record s { flags = slice_set s.flags q f }

-- the want-to-read mark of queue q is set or cleared
abbrev pub with_read : ℕ → Bool → QueueState → QueueState
with_read q read s = with_flags q (record (flags_at s q) { read = read }) s

-- enabling of queue q is switched off or on
abbrev pub with_noenable : ℕ → Bool → QueueState → QueueState
with_noenable q noenable s = with_flags q (record (flags_at s q) { noenable = noenable }) s

-- band b of queue q is wanted: `bcanput` found it full
abbrev pub with_wanted : ℕ → ℕ → QueueState → QueueState
with_wanted q b s = with_flags q (record (flags_at s q) { wanted = slice_set (flags_at s q).wanted b true }) s

-- ---- water marks

-- the water marks that are found for a number without a band
abbrev pub no_marks : Marks
no_marks = record { hiwat = 0; lowat = 0 }

-- the water marks of the bands of queue q, and those of one of them
abbrev pub marks_of : QueueState → ℕ → List Marks
marks_of s q = slice_index_or s.marks q []

abbrev pub marks_at : QueueState → ℕ → ℕ → Marks
marks_at s q band = slice_index_or (marks_of s q) band no_marks

-- one band of queue q has these water marks; all other bands keep theirs
abbrev pub with_marks : ℕ → ℕ → Marks → QueueState → QueueState
with_marks q band m s = record s { marks = slice_set s.marks q (slice_set (marks_of s q) band m) }

-- the high and the low water mark of a band of queue q
abbrev pub hiwat_of : QueueState → ℕ → ℕ → ℕ
hiwat_of s q band = (marks_at s q band).hiwat

abbrev pub lowat_of : QueueState → ℕ → ℕ → ℕ
lowat_of s q band = (marks_at s q band).lowat

-- the low water mark of each band is below its high one
abbrev pub AreMarksApart : QueueState → Type 0
AreMarksApart s = (q band : ℕ) → q < length s.specs → band < bands → lowat_of s q band < hiwat_of s q band

-- a band is full if it has at least as many bytes as its high water mark
abbrev pub fills : ℕ → ℕ → Bool
fills hiwat count = nat_le hiwat count

-- a band has drained if it has at most as many bytes as its low water mark
abbrev pub has_drained : ℕ → ℕ → Bool
has_drained lowat count = nat_le count lowat

-- a wanted band is relieved if it has drained, by the bytes and the low water mark of each band
abbrev pub is_relieved : List Bool → (ℕ → ℕ) → (ℕ → ℕ) → ℕ → Bool
is_relieved wanted counts lowat band = has_band wanted band && has_drained (lowat band) (counts band)

-- whether some wanted band has drained
abbrev pub some_relieved : List Bool → (ℕ → ℕ) → (ℕ → ℕ) → Bool
some_relieved wanted counts lowat = list_any (is_relieved wanted counts lowat) every_band

-- the wanted bands that have not drained
abbrev pub still_wanted : List Bool → (ℕ → ℕ) → (ℕ → ℕ) → List Bool
still_wanted wanted counts lowat = bands_where (λ band. has_band wanted band && not (is_relieved wanted counts lowat band))

-- ---- targets and wakers

-- q itself, if it has a service procedure or no next queue; otherwise what is found from the next queue on
abbrev pub target_from : (ℕ → ℕ) → ℕ → QueueSpec → ℕ
target_from further q spec = if spec.service then q else option_map_or further spec.next q

-- the target of q, if it is found within this many steps along next
abbrev pub target_within : ℕ → List QueueSpec → ℕ → ℕ
target_within zero specs q = q
target_within (suc steps) specs q = target_from (target_within steps specs) q (spec_at specs q)

-- `bcanput` asks the target of q: the first queue from q on with a service procedure, or else the last queue on the way
abbrev pub target : List QueueSpec → ℕ → ℕ
target specs q = target_within (length specs) specs q

-- the queue whose next is q, if any
abbrev pub behind : List QueueSpec → ℕ → Option ℕ
behind specs q = position (λ s. rows.is_some_of q s.next) specs

-- this queue behind, if it has a service procedure; otherwise what is found from there
abbrev pub waker_from : (ℕ → Option ℕ) → List QueueSpec → Option ℕ → Option ℕ
waker_from further specs None = None
waker_from further specs (Some p) = if (spec_at specs p).service then Some p else further p

-- the waker of q, if it is at most this many queues behind
abbrev pub waker_within : ℕ → List QueueSpec → ℕ → Option ℕ
waker_within zero specs q = None
waker_within (suc steps) specs q = waker_from (waker_within steps specs) specs (behind specs q)

-- settling q enables its waker: the nearest queue behind q with a service procedure, if any
abbrev pub waker : List QueueSpec → ℕ → Option ℕ
waker specs q = waker_within (length specs) specs q

-- ---- enabling

-- Enabling puts q at the end of the run list. If it is on the list, or has no service procedure, nothing changes.
abbrev pub with_enabled : ℕ → QueueState → QueueState
with_enabled q s = if (spec_at s.specs q).service && not (rows.has q s.run) then record s { run = s.run ++ q ∷ [] } else s

-- queue q is enabled if `so` is true; otherwise nothing changes
abbrev pub enabled_where : Bool → ℕ → QueueState → QueueState
enabled_where so q s = if so then with_enabled q s else s

-- `putq` of a message of this rank enables a queue with these flags if it is high priority; otherwise if enabling is on,
-- and the want-to-read mark is set or the band is above 0
abbrev pub enables_put : Flags → ℕ → Bool
enables_put flags rank = rank == high_rank || (not flags.noenable && (flags.read || nat_lt 0 rank))

-- `putbq` enables the queue if the message is high priority, or if enabling is on and the want-to-read mark is set
abbrev pub enables_put_back : Flags → ℕ → Bool
enables_put_back flags rank = rank == high_rank || (not flags.noenable && flags.read)

-- `insq` enables the queue if enabling is on and the want-to-read mark is set, whatever the message's rank
abbrev pub enables_inserted : Flags → Bool
enables_inserted flags = not flags.noenable && flags.read
