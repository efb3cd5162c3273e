-- Numbers and structs of strm.h, and what they mean.
use Rattle.std.specs.Prelude.{ℕ, Bool, true, false, ◌&&◌, ◌==◌, nat_lt, List, map, Option, None, Some, Ok, Err, if◌then◌else◌, slice_get, unwrap_or}
use Rattle.std.specs.List.{list_all}
use Rattle.std.specs.Option.{is_some, option_map_or}
use Rattle.strm_data.specs.declared.class_info.ClassInfo.{ClassInfo}
use Rattle.strm_data.specs.DataStore.{DataStore, class_infos}
use Rattle.strm_data.specs.MsgType.{all_types}
use Rattle.strm_data.specs.declared.msg_type.MsgType.{MsgType}
use Rattle.strm_data.specs.declared.msg_type.MsgType.TheVariants.{MData, MProto, MBreak, MPassfp, MSig, MDelay, MCtl, MIoctl, MSetopts, MIocack, MIocnak, MPcproto, MPcsig, MRead, MFlush, MStop, MStart, MHangup, MError, MCopyin, MCopyout, MIocdata}
use Rattle.strm_mblk.specs.declared.block_info.BlockInfo.{BlockInfo}
use Rattle.strm_mblk.specs.declared.block_place.BlockPlace.{BlockPlace}
use Rattle.strm_mblk.specs.declared.block_place.Shape.{Shape}
use Rattle.strm_mblk.specs.declared.census.Census.{Census}
use Rattle.strm_queue.specs.declared.band_info.BandInfo.{BandInfo}
use Rattle.strm_queue.specs.declared.flush.Flush.{Flush}
use Rattle.strm_queue.specs.declared.flush.Flush.TheVariants.{All, Data}
use Rattle.strm_queue.specs.declared.marks.Marks.{Marks}
use Rattle.strm_queue.specs.declared.queue_info.QueueInfo.{QueueInfo}
use Rattle.strm_queue.specs.declared.queue_spec.QueueSpec.{QueueSpec}
use Rattle.strm_queue.specs.declared.queued_info.QueuedInfo.{QueuedInfo}
use Rattle.strm_pool.specs.PoolValue.{Wish}
use Rattle.strm_scheduler.specs.declared.starting.Service.{Service}
use Rattle.strm_named.specs.declared.name.Name.{Name}
use Rattle.strm_c.specs.Codes.{Answer}
use Rattle.strm_c.specs.declared.code.Code.TheVariants.{Nothing}
use Rattle.strm_c.specs.declared.layout.StrmBandInfo.{StrmBandInfo}
use Rattle.strm_c.specs.declared.layout.StrmBlockInfo.{StrmBlockInfo}
use Rattle.strm_c.specs.declared.layout.StrmBlockPlace.{StrmBlockPlace}
use Rattle.strm_c.specs.declared.layout.StrmCensus.{StrmCensus}
use Rattle.strm_c.specs.declared.layout.StrmClassInfo.{StrmClassInfo}
use Rattle.strm_c.specs.declared.layout.StrmMarks.{StrmMarks}
use Rattle.strm_c.specs.declared.layout.StrmQueueInfo.{StrmQueueInfo}
use Rattle.strm_c.specs.declared.layout.StrmQueueSpec.{StrmQueueSpec}
use Rattle.strm_c.specs.declared.layout.StrmQueued.{StrmQueued}
use Rattle.strm_c.specs.declared.layout.StrmService.{StrmService}
use Rattle.strm_c.specs.declared.layout.StrmBlockShape.{StrmBlockShape}
use Rattle.strm_c.specs.declared.layout.StrmWish.{StrmWish}

-- ---- numbers that C gives

-- the number of a queue or a class: there are fewer than 255 of each, so 255 means every greater number too
abbrev pub capped_number : ℕ → ℕ
capped_number n = if nat_lt n 255 then n else 255

-- the number of the first block of the message before which another is put; 2^32 - 1 means none, as no block has that number
abbrev pub head_before : ℕ → Option ℕ
head_before n = if n == 4294967295 then None else Some n

-- the number of a band
abbrev pub band_of : ℕ → Option ℕ
band_of n = if nat_lt n 256 then Some n else None

-- the type with this number, which is its place among all types
abbrev pub type_of : ℕ → Option MsgType
type_of n = slice_get all_types n

-- which messages a flush frees: 0 means all, 1 those that carry data
abbrev pub flush_of : ℕ → Option Flush
flush_of n = if n == 0 then Some All else (if n == 1 then Some Data else None)

-- ---- what C gets

abbrev pub flag : Bool → ℕ
flag false = 0
flag true = 1

-- the number of a type in strm.h
abbrev pub number_of_type : MsgType → ℕ
number_of_type MData = 0
number_of_type MProto = 1
number_of_type MBreak = 2
number_of_type MPassfp = 3
number_of_type MSig = 4
number_of_type MDelay = 5
number_of_type MCtl = 6
number_of_type MIoctl = 7
number_of_type MSetopts = 8
number_of_type MIocack = 9
number_of_type MIocnak = 10
number_of_type MPcproto = 11
number_of_type MPcsig = 12
number_of_type MRead = 13
number_of_type MFlush = 14
number_of_type MStop = 15
number_of_type MStart = 16
number_of_type MHangup = 17
number_of_type MError = 18
number_of_type MCopyin = 19
number_of_type MCopyout = 20
number_of_type MIocdata = 21

abbrev pub block_in_c : BlockInfo → StrmBlockInfo
block_in_c b = record { kind = number_of_type b.kind; length = b.len; band = b.band; room = b.room; names = b.names }

abbrev pub place_in_c : BlockPlace → StrmBlockPlace
place_in_c p = record { «data» = p.«data»; at = p.at; length = p.len; capacity = p.capacity }

abbrev pub queued_in_c : QueuedInfo → StrmQueued
queued_in_c q = record { head = q.head; kind = number_of_type q.kind; band = q.band; bytes = q.size; blocks = q.blocks }

-- the number of a next queue; 2^32 - 1 means none
abbrev pub next_in_c : Option ℕ → ℕ
next_in_c None = 4294967295
next_in_c (Some q) = q

abbrev pub spec_in_c : QueueSpec → StrmQueueSpec
spec_in_c s = record { hiwat = s.hiwat; lowat = s.lowat; service = flag s.service; next = next_in_c s.next }

abbrev pub queue_in_c : QueueInfo → StrmQueueInfo
queue_in_c q = record { msgs = q.msgs; bytes = q.bytes; read = flag q.read; noenable = flag q.noenable; enabled = flag q.enabled }

abbrev pub band_in_c : BandInfo → StrmBandInfo
band_in_c b = record { bytes = b.bytes; full = flag b.full; wanted = flag b.wanted }

abbrev pub marks_in_c : Marks → StrmMarks
marks_in_c m = record { hiwat = m.hiwat; lowat = m.lowat }

abbrev pub wish_in_c : Wish → StrmWish
wish_in_c w = record { id = w.0; size = w.1 }

abbrev pub census_in_c : Census → StrmCensus
census_in_c c = record { free = c.free; queued = c.queued; held = c.held }

abbrev pub class_in_c : ClassInfo → StrmClassInfo
class_in_c c = record { size = c.size; free = c.free; total = c.total }

-- the number of bytes of each data block of a class
abbrev pub stride_of : ℕ → DataStore → ℕ
stride_of c s = option_map_or (λ k. k.size) (slice_get (class_infos s) c) 0

-- whether the type and the band of a shape from C are such
abbrev pub is_shape : StrmBlockShape → Bool
is_shape x = is_some (type_of x.kind) && is_some (band_of x.band)

-- the shape that C gives; a number of no type or band, which no call takes, is read as 0
abbrev pub shape_of : StrmBlockShape → Shape
shape_of x = record { at = x.at; len = x.length; kind = unwrap_or (type_of x.kind) MData; band = unwrap_or (band_of x.band) 0 }

-- the shapes of an array from C, if all of their types and bands are such
abbrev pub shapes_of : List StrmBlockShape → Option (List Shape)
shapes_of xs = if list_all is_shape xs then Some (map shape_of xs) else None

-- the name of no message
abbrev pub no_name : Name
no_name = record { pool = 0; head = 0; stamp = 0 }

-- two names; the second is that of no message if there is only one
abbrev pub both : Name × Option Name → Answer (Name × Name)
both names = Ok (names.0, unwrap_or names.1 no_name)

-- the service of a queue and the name of the message that it gave, if it gave one
abbrev pub service_in_c : Service → StrmService
service_in_c s = record { queue = s.queue; next = s.next; held = s.held }

abbrev pub service_told : Option (Service × Name) → Answer (StrmService × Name)
service_told None = Err Nothing
service_told (Some given) = Ok (service_in_c given.0, given.1)
