-- The text of a script: a line for each reply, and then the report of the pool.
use Rattle.std.specs.Prelude.{ℕ, ◌+◌, ◌/◌, ◌%◌, ◌==◌, Bool, false, List, [], ◌∷◌, ◌++◌, length, map, reverse, codes, decimal, if◌then◌else◌}
use Rattle.std.specs.Fmt.{digits}
use Rattle.std.specs.Int.{from_bool}
use Rattle.std.specs.List.{flat_map, range_with_len, zip}
use Rattle.strm_data.specs.declared.class_info.ClassInfo.{ClassInfo}
use Rattle.strm_data.specs.DataStore.{class_infos}
use Rattle.strm_data.specs.MsgType.{name_of as type_name}
use Rattle.strm_mblk.specs.declared.block_info.BlockInfo.{BlockInfo}
use Rattle.strm_mblk.specs.declared.census.Census.{Census}
use Rattle.strm_pool.specs.declared.reply.Reply.{Reply}
use Rattle.strm_pool.specs.declared.reply.Reply.TheVariants.{Done, Yes, No, Nothing, Empty, Taken, Bytes, Refused}
use Rattle.strm_pool.specs.declared.reply.Reply.TheVariants as replies
use Rattle.strm_mblk.specs.Arena.{census_of}
use Rattle.strm_pool.specs.PoolValue.{PoolValue, Wish, opening_pool, queued_blocks_of}
use Rattle.strm_queue.specs.declared.band_info.BandInfo.{BandInfo}
use Rattle.strm_queue.specs.declared.queue_info.QueueInfo.{QueueInfo}
use Rattle.strm_queue.specs.Flow.{every_band}
use Rattle.strm_queue.specs.QueueCalls.{band_info_of, info_of}
use Rattle.strm_queue.specs.QueuedBlocks.{QueuedBlocks}
use Rattle.strm_data.specs.Refusal.{number_of, name_of}
use Rattle.strm_pool.specs.Registers.{RegisterTable}
use Rattle.strm_pool.specs.Step.{DeskCall, Replay, empty_tables, replay_from}
use Rattle.strm_pool.specs.declared.line.Entry.{Entry}
use Rattle.strm_script.specs.Merge.{Served}
use Rattle.strm_script.specs.declared.script.Script.{Script}

-- a byte as two lower case hexadecimal digits
abbrev pub hex_text : ℕ → List ℕ
hex_text b = digits 16 false (b / 16) ++ digits 16 false (b % 16)

-- bytes in hexadecimal, or `-` if there are none
abbrev pub octets_text : List ℕ → List ℕ
octets_text [] = codes "-"
octets_text (b ∷ bs) = flat_map hex_text (b ∷ bs)

abbrev pub block_text : BlockInfo → List ℕ
block_text i =
    codes "block " ++ (type_name i.kind ++ (codes " len=" ++ (decimal i.len ++ (codes " band=" ++ (decimal i.band
    ++ (codes " room=" ++ (decimal i.room ++ (codes " names=" ++ decimal i.names))))))))

abbrev pub reply_text : Reply → List ℕ
reply_text Done = codes "ok"
reply_text Yes = codes "yes"
reply_text No = codes "no"
reply_text Nothing = codes "none"
reply_text Empty = codes "empty"
reply_text Taken = codes "taken"
reply_text (replies.Size n) = codes "size " ++ decimal n
reply_text (Bytes bytes) = codes "bytes " ++ octets_text bytes
reply_text (replies.Block info) = block_text info
reply_text (replies.Id id) = codes "id " ++ decimal id
reply_text (replies.Ready id size) = codes "ready " ++ (decimal id ++ (codes " " ++ decimal size))
reply_text (replies.Queue q) = codes "queue " ++ decimal q
reply_text (replies.Marks hiwat lowat) = codes "marks " ++ (decimal hiwat ++ (codes " " ++ decimal lowat))
reply_text (replies.Census c) = codes "census " ++ (decimal c.free ++ (codes " " ++ (decimal c.queued ++ (codes " " ++ decimal c.held))))
reply_text (Refused why) = codes "refused " ++ (decimal (number_of why) ++ (codes " " ++ name_of why))

-- the line for the reply to line `number` of the script, which is a line of this worker
abbrev pub reply_line : ℕ → ℕ → Reply → List ℕ
reply_line worker number reply = decimal worker ++ (codes ":" ++ (decimal number ++ (codes " " ++ (reply_text reply ++ codes "\n"))))

-- the line for an entry of a trace
abbrev pub entry_text : Entry → List ℕ
entry_text e = reply_line e.desk e.line e.reply

-- the line for the reply to a worker's line
abbrev pub line_text : Served × Reply → List ℕ
line_text (served, reply) = reply_line served.worker served.line.number reply

abbrev pub transcript : List Served → List Reply → List ℕ
transcript served rs = flat_map line_text (zip served rs)

abbrev pub blocks_text : Census → List ℕ
blocks_text c =
    codes "blocks free=" ++ (decimal c.free ++ (codes " queued=" ++ (decimal c.queued ++ (codes " held=" ++ (decimal c.held
    ++ (codes " total=" ++ (decimal (c.free + c.queued + c.held) ++ codes "\n")))))))

abbrev pub class_text : ClassInfo → List ℕ
class_text i =
    codes "data size=" ++ (decimal i.size ++ (codes " free=" ++ (decimal i.free ++ (codes " total=" ++ (decimal i.total ++ codes "\n")))))

abbrev pub classes_text : List ClassInfo → List ℕ
classes_text infos = flat_map class_text infos

-- a mark: 1 if it is set, else 0
abbrev pub flag_text : Bool → List ℕ
flag_text stands = decimal (from_bool stands)

-- the line of queue q: its number of messages and bytes, and its marks
abbrev pub queue_text : ℕ → QueueInfo → List ℕ
queue_text q i =
    codes "queue " ++ (decimal q ++ (codes " msgs=" ++ (decimal i.msgs ++ (codes " bytes=" ++ (decimal i.bytes
    ++ (codes " read=" ++ (flag_text i.read ++ (codes " noenable=" ++ (flag_text i.noenable
    ++ (codes " enabled=" ++ (flag_text i.enabled ++ codes "\n")))))))))))

-- the line of a band: its bytes and its marks; nothing if it has no bytes
abbrev pub band_text : ℕ → BandInfo → List ℕ
band_text band i =
    if i.bytes == 0 then []
    else codes "band " ++ (decimal band ++ (codes " bytes=" ++ (decimal i.bytes ++ (codes " full=" ++ (flag_text i.full
    ++ (codes " wanted=" ++ (flag_text i.wanted ++ codes "\n")))))))

-- the line of a band of queue q, if the band has bytes
abbrev pub band_lines : QueuedBlocks → ℕ → ℕ → List ℕ
band_lines v q band = band_text band (band_info_of v q band)

-- the lines of the bands of queue q, from band 255 down to band 0
abbrev pub bands_text : QueuedBlocks → ℕ → List ℕ
bands_text v q = flat_map (band_lines v q) (reverse every_band)

-- the line of queue q, and then those of its bands
abbrev pub queue_lines : QueuedBlocks → ℕ → List ℕ
queue_lines v q = queue_text q (info_of v q) ++ bands_text v q

abbrev pub queues_text : QueuedBlocks → List ℕ
queues_text v = flat_map (queue_lines v) (range_with_len 0 (length v.queues.specs))

-- the number of a queue of the run list
abbrev pub waiting_text : ℕ → List ℕ
waiting_text q = codes " " ++ decimal q

-- the id and the size of a wish
abbrev pub wish_text : Wish → List ℕ
wish_text w = codes " " ++ (decimal w.0 ++ (codes ":" ++ decimal w.1))

-- a line with a name and items in order, or `-` if there are none
abbrev pub list_text : {X : Type 0} → List ℕ → (X → List ℕ) → List X → List ℕ
list_text name item [] = name ++ codes " -\n"
list_text name item (x ∷ xs) = name ++ (flat_map item (x ∷ xs) ++ codes "\n")

-- the line of the run list
abbrev pub run_text : List ℕ → List ℕ
run_text run = list_text (codes "run") waiting_text run

-- the line of the wishes
abbrev pub wishes_text : List Wish → List ℕ
wishes_text wishes = list_text (codes "wishes") wish_text wishes

-- the report: a line on message blocks, one on each size class, those on each queue, one on the run list, and one on wishes
abbrev pub report_text : PoolValue → List ℕ
report_text v = blocks_text (census_of v.arena) ++ (classes_text (class_infos v.arena.store) ++ (queues_text (queued_blocks_of v) ++ (run_text v.queues.run ++ wishes_text v.wishes.pending)))

abbrev pub desk_calls : List Served → List DeskCall
desk_calls served = map (λ s. record { desk = s.worker; call = s.line.call }) served

-- the text after the lines were executed in this order, with this replay
abbrev pub text_after : List Served → Replay → List ℕ
text_after served end = transcript served end.replies ++ report_text end.pool

-- the text of lines that are executed in this order, from this pool and these registers on
abbrev pub text_from : PoolValue → List RegisterTable → List Served → List ℕ
text_from v tables served = text_after served (replay_from v tables (desk_calls served))

-- the text of a script whose lines are executed in this order
abbrev pub text_of : Script → List Served → List ℕ
text_of script served = text_from (opening_pool script.config) (empty_tables (length script.parts)) served
