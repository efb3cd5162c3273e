-- Entries: what a line of a script says, by its words.
use Rattle.std.specs.Prelude.{ℕ, Bool, List, [], ◌∷◌, Option, option_map, Result, Ok, codes}
use Rattle.strm_data.specs.declared.class_spec.ClassSpec.{ClassSpec}
use Rattle.strm_queue.specs.declared.queue_spec.QueueSpec.{QueueSpec}
use Rattle.strm_pool.specs.declared.call.Call.{Call}
use Rattle.strm_pool.specs.declared.call.Call.TheVariants as calls
use Rattle.strm_script.specs.declared.fault.Kind.{Kind}
use Rattle.strm_script.specs.declared.word.Word.{Word}
use Rattle.strm_script.specs.declared.word.Word.TheVariants as words
use Rattle.strm_script.specs.Shape.{none, one, two, three, four, ◌>>=◌}
use Rattle.strm_script.specs.Form.{u32_of, u8_of, i32_of, register_of, type_of, flush_of, service_of, next_of, octets_of}
use Rattle.strm_script.specs.Word.{found}

-- What a line says. Pool: the pool's id and its number of message blocks. Class, Queue: the spec. Bufcalls: how many wishes
-- there may be, and the id of the first. Worker: a section begins. Command: the call.
pub data Entry : Type 0 where
  Pool : ℕ → ℕ → Entry
  Class : ClassSpec → Entry
  Queue : QueueSpec → Entry
  Bufcalls : ℕ → ℕ → Entry
  Worker : Entry
  Command : Call → Entry

-- the first word of each command, and the call by its arguments
abbrev pub commands : List (List ℕ × (List (List ℕ) → Result Call Kind))
commands =
    (codes "putq", two u8_of register_of calls.Putq)
    ∷ (codes "getq", two u8_of register_of calls.Getq)
    ∷ (codes "dupb", two register_of register_of calls.Dupb)
    ∷ (codes "rmvq", three u8_of u32_of register_of calls.Rmvq)
    ∷ (codes "read", two register_of u32_of calls.Read)
    ∷ (codes "rmvb", three register_of u32_of register_of calls.Rmvb)
    ∷ (codes "size", one register_of calls.Size)
    ∷ (codes "insq", three u8_of u32_of register_of calls.Insq)
    ∷ (codes "write", three register_of u32_of octets_of calls.Write)
    ∷ (codes "linkb", two register_of register_of calls.Linkb)
    ∷ (codes "block", two register_of u32_of calls.Block)
    ∷ (codes "freeb", one register_of calls.Freeb)
    ∷ (codes "putbq", two u8_of register_of calls.Putbq)
    ∷ (codes "copyb", two register_of register_of calls.Copyb)
    ∷ (codes "qsize", one u8_of calls.Qsize)
    ∷ (codes "testb", one u32_of calls.Testb)
    ∷ (codes "ready", none calls.Ready)
    ∷ (codes "allocb", two register_of u32_of calls.Allocb)
    ∷ (codes "dupmsg", two register_of register_of calls.Dupmsg)
    ∷ (codes "adjmsg", two register_of i32_of calls.Adjmsg)
    ∷ (codes "census", none calls.Census)
    ∷ (codes "flushq", two u8_of flush_of calls.Flushq)
    ∷ (codes "freemsg", one register_of calls.Freemsg)
    ∷ (codes "bcanput", two u8_of u8_of calls.Bcanput)
    ∷ (codes "copymsg", two register_of register_of calls.Copymsg)
    ∷ (codes "service", none calls.Service)
    ∷ (codes "setband", two register_of u8_of calls.Setband)
    ∷ (codes "bufcall", one u32_of calls.Bufcall)
    ∷ (codes "qenable", one u8_of calls.Qenable)
    ∷ (codes "settype", three register_of u32_of type_of calls.Settype)
    ∷ (codes "unlinkb", two register_of register_of calls.Unlinkb)
    ∷ (codes "strqset", four u8_of u8_of u32_of u32_of calls.Strqset)
    ∷ (codes "strqget", two u8_of u8_of calls.Strqget)
    ∷ (codes "msgdsize", one register_of calls.Msgdsize)
    ∷ (codes "enableok", one u8_of calls.Enableok)
    ∷ (codes "noenable", one u8_of calls.Noenable)
    ∷ (codes "pullupmsg", two register_of i32_of calls.Pullupmsg)
    ∷ (codes "unbufcall", one u32_of calls.Unbufcall)
    ∷ (codes "flushband", three u8_of u8_of flush_of calls.Flushband)
    ∷ []

-- the call of the one of these commands that has this first word, if there is one
abbrev pub call_among : List (List ℕ × (List (List ℕ) → Result Call Kind)) → List ℕ → List (List ℕ) → Option (Result Call Kind)
call_among rows first arguments = option_map (λ call. call arguments) (found rows first)

abbrev pub call_of : List ℕ → List (List ℕ) → Option (Result Call Kind)
call_of first arguments = call_among commands first arguments

abbrev pub class_spec : ℕ → ℕ → Entry
class_spec size count = Class (record { size = size; count = count })

abbrev pub queue_spec : ℕ → ℕ → Bool → Option ℕ → Entry
queue_spec hiwat lowat service next = Queue (record { hiwat = hiwat; lowat = lowat; service = service; next = next })

-- the call that was stored, if its arguments were read, or their fault
abbrev pub read_call : Result (Unit {0}) Kind → Call → Result Call Kind
read_call read call = read >>= (λ _. Ok call)

-- the same of the command with a first word, if there is one
abbrev pub stored : Option (Result (Unit {0}) Kind) → Call → Option (Result Call Kind)
stored read call = option_map (λ r. read_call r call) read

-- what a line with this first word and these arguments says
abbrev pub entry_of : Word → List (List ℕ) → Result Entry Kind
entry_of words.Pool = two u32_of u32_of Pool
entry_of words.Class = two u32_of u32_of class_spec
entry_of words.Queue = four u32_of u32_of service_of next_of queue_spec
entry_of words.Bufcalls = two u32_of u32_of Bufcalls
entry_of words.Worker = none Worker
