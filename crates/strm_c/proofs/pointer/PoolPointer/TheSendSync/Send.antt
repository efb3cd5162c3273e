-- The box that a pointer owns may go to another thread, as its pool and its allocator may.
use mir.Raw.{raw}
use base.Shift.{Keyless}
use denote.Memory.{lone}
use denote.RawPtr.{Ptr}
use denote.Struct.Struct.{exits_of}
use denote.Struct.Owning.{shape, fields, to}
use denote.Param.Send.{IsSend, AllSend, owning_send, struct_send, sendable}
use Rattle.std.specs.Prelude.{Option, None, Some}
use Rattle.std_alloc.proofs.SendSync.{quiet, lies}
use Rattle.std.proofs.Crossing.{frees}
use Rattle.strm_named.specs.contracts.named_pool.NamedPool as NamedPool
use Rattle.strm_named.proofs.named_pool.NamedPool.TheSendSync.{the_send}
use Rattle.strm_c.specs.Holding.{heap, held}
use Rattle.strm_c.specs.contracts.pointer.PoolPointer.{the_row, the_type}

held_moves : (at : Ptr) (v : Option NamedPool.the_row.Denot) → Keyless (held at v)
held_moves at None = tt
held_moves at (Some v) = (lies NamedPool.the_row the_send at v, frees.frees heap (raw (lone NamedPool.the_row.mir)) at)

all : AllSend (fields the_type)
all = (search sendable, tt)

pub send : IsSend the_row
send = owning_send the_type all (λ p. held_moves p.raw p.named) (λ k. quiet (to the_type) (exits_of k (fields the_type)) ((struct_send (shape the_type) all).leaving k))
