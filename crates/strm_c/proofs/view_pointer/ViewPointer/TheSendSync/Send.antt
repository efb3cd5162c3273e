-- The right to read a pool may go to another thread, as a `&` to the pool may.
use base.Fml.{Share}
use base.Shift.{Keyless}
use denote.RawPtr.{Ptr}
use denote.Struct.Struct.{exits_of}
use denote.Struct.Owning.{shape, fields, to}
use denote.Param.Send.{IsSend, AllSend, owning_send, struct_send, sendable}
use Rattle.std.specs.Prelude.{ℕ, [], ◌∷◌, Option, None, Some}
use Rattle.std_alloc.proofs.SendSync.{quiet, seen}
use Rattle.strm_named.specs.contracts.named_pool.NamedPool as NamedPool
use Rattle.strm_named.proofs.named_pool.NamedPool.TheSendSync.{the_sync}
use Rattle.strm_c.specs.Rights.{may_read}
use Rattle.strm_c.specs.contracts.view_pointer.ViewPointer.{the_row, the_type}

right_moves : (at : Ptr) (v : Option NamedPool.the_row.Denot) (life : ℕ) (share : Share) → Keyless (may_read at v life share)
right_moves at None life share = tt
right_moves at (Some v) life share = (tt, seen NamedPool.the_row the_sync at v (life ∷ []))

all : AllSend (fields the_type)
all = (search sendable, tt)

pub send : IsSend the_row
send = owning_send the_type all (λ p. right_moves p.raw p.named p.life p.share) (λ k. quiet (to the_type) (exits_of k (fields the_type)) ((struct_send (shape the_type) all).leaving k))
