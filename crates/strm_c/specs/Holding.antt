-- What a handle and its pointer own in memory. No clause of an export cites this module.
use Rattle.std.specs.Prelude.{ℕ, Bool, ◌==◌, Option, None, Some}
use Rattle.std.specs.Coded.{coded_option}
use base.Fml.{Fml, ftrue}
use base.Stored.{Coded}
use denote.RawPtr.{Ptr}
use Rattle.std.specs.Box.Ownership.{box_owns}
use Rattle.std.specs.Global.{Global}
use Rattle.std_heap.specs.contracts.GlobalAllocator.TheImpl.{ghosts}
use Rattle.strm_named.specs.contracts.named_pool.NamedPool.{the_row}

-- the state of an open handle: the letters STRM
abbrev pub open_state : ℕ
open_state = 1398035021

-- a handle is open if it has this state
abbrev pub is_open : ℕ → Bool
is_open state = state == open_state

-- all allocators of the heap are one value
abbrev pub heap : Global
heap = record { memory = record { seal = tt } }

-- what a pointer owns: the box of its pool, if it has one
abbrev pub held : Ptr → Option the_row.Denot → Fml
held raw None = ftrue
held raw (Some v) = box_owns (ghosts.dealloc_token heap) the_row raw v

abbrev pub coded : Coded (Option the_row.Denot)
coded = coded_option the_row.coded
