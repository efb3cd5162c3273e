-- A box of a named pool, as std_alloc's steps on boxes take it.
use mathlib.Core.List.{[]}
use mir.Syntax.{impl, tnil, dnil}
use Rattle.std_alloc.proofs.BoxSteps.Form.{Bx}
use Rattle.std_heap.specs.contracts.Global as Heap
use Rattle.std_heap.specs.contracts.GlobalAllocator.TheImpl.{ghosts, dict}
use Rattle.std_heap.proofs.Global.TheLaws as heap
use Rattle.strm_named.specs.contracts.named_pool.NamedPool as NamedPool
use Rattle.strm_named.proofs.named_pool.NamedPool.TheLaws as named_pool

abbrev pub E : Bx
E = record { row = NamedPool.the_row; laws = named_pool.the_row_laws; al = record { row = Heap.the_row; laws = heap.the_row_laws; g = ghosts; d = dict; drops = impl [] tnil dnil } }
