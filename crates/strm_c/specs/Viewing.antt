-- How a reader and its pointer lend a view of the pool. No clause of an export cites this module.
use Rattle.std.specs.Prelude.{◌≡◌, Option, None, Some, option_map}
use Rattle.std.specs.Borrow.{Fml, Lends, LendsIf, MutBor}
use Rattle.std.proofs.Common.{sym, ◌∙◌}
use base.Fml.{Share}
use Rattle.strm_c.specs.declared.view.PoolView.{PoolView}
use Rattle.strm_c.specs.contracts.view.PoolView as view
use Rattle.strm_c.specs.declared.view_pointer.ViewPointer.{ViewPointer}
use Rattle.strm_c.specs.contracts.view_pointer.ViewPointer as pointer
use Rattle.strm_c.specs.declared.reader.StrmReader.{StrmReader}
use Rattle.strm_c.specs.contracts.reader.StrmReader as reader
use Rattle.strm_c.specs.Lending.{is_some-option_map}

-- the view of this pointer's pool, if it has one
abbrev pub IsViewOf : Option PoolView → ViewPointer → Type 0
IsViewOf None p = p.named ≡ None
IsViewOf (Some v) p = (Some v.named ≡ p.named) × (v.at ≡ p.raw) × (v.life ≡ p.life) × (v.share ≡ p.share)

-- the pointer p with the view v, if it has a pool
abbrev pub view_pointer_with : ViewPointer → PoolView → ViewPointer
view_pointer_with p v = record { raw = v.at; named = option_map (λ _. v.named) p.named; life = v.life; share = v.share }

-- p ends with the last view behind r
abbrev pub LendsFromViewPointer : MutBor ViewPointer → MutBor PoolView → Fml
LendsFromViewPointer p r = Lends pointer.the_row view.the_row p r (view_pointer_with p.now)

-- the reader h with the view v, if its handle is open
abbrev pub reader_with : StrmReader → PoolView → StrmReader
reader_with h v = record { at = view_pointer_with h.at v; state = h.state; opened = h.opened ∙ sym (is_some-option_map v.named h.at.named) }

-- h ends with the last view behind r, or unchanged if r is none
abbrev pub LendsFromReader : MutBor StrmReader → Option (MutBor PoolView) → Fml
LendsFromReader h r = LendsIf reader.the_row view.the_row h r (reader_with h.now) h.now

-- the pointer with this share of its right
abbrev pub with_share : ViewPointer → Share → ViewPointer
with_share p s = record p { share = s }
