-- How a handle and its pointer lend the pool. No clause of an export cites this module.
use Rattle.std.specs.Prelude.{◌≡◌, Option, None, Some, is_some, option_map}
use Rattle.std.specs.Borrow.{Fml, Lends, LendsIf, MutBor}
use Rattle.std.proofs.Common.{refl, sym, ◌∙◌}
use Rattle.strm_named.specs.NamedValue.{NamedValue}
use Rattle.strm_named.specs.contracts.named_pool.NamedPool as NamedPool
use Rattle.strm_c.specs.declared.pointer.PoolPointer.{PoolPointer}
use Rattle.strm_c.specs.contracts.pointer.PoolPointer as pointer
use Rattle.strm_c.specs.declared.handle.StrmPool.{StrmPool}
use Rattle.strm_c.specs.contracts.handle.StrmPool as handle

-- the pointer p with the pool v, if it owns one
abbrev pub pointer_with : PoolPointer → NamedValue → PoolPointer
pointer_with p v = record p { named = option_map (λ _. v) p.named }

-- p ends with the last pool behind r
abbrev pub LendsFromPointer : MutBor PoolPointer → MutBor NamedValue → Fml
LendsFromPointer p r = Lends pointer.the_row NamedPool.the_row p r (pointer_with p.now)

-- a value in place of another keeps it true that there is one
pub is_some-option_map : {X : Type 0} (x : X) (o : Option X) → is_some (option_map (λ (_ : X). x) o) ≡ is_some o
is_some-option_map x None = refl
is_some-option_map x (Some y) = refl

-- the handle h with the pool v, if it is open
abbrev pub handle_with : StrmPool → NamedValue → StrmPool
handle_with h v = record { at = pointer_with h.at v; state = h.state; opened = h.opened ∙ sym (is_some-option_map v h.at.named) }

-- h ends with the last pool behind r, or unchanged if r is none
abbrev pub LendsFromHandle : MutBor StrmPool → Option (MutBor NamedValue) → Fml
LendsFromHandle h r = LendsIf handle.the_row NamedPool.the_row h r (handle_with h.now) h.now
