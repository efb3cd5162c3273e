-- The machine value of a pointer that may own a box: what is owned of its field tells it, and is made of nothing.
use Rattle.std.proofs.Common.{◌≡◌, ℕ, zero, suc, List, [], ◌∷◌, ◌++◌, refl, sym, ◌∙◌}
use Rattle.std.specs.Prelude.{Option, None, Some, IsSome}
use mathlib.Core.Bool.{true≢false}
use seplogic.Ra.Ura.{Ura}
use mir.Val.{Val, vstruct, vcons, vnil, of_list}
use base.Logic.{ent, emp}
use base.Fml.{Fml}
use types.Logic.{Logic, sem}
use denote.RattleType.{RattleType}
use denote.Builtin.{unit}
use denote.RawPtr.{Ptr, RawPtr, ptr_val}
use denote.Shadow.{shadow, makes_shadow}
use denote.Signature.{Slot, plain}
use denote.Struct.Struct.{Struct}

abbrev pub plainly : List RattleType → RattleType
plainly Rs = Struct (record { name = []; args = []; types = []; fields = Rs })

abbrev pub pointer_val : Ptr → Val
pointer_val p = vstruct (vcons (ptr_val p) vnil)

abbrev pub pointer_own : Ptr → List Val → Fml
pointer_own p = (plainly (RawPtr ∷ [])).own_val (p, tt)

pub pointer_told : (p : Ptr) (vs : List Val) → shadow (pointer_own p vs) → vs ≡ pointer_val p ∷ []
pointer_told p vs s = s.1.0 ∙ (λ i. vstruct (of_list (s.1.1.0 i ++ [])) ∷ [])

pub pointer_made : {M : Type 1} {𝓤 : Ura M} (𝓛 : Logic 𝓤) (p : Ptr) → ent 𝓤 (emp 𝓤) (sem 𝓛 (pointer_own p (pointer_val p ∷ [])))
pointer_made 𝓛 p = makes_shadow 𝓛 (pointer_own p (pointer_val p ∷ [])) (λ _. (tt, (tt, tt))) ((ptr_val p ∷ [], tt), (refl, (refl, tt)))

-- a slot of a signature, by its place
abbrev pub slot_at : {n : ℕ} → ℕ → List (Slot n) → Slot n
slot_at k [] = plain (λ _. unit)
slot_at zero (s ∷ ss) = s
slot_at (suc k) (s ∷ ss) = slot_at k ss

-- what there is, where there is something
pub there_is : {X : Type 0} (m : Option X) → IsSome m → (y : X) × (m ≡ Some y)
there_is None s = absurd (true≢false (sym s))
there_is (Some y) s = (y, refl)
