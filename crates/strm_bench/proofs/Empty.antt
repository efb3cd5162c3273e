-- Registers that hold nothing.
use Rattle.std.proofs.Common.{◌≡◌, ℕ, zero, suc, List, Option, None, Some, replicate, sym, ap, ◌∙◌}
use Rattle.std.proofs.lemmas.Option.{none-some}
use Rattle.strm_mblk.specs.declared.token.TokenValue.{TokenValue}
use Rattle.strm_pool.specs.Limits.{most_registers}
use Rattle.strm_pool.specs.Registers.{AreDistinct, register, table_of}

empty_holds_none : (n x h : ℕ) → register (table_of (replicate n None)) x ≡ Some h → ⊥
empty_holds_none zero x h is = none-some h is
empty_holds_none (suc n) zero h is = none-some h is
empty_holds_none (suc n) (suc x) h is = empty_holds_none n x h is

-- empty registers hold no message twice
pub empty_distinct : (rs : List (Option TokenValue)) → rs ≡ replicate most_registers None → AreDistinct (table_of rs)
empty_distinct rs empty x y h is _ = absurd (empty_holds_none most_registers x h (ap (λ (ss : List (Option TokenValue)). register (table_of ss) x) (sym empty) ∙ is))
