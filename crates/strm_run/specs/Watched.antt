-- The record of a reader or writer: failures, the end, calls that came too late, and the desks whose text was written.
use Rattle.std.specs.Prelude.{◌≡◌, ℕ, List, Bool, false, true, ◌||◌, ◌==◌, Result, Ok, Err}
use Rattle.strm_pool.specs.declared.line.Entry.{Entry}

-- A reader or a writer, and whether a call on it failed, whether a read found the end, and whether a call came after either. For
-- each desk of the workers whose text a writer got: the entries that it was served, with their stamps.
pub record Observed (T : Type 0) : Type 0 where
  pub inner : T
  pub failed : Bool
  pub ended : Bool
  pub past : Bool
  pub desks : List (List (ℕ × Entry))

-- a write failed, or took no bytes
abbrev pub took_none : {E : Type 0} → Result ℕ E → Bool
took_none (Ok n) = n == 0
took_none (Err error) = true

-- a read gave no bytes, which counts as the end
abbrev pub gave_none : {E : Type 0} → Result ℕ E → Bool
gave_none (Ok n) = n == 0
gave_none (Err error) = false

-- a call failed, or a read found the end, so that no call should follow
abbrev pub is_over : {T : Type 0} → Observed T → Bool
is_over o = o.failed || o.ended

-- no call came too late between these two records
abbrev pub Stops : {T : Type 0} → Observed T → Observed T → Type 0
Stops old new = is_over old ≡ false → new.past ≡ old.past
