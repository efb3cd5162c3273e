-- Bytes that a call lends to a closure.
use Rattle.std.specs.Prelude.{◌≡◌, ℕ, List, length}

-- The call lends these bytes to a closure, which may change them. The closure returns r and leaves as many bytes, and P holds of those.
pub record Edits {R : Type 0} (closure : List ℕ → R → List ℕ → Type 0) (bytes : List ℕ) (r : R) (P : List ℕ → Type 0) : Type 0 where
  pub left : List ℕ
  pub long : length left ≡ length bytes
  pub called : closure bytes r left
  pub after : P left
