-- How a text is written piece by piece. No public clause cites this module.
use Rattle.std.specs.Prelude.{◌≡◌, ℕ, List, length, take}

-- the old text is the beginning of the new one
abbrev pub Begins : List ℕ → List ℕ → Type 0
Begins before now = take (length before) now ≡ before
