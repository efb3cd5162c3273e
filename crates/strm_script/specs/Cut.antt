-- The pieces of a text that is cut at each separator. No clause of `parse` cites this module.
use Rattle.std.specs.Prelude.{ℕ, ◌==◌, List, [], Option, None, Some}
use Rattle.std.specs.Borrow.{Bor}
use Rattle.std.specs.List.{slice_split}
use Rattle.std.specs.Option.{option_copied}

-- the pieces of the text after the first separator, if there is one
abbrev pub pieces_behind : ℕ → Option (List ℕ) → List (List ℕ)
pieces_behind byte None = []
pieces_behind byte (Some rest) = slice_split (λ b. b == byte) rest

-- the words of the text after a word, if there is more of it
abbrev pub words_behind : Option (Bor (List ℕ)) → List (List ℕ)
words_behind rest = pieces_behind 32 (option_copied rest)
