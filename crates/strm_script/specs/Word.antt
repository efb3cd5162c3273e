-- Tables of first words.
use Rattle.std.specs.Prelude.{ℕ, ◌==◌, List, [], ◌∷◌, length, filter, Option, None, Some, bytes_eq, if◌then◌else◌, codes}
use Rattle.strm_script.specs.declared.word.Word.{Word}
use Rattle.strm_script.specs.declared.word.Word.TheVariants.{Pool, Class, Queue, Bufcalls, Worker}

-- what a table has for the first of its words that is this text byte for byte, if any
abbrev pub found : {X : Type 0} → List (List ℕ × X) → List ℕ → Option X
found [] text = None
found (row ∷ rows) text = if bytes_eq row.0 text then Some row.1 else found rows text

-- the rows of a table whose words have this length
abbrev pub of_length : {X : Type 0} → ℕ → List (List ℕ × X) → List (List ℕ × X)
of_length n rows = filter (λ row. length row.0 == n) rows

-- the first words of the header and of sections; those of commands are in `commands`
abbrev pub all_words : List (List ℕ × Word)
all_words =
    (codes "pool", Pool)
    ∷ (codes "class", Class)
    ∷ (codes "queue", Queue)
    ∷ (codes "bufcalls", Bufcalls)
    ∷ (codes "worker", Worker)
    ∷ []

abbrev pub word_of : List ℕ → Option Word
word_of text = found all_words text
