-- How often a number is in a list, for laws that say that lists together have a number once.
use Rattle.std.specs.Prelude.{ℕ, List, ◌==◌, count_by}

-- the number of times that n is in the list
abbrev pub times : ℕ → List ℕ → ℕ
times n xs = count_by (λ x. x == n) xs
