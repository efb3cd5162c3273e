-- What a call names: a queue, sources, which are the registers whose messages it uses, and a destination.
use Rattle.std.specs.Prelude.{ℕ, List, [], ◌∷◌, Option, None, Some}
use Rattle.strm_pool.specs.declared.names.Names.{Names}

-- a queue, a first and a second source, and a destination
abbrev pub names_from : Option ℕ → Option ℕ → Option ℕ → Option ℕ → Names
names_from queue source second destination = record { queue = queue; source = source; second = second; destination = destination }

-- a register, if any, before others
abbrev pub registers_with : Option ℕ → List ℕ → List ℕ
registers_with None xs = xs
registers_with (Some x) xs = x ∷ xs

-- the registers that are named: sources in the order of the script's words, then the destination
abbrev pub registers_in : Names → List ℕ
registers_in names = registers_with names.source (registers_with names.second (registers_with names.destination []))
