use Rattle.std.proofs.Common.{◌≡◌, drop}
use Rattle.strm_c.specs.Texts.{first_at}
use Rattle.strm_c.proofs.texts.first_at.Given as goal

-- the first of those that are left is that of all
abbrev pub invariant-loop-code : goal.invariant-loop-code
invariant-loop-code l = first_at (drop l.code-index l.codes) l.number ≡ first_at l.codes l.number
