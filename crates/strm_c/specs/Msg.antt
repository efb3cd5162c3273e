-- How a name is stored for C, in two halves. No public clause cites this module.
use Rattle.std.specs.Prelude.{◌≡◌, ◌+◌, ◌*◌, ◌/◌, ◌%◌, ◌^◌}
use Rattle.std.proofs.lemmas.Nat.{shr_split}
use Rattle.strm_named.specs.declared.name.Name.{Name}
use Rattle.strm_c.specs.declared.msg.StrmMsg.TheInside.{Inside}

-- the name that two halves are
abbrev pub name_of : Inside → Name
name_of m = record { pool = m.key % 2 ^ 32; head = m.key / 2 ^ 32; stamp = m.stamp }

-- the halves of a name
abbrev pub halves_of : Name → Inside
halves_of n = record { key = n.head * 2 ^ 32 + n.pool; stamp = n.stamp }

-- a name determines its halves
pub halves_of-name_of : (m : Inside) → halves_of (name_of m) ≡ m
halves_of-name_of m = λ i. record { key = shr_split m.key 32 i; stamp = m.stamp }
