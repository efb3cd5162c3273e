use Rattle.std.proofs.Common.{◌≡◌, ◌++◌, map, take, drop, length}
use Rattle.strm_data.specs.DataLayout.{room_of}
use Rattle.strm_data.proofs.data.reset.Given as goal

-- the classes so far have their new numbers
abbrev pub invariant-loop-number : goal.invariant-loop-number
invariant-loop-number l = record {
  rooms : map room_of l.classes ≡ map room_of l.initial.classes;
  least : map (λ k. k.least) l.classes ≡ map length (take l.number l.blocks.rows.lists) ++ drop l.number (map (λ k. k.least) l.initial.classes);
}
