-- Size classes: when they are lawful, and which sizes they fit.
use Rattle.std.specs.Prelude.{ℕ, Bool, true, ◌&&◌, nat_lt, nat_le, List, [], ◌∷◌, length, sum_by}
use Rattle.std.specs.List.{list_all, list_any}
use Rattle.strm_data.specs.declared.class_spec.ClassSpec.{ClassSpec}
use Rattle.strm_data.specs.Limits.{most_classes, most_data_block_bytes, most_data_blocks}

-- each size is above the one before, the first above `below`, and none is above most_data_block_bytes
abbrev pub sizes_rise : ℕ → List ClassSpec → Bool
sizes_rise below [] = true
sizes_rise below (c ∷ cs) = nat_lt below c.size && (nat_le c.size most_data_block_bytes && sizes_rise c.size cs)

-- each class has at least one data block
abbrev pub each_has_blocks : List ClassSpec → Bool
each_has_blocks cs = list_all (λ c. nat_lt 0 c.count) cs

-- the number of data blocks of all classes together
abbrev pub total_of : List ClassSpec → ℕ
total_of cs = sum_by (λ c. c.count) cs

-- the classes are lawful: 1 to most_classes, of rising sizes, each with at least one data block, and at most
-- most_data_blocks in all
abbrev pub are_lawful : List ClassSpec → Bool
are_lawful cs = nat_le 1 (length cs) && (nat_le (length cs) most_classes && (sizes_rise 0 cs && (each_has_blocks cs && nat_le (total_of cs) most_data_blocks)))

-- whether some class has blocks of this size or more
abbrev pub fits_a_class : ℕ → List ClassSpec → Bool
fits_a_class size cs = list_any (λ c. nat_le size c.size) cs
