-- The bytes of lawful size classes are few.
use Rattle.std.proofs.Common.{ℕ, ◌+◌, ◌*◌, ◌^◌, ◌<◌, ◌≤◌, List, [], ◌∷◌, arith, get_or, length}
use Rattle.std.specs.Prelude.{IsTrue, nat_le, nat_lt, sum_by}
use Rattle.std.proofs.Math.Nat.{div-mul-le_self, mul-le-mul_left}
use Rattle.std.proofs.lemmas.Bool.{and_parts, leb-true}
use Rattle.std.proofs.lemmas.List.Sums.{sum_by-cons, sum_by_more_le}
use Rattle.std.proofs.lemmas.Nat.{mul-le}
use Rattle.strm_data.specs.declared.class_spec.ClassSpec.{ClassSpec}
use Rattle.strm_data.specs.Classes.{are_lawful, each_has_blocks, sizes_rise, total_of}
use Rattle.strm_data.specs.DataStore.{no_class_spec}
use Rattle.strm_data.specs.Limits.{most_classes, most_data_block_bytes, most_data_blocks}
use Rattle.strm_data.proofs.store.Lawful.{lawful_size, lawful_total}
use Rattle.strm_c.specs.Memory.{bytes_of_class, in_lines}

classes_few : (below : ℕ) (cs : List ClassSpec) → IsTrue (sizes_rise below cs) → sum_by bytes_of_class cs ≤ 87 * length cs + 4112 * total_of cs
classes_few below [] rise = omega arith
classes_few below (c ∷ cs) rise =
    let above = and_parts (nat_lt below c.size) _ rise in
    let within = and_parts (nat_le c.size most_data_block_bytes) _ above.1 in
    let times : c.count * c.size ≤ c.count * 4096 = mul-le-mul_left c.count (leb-true c.size most_data_block_bytes within.0) in
    let lines : in_lines (c.count * c.size) ≤ c.count * c.size + 63 = div-mul-le_self (c.count * c.size + 63) 64 in
    omega (arith, sum_by-cons bytes_of_class c cs, sum_by-cons (λ (d : ClassSpec). d.count) c cs, times, lines, classes_few c.size cs within.1)

-- lawful classes take less than 70 MB
pub lawful_few : (cs : List ClassSpec) → IsTrue (are_lawful cs) → sum_by bytes_of_class cs ≤ 70000000
lawful_few cs lawful =
    let some = and_parts (nat_le 1 (length cs)) _ lawful in
    let few = and_parts (nat_le (length cs) most_classes) _ some.1 in
    let rising = and_parts (sizes_rise 0 cs) _ few.1 in
    let filled = and_parts (each_has_blocks cs) _ rising.1 in
    omega (arith, leb-true (length cs) most_classes few.0, leb-true (total_of cs) most_data_blocks filled.1, classes_few 0 cs rising.0)

-- and the data blocks of one class less than 4 GB
pub own_few : (cs : List ClassSpec) → IsTrue (are_lawful cs) → (i : ℕ) → i < length cs → (get_or cs i no_class_spec).count * (get_or cs i no_class_spec).size < 2 ^ 32
own_few cs lawful i within =
    let c = get_or cs i no_class_spec in
    let counted : c.count ≤ most_data_blocks = omega (arith, sum_by_more_le (λ (d : ClassSpec). d.count) cs i no_class_spec within, lawful_total cs lawful) in
    omega (arith, mul-le c.count c.size most_data_blocks most_data_block_bytes counted (lawful_size cs lawful i within).1)
