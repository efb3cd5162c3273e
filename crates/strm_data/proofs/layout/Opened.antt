-- Data blocks laid out and free lists filled, class by class: a new store.
use Rattle.std.proofs.Common.{◌≡◌, ℕ, zero, suc, ◌+◌, ◌-◌, ◌*◌, ◌^◌, ◌<◌, ◌≤◌, List, [], ◌∷◌, ◌++◌, length, get_or, set, map, take, drop, replicate, refl, sym, ap, ◌∙◌, subst, arith, append_assoc, get_or-set_same, length-append}
use Rattle.std.specs.List.{range_with_len}
use Rattle.std.proofs.lemmas.List.{append-nil, drop-replicate, get_or-append_right, get_or-replicate, length-map, length-replicate, length-take-le, map-append, map-id, map_push, set-append_right, set-set, take-replicate, take_all, take_more}
use Rattle.std.proofs.lemmas.List.Sums.{sum_by_push, sum_by_more_le}
use Rattle.std.proofs.lemmas.Simd.{map-map}
use Rattle.std.proofs.Math.Seq.{drop-append-add, take-append_seam}
use Rattle.strm_links.specs.Rows.{Rows, list_at}
use Rattle.strm_data.specs.declared.class_spec.ClassSpec.{ClassSpec}
use Rattle.strm_data.specs.declared.data.Class.{Class}
use Rattle.strm_data.specs.declared.data.DataBlock.{DataBlock}
use Rattle.std.specs.Prelude.{IsTrue}
use Rattle.std.proofs.Math.Nat.{mul-le-mul_right}
use Rattle.strm_data.specs.Classes.{are_lawful, total_of}
use Rattle.strm_data.specs.Limits.{most_data_block_bytes}
use Rattle.strm_data.proofs.store.Lawful.{lawful_few, lawful_size, lawful_total}
use Rattle.strm_data.specs.CountedStore.{opening_counted}
use Rattle.strm_data.specs.DataLayout.{Extent, FitFrom, Room, bytes_in, end_of, extent_in, extent_of, extents_from, extents_in, no_block, room_of, seen_in, store_of_parts, unused_at, IsPlaced}
use Rattle.strm_data.specs.DataStore.{fresh_data_block, no_class_spec, numbers_from}
use Rattle.strm_data.proofs.store.Opening.{blocks_from, length-blocks_from, length-numbers_from, numbers_from-push}
use Rattle.strm_data.proofs.layout.Extents.{FitFrom-push, ends_within, extents_from-push, fit_ends, length-extents_from}

-- ---- lists of free data blocks that are filled one by one

-- one node more at the front of a list
pub filled_more : (rows start : Rows) (list n number next : ℕ) → list < length start.lists → number + 1 ≡ next
    → rows ≡ record start { lists = set start.lists list (range_with_len next n) }
    → record rows { lists = set rows.lists list (number ∷ list_at list rows) } ≡ record start { lists = set start.lists list (range_with_len number (n + 1)) }
filled_more rows start list n number next within above so_far =
    let xs = range_with_len next n in
    cc (so_far, set-set start.lists list xs (number ∷ get_or (set start.lists list xs) list []), get_or-set_same start.lists list xs [] within, above, (let e : suc n ≡ n + 1 = omega arith in e))

-- ---- class by class

replicate_first : (n : ℕ) → replicate {A = List ℕ} (n + 1) [] ≡ [] ∷ replicate n []
replicate_first n = ap (λ m. replicate m []) (let e : n + 1 ≡ suc n = omega arith in e)

-- the lists once the first i classes are filled
abbrev pub filled : List ClassSpec → ℕ → List (List ℕ)
filled cs i = numbers_from 0 (take i cs) ++ replicate (length cs - i) []

length-front : (cs : List ClassSpec) (i : ℕ) → i ≤ length cs → length (numbers_from 0 (take i cs)) ≡ i
length-front cs i within = length-numbers_from 0 (take i cs) ∙ length-take-le i cs within

pub length-filled : (cs : List ClassSpec) (i : ℕ) → i ≤ length cs → length (filled cs i) ≡ length cs
length-filled cs i within =
    omega (arith, length-append (numbers_from 0 (take i cs)) (replicate (length cs - i) []), length-front cs i within, length-replicate {A = List ℕ} (length cs - i) [])

-- the next class's is empty
pub filled-next : (cs : List ClassSpec) (i : ℕ) → i < length cs → get_or (filled cs i) i [] ≡ []
filled-next cs i within =
    get_or-append_right (numbers_from 0 (take i cs)) (replicate (length cs - i) []) i i [] (length-front cs i (omega arith)) (omega arith)
    ∙ get_or-replicate (length cs - i) (i - i) [] [] (omega arith)

-- and once it is filled too
pub filled-more : (cs : List ClassSpec) (i : ℕ) (d : ClassSpec) (first : ℕ) → i < length cs → first ≡ total_of (take i cs)
    → set (filled cs i) i (range_with_len first (get_or cs i d).count) ≡ filled cs (i + 1)
filled-more cs i d first within so_far =
    let front = numbers_from 0 (take i cs) in
    let c = get_or cs i d in
    let rest = length cs - (i + 1) in
    let long : length cs - i ≡ rest + 1 = omega arith in
    let here : i - i ≡ 0 = omega arith in
    set-append_right front (replicate (length cs - i) []) i i (range_with_len first c.count) (length-front cs i (omega arith)) (omega arith)
    ∙ (λ j. front ++ set (replicate (long j) []) (here j) (range_with_len (so_far j) c.count))
    ∙ ap (λ xs. front ++ set xs 0 (range_with_len (total_of (take i cs)) c.count)) (replicate_first rest)
    ∙ sym (append_assoc front (range_with_len (total_of (take i cs)) c.count ∷ []) (replicate rest []))
    ∙ ap (λ xs. xs ++ replicate rest [])
    (ap (λ n. front ++ range_with_len n c.count ∷ []) (let e : total_of (take i cs) ≡ 0 + total_of (take i cs) = omega arith in e)
    ∙ sym (numbers_from-push 0 (take i cs) c) ∙ ap (numbers_from 0) (sym (take_more cs i d within)))

pub filled-all : (cs : List ClassSpec) (i : ℕ) → length cs ≤ i → filled cs i ≡ numbers_from 0 cs
filled-all cs i past =
    let none : length cs - i ≡ 0 = omega arith in
    (λ j. numbers_from 0 (take_all i cs past j) ++ replicate (none j) []) ∙ append-nil _

-- ---- how many data blocks

pub total_of_next : (cs : List ClassSpec) (i : ℕ) (d : ClassSpec) → i < length cs → total_of (take (i + 1) cs) ≡ total_of (take i cs) + (get_or cs i d).count
total_of_next cs i d within = ap total_of (take_more cs i d within) ∙ sum_by_push (λ (c : ClassSpec). c.count) (take i cs) (get_or cs i d)

pub total_of_more : (cs : List ClassSpec) (i : ℕ) (d : ClassSpec) → i < length cs → total_of (take i cs) + (get_or cs i d).count ≤ total_of cs
total_of_more cs i d within = sum_by_more_le (λ (c : ClassSpec). c.count) cs i d within

-- how far a class ends at most
pub end_few : (cs : List ClassSpec) → IsTrue (are_lawful cs) → (i : ℕ) → i < length cs → (first start : ℕ) → first ≡ total_of (take i cs) → start ≤ most_data_block_bytes * first + 64 * i
    → start + (get_or cs i no_class_spec).size * (get_or cs i no_class_spec).count ≤ most_data_block_bytes * (first + (get_or cs i no_class_spec).count) + 64 * i
end_few cs lawful i within first start so_far few =
    let times : (get_or cs i no_class_spec).size * (get_or cs i no_class_spec).count ≤ most_data_block_bytes * (get_or cs i no_class_spec).count =
    mul-le-mul_right (get_or cs i no_class_spec).count (lawful_size cs lawful i within).1 in
    omega (arith, few, times)

pub end_low : (cs : List ClassSpec) → IsTrue (are_lawful cs) → (i : ℕ) → i < length cs → (first start : ℕ) → first ≡ total_of (take i cs) → start ≤ most_data_block_bytes * first + 64 * i
    → start + (get_or cs i no_class_spec).size * (get_or cs i no_class_spec).count < 2 ^ 31
end_low cs lawful i within first start so_far few =
    omega (arith, end_few cs lawful i within first start so_far few, so_far, total_of_more cs i no_class_spec within, lawful_total cs lawful, lawful_few cs lawful)

-- ---- data blocks that are laid out class by class

-- the first i classes are laid out, from this place on others may be, and these are the data blocks
pub record AreLaid (specs : List ClassSpec) (i : ℕ) (classes : List Class) (start : ℕ) (loads : List DataBlock) : Type 0 where
  pub specs_are : map (λ k. k.spec) classes ≡ take i specs
  pub least_are : map (λ k. k.least) classes ≡ map (λ c. c.count) (take i specs)
  pub fit : FitFrom 0 (map room_of classes) start
  pub loads_are : loads ≡ map unused_at (extents_from 0 (map room_of classes)) ++ replicate (total_of specs - total_of (take i specs)) no_block

-- none are
pub AreLaid-none : (specs : List ClassSpec) (classes : List Class) (loads : List DataBlock) → classes ≡ [] → loads ≡ replicate (total_of specs) no_block → AreLaid specs 0 classes 0 loads
AreLaid-none specs classes loads none is =
    let all : total_of specs ≡ total_of specs - 0 = omega arith in
    subst (λ ks. AreLaid specs 0 ks 0 loads) (sym none) (record { specs_are = refl; least_are = refl; fit = omega arith; loads_are = is ∙ ap (λ n. replicate n no_block) all })

module _ (specs : List ClassSpec) (i : ℕ) (classes : List Class) (start : ℕ) (loads : List DataBlock) (laid : AreLaid specs i classes start loads) where
  abbrev rooms : List Room
  rooms = map room_of classes

  abbrev front : List DataBlock
  front = map unused_at (extents_from 0 rooms)

  rooms_specs : map (λ (r : Room). r.spec) rooms ≡ take i specs
  rooms_specs = map-map (λ (r : Room). r.spec) room_of classes ∙ laid.specs_are

  length-front_laid : length front ≡ total_of (take i specs)
  length-front_laid = length-map (extents_from 0 rooms) unused_at ∙ length-extents_from 0 rooms ∙ ap total_of rooms_specs

  module _ (d : ClassSpec) (within : i < length specs) where
    pub length-laid : length loads ≡ total_of specs
    length-laid =
        omega (
          arith,
          ap length laid.loads_are,
          length-append front (replicate (total_of specs - total_of (take i specs)) no_block),
          length-front_laid,
          length-replicate (total_of specs - total_of (take i specs)) no_block,
          total_of_more specs i d within,
        )

    -- once the next class is laid out too
    pub AreLaid-more : (class : Class) (first next : ℕ) → class ≡ record { spec = get_or specs i d; start = start; least = (get_or specs i d).count } → first ≡ total_of (take i specs)
        → end_of (room_of class) ≤ next
        → AreLaid specs (i + 1) (classes ++ class ∷ []) next (take first loads ++ (map unused_at (extents_in i (room_of class)) ++ drop (first + class.spec.count) loads))
    AreLaid-more class first next is so_far past =
        let spec = get_or specs i d in
        let many : class.spec.count ≡ spec.count = ap (λ (k : Class). k.spec.count) is in
        let rest = total_of specs - total_of (take i specs) in
        let here = map unused_at (extents_in i (room_of class)) in
        let more = take_more specs i d within in
        let long : first ≡ length front = so_far ∙ sym length-front_laid in
        let number : 0 + length rooms ≡ i =
        omega (arith, length-map classes room_of, length-map classes (λ (k : Class). k.spec), ap length laid.specs_are, length-take-le i specs (omega arith)) in
        let grown : front ++ here ≡ map unused_at (extents_from 0 (map room_of (classes ++ class ∷ []))) =
        ap (λ n. front ++ map unused_at (extents_in n (room_of class))) (sym number) ∙ sym (map-append unused_at (extents_from 0 rooms) (extents_in (0 + length rooms) (room_of class)))
        ∙ ap (map unused_at) (sym (extents_from-push 0 rooms (room_of class)) ∙ ap (extents_from 0) (sym (map_push room_of classes class))) in
        let left : rest - class.spec.count ≡ total_of specs - total_of (take (i + 1) specs) = omega (arith, many, total_of_next specs i d within) in
        record {
          specs_are = map_push (λ (k : Class). k.spec) classes class ∙ (λ j. laid.specs_are j ++ (is j).spec ∷ []) ∙ sym more;
          least_are =
              map_push (λ (k : Class). k.least) classes class ∙ (λ j. laid.least_are j ++ (is j).least ∷ [])
              ∙ sym (ap (map (λ (c : ClassSpec). c.count)) more ∙ map_push (λ (c : ClassSpec). c.count) (take i specs) spec);
          fit = subst (λ rs. FitFrom 0 rs next) (sym (map_push room_of classes class)) (FitFrom-push 0 start next rooms (room_of class) laid.fit (omega (arith, ap (λ (k : Class). k.start) is)) past);
          loads_are =
              (λ j. take (long j) (laid.loads_are j) ++ (here ++ drop (long j + class.spec.count) (laid.loads_are j)))
              ∙ (λ j. take-append_seam front (replicate rest no_block) j ++ (here ++ drop-append-add front (replicate rest no_block) class.spec.count j))
              ∙ ap (λ ys. front ++ (here ++ ys)) (drop-replicate class.spec.count rest no_block)
              ∙ sym (append_assoc front here (replicate (rest - class.spec.count) no_block)) ∙ (λ j. grown j ++ replicate (left j) no_block);
        }

-- ---- what a contract sees of new data blocks

-- those of a class that has zeros
zeros_at : (c n : ℕ) (room : Room) → end_of room ≤ n → (a m : ℕ) → a + m ≤ room.spec.count
    → map (seen_in (replicate n 0)) (map unused_at (map (extent_in c room) (range_with_len a m))) ≡ replicate m (fresh_data_block c room.spec)
zeros_at c n room fits a zero within = refl
zeros_at c n room fits a (suc m) within =
    let size = room.spec.size in
    let start = room.start + a * size in
    let left : size ≤ n - start = omega (arith, ends_within size a room.spec.count (omega arith)) in
    let bytes : bytes_in (replicate n 0) (extent_in c room a) ≡ replicate size 0 = ap (take size) (drop-replicate start n 0) ∙ take-replicate size (n - start) 0 left in
    λ i. record (fresh_data_block c room.spec) { bytes = bytes i } ∷ zeros_at c n room fits (a + 1) m (omega arith) i

fresh_from : (c at n : ℕ) (rooms : List Room) → FitFrom at rooms n → map (seen_in (replicate n 0)) (map unused_at (extents_from c rooms)) ≡ blocks_from c (map (λ r. r.spec) rooms)
fresh_from c at n [] fit = refl
fresh_from c at n (room ∷ rooms) fit =
    ap (map (seen_in (replicate n 0))) (map-append unused_at (extents_in c room) (extents_from (c + 1) rooms))
    ∙ map-append (seen_in (replicate n 0)) (map unused_at (extents_in c room)) (map unused_at (extents_from (c + 1) rooms))
    ∙ (λ i. zeros_at c n room (fit_ends (end_of room) n rooms fit.1) 0 room.spec.count (omega arith) i ++ fresh_from (c + 1) (end_of room) n rooms fit.1 i)

unnamed : (es : List Extent) → map (λ (b : DataBlock). b.references) (map unused_at es) ≡ replicate (length es) 0
unnamed [] = refl
unnamed (e ∷ es) = ap (λ ns. 0 ∷ ns) (unnamed es)

-- all classes are laid out
module _ (specs : List ClassSpec) (i : ℕ) (classes : List Class) (start : ℕ) (loads : List DataBlock) (laid : AreLaid specs i classes start loads) (past : length specs ≤ i) where
  abbrev all_rooms : List Room
  all_rooms = map room_of classes

  whole_specs : map (λ (k : Class). k.spec) classes ≡ specs
  whole_specs = laid.specs_are ∙ take_all i specs past

  whole_loads : loads ≡ map unused_at (extents_from 0 all_rooms)
  whole_loads =
      let none : total_of specs - total_of (take i specs) ≡ 0 = omega (arith, ap total_of (take_all i specs past)) in
      laid.loads_are ∙ ap (λ n. map unused_at (extents_from 0 all_rooms) ++ replicate n no_block) none ∙ append-nil _

  fresh : map (seen_in (replicate start 0)) (map unused_at (extents_from 0 all_rooms)) ≡ blocks_from 0 specs
  fresh = fresh_from 0 0 start all_rooms laid.fit ∙ ap (blocks_from 0) (map-map (λ (r : Room). r.spec) room_of classes ∙ whole_specs)

  many : length (extents_from 0 all_rooms) ≡ length (blocks_from 0 specs)
  many =
      sym (length-map (extents_from 0 all_rooms) unused_at) ∙ sym (length-map (map unused_at (extents_from 0 all_rooms)) (seen_in (replicate start 0))) ∙ ap length fresh

  pub length_opened : length loads ≡ total_of specs
  length_opened = ap length whole_loads ∙ length-map (extents_from 0 all_rooms) unused_at ∙ many ∙ length-blocks_from 0 specs

  pub opened_is : store_of_parts classes (replicate start 0) loads (numbers_from 0 specs) ≡ opening_counted specs
  opened_is =
      (λ j. store_of_parts classes (replicate start 0) (whole_loads j) (numbers_from 0 specs))
      ∙ (λ j. record {
        store = record { classes = whole_specs j; blocks = fresh j; free = numbers_from 0 specs; least = (laid.least_are ∙ ap (map (λ (c : ClassSpec). c.count)) (take_all i specs past)) j };
        counts = (unnamed (extents_from 0 all_rooms) ∙ ap (λ n. replicate n 0) many) j;
      })

  pub IsPlaced-opened : IsPlaced all_rooms (replicate start 0) loads
  IsPlaced-opened = record {
    fit = subst (FitFrom 0 all_rooms) (sym (length-replicate start 0)) laid.fit;
    laid = ap (map extent_of) whole_loads ∙ map-map extent_of unused_at (extents_from 0 all_rooms) ∙ map-id (extents_from 0 all_rooms);
  }
