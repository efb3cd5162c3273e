-- Plain lists.
use Rattle.std.proofs.Common.{◌≡◌, ℕ, zero, suc, ◌+◌, List, [], ◌∷◌, ◌++◌, get_or, map, replicate, refl, sym, ap, ◌∙◌, ◌≢◌, ◌-◌, ◌<◌, ◌≤◌, length, set, take, drop, inl, inr, arith, length-set, get_or-set_same, get_or-set_other, length-append, append_assoc}
use Rattle.std.proofs.lemmas.List.{map-id, ext_get_or, get_or-map, length-map, length-take, length-take-le, length-drop, take-take, take-append-le, drop-append-le, drop-drop, drop-take}
use Rattle.std.proofs.lemmas.List.FromFn.{map-range_with_len_more, length-map-range_with_len, get_or-map-range_with_len}
use Rattle.std.specs.List.{flat_map, range_with_len}
use Rattle.std.proofs.lemmas.Bool.{cases_eq}
use Rattle.std.proofs.lemmas.Slice.{drop-append-drop}
use Rattle.std.proofs.Math.Seq.{take-append-add}
use Rattle.strm_data.specs.DataStore.{bytes_overwritten}

-- ---- lists of one item, repeated, and lists of numbers that rise by one

pub map-replicate : {X Y : Type 0} (f : X → Y) (n : ℕ) (x : X) → map f (replicate n x) ≡ replicate n (f x)
map-replicate f zero x = refl
map-replicate f (suc n) x = ap (λ ys. f x ∷ ys) (map-replicate f n x)

-- where each gives no items
pub flat_map-replicate : {X Y : Type 0} (f : X → List Y) (n : ℕ) (x : X) → f x ≡ [] → flat_map f (replicate n x) ≡ []
flat_map-replicate f zero x none = refl
flat_map-replicate f (suc n) x none = rw none (flat_map-replicate f n x none)

-- the item stands at each place, and is given past the last
pub copies-at : {X : Type 0} (n d : ℕ) (x : X) → get_or (replicate n x) d x ≡ x
copies-at zero d x = refl
copies-at (suc n) zero x = refl
copies-at (suc n) (suc d) x = copies-at n d x

-- one number more
pub range_with_len_more : (a n k : ℕ) → a + n ≡ k → range_with_len a (n + 1) ≡ range_with_len a n ++ k ∷ []
range_with_len_more a n k last =
    sym (map-id (range_with_len a (n + 1))) ∙ map-range_with_len_more (λ (j : ℕ). j) a n k last ∙ ap (λ xs. xs ++ k ∷ []) (map-id (range_with_len a n))

-- a list, by its items' places
pub map-get_or : {X : Type 0} (xs : List X) (d : X) → map (λ k. get_or xs k d) (range_with_len 0 (length xs)) ≡ xs
map-get_or xs d =
    let long = length-map-range_with_len (λ k. get_or xs k d) 0 (length xs) in
    ext_get_or d _ xs long (λ i within. get_or-map-range_with_len (λ k. get_or xs k d) 0 (length xs) i i d (omega (arith, long)) (let e : 0 + i ≡ i = omega arith in e))

-- what a function gives where it differs from another at one item
pub map-set_but : {X Y : Type 0} (f g : X → Y) (xs : List X) (k : ℕ) (d : X) (y : Y) → k < length xs → f (get_or xs k d) ≡ y
    → ((i : ℕ) → i < length xs → i ≢ k → f (get_or xs i d) ≡ g (get_or xs i d)) → map f xs ≡ set (map g xs) k y
map-set_but f g xs k d y there here others =
    ext_get_or y (map f xs) (set (map g xs) k y) (length-map xs f ∙ sym (length-set (map g xs) k y ∙ length-map xs g))
    (λ i within.
    let inside : i < length xs = omega (arith, length-map xs f) in
    get_or-map f xs i d y inside
    ∙ elim (cases_eq i k) [
      | inl same ↦ ap (λ j. f (get_or xs j d)) same ∙ here ∙ sym (ap (λ j. get_or (set (map g xs) k y) j y) same ∙ get_or-set_same (map g xs) k y y (omega (arith, length-map xs g)))
      | inr other ↦ others i inside other ∙ sym (get_or-set_other (map g xs) k i y y other ∙ get_or-map g xs i d y inside)
    ])

-- the last item of a part at the front is replaced
pub set-take : {X : Type 0} (n : ℕ) (xs ys : List X) (x : X) → n < length xs → set (take (suc n) xs ++ ys) n x ≡ take n xs ++ x ∷ ys
set-take n [] ys x within = absurd (omega arith)
set-take zero (z ∷ zs) ys x within = refl
set-take (suc n) (z ∷ zs) ys x within = ap (λ l. z ∷ l) (set-take n zs ys x (omega arith))

-- ---- a part of a list

pub length-part : (n from : ℕ) (xs : List ℕ) → from + n ≤ length xs → length (take n (drop from xs)) ≡ n
length-part n from xs within = omega (arith, length-take n (drop from xs), length-drop from xs)

-- a part of a part is a part of the whole
pub part_of : (n at from size : ℕ) (xs : List ℕ) → at + n ≤ size → take n (drop (from + at) xs) ≡ take n (drop at (take size (drop from xs)))
part_of n at from size xs room =
    cc (drop-drop at from xs, (let e : size ≡ at + (size - at) = omega arith in e), drop-take at (size - at) (drop from xs), take-take n (size - at) (drop at (drop from xs)) (omega arith))

pub length-overwritten : (at : ℕ) (new old : List ℕ) → at + length new ≤ length old → length (bytes_overwritten at new old) ≡ length old
length-overwritten at new old within = simp (length-append, length-take, length-drop) (omega arith)

-- a part that ends before what is written, or begins after it, stays the same
module _ (at : ℕ) (new old : List ℕ) (room : at + length new ≤ length old) where
  long : length (take at old) ≡ at
  long = length-take-le at old (omega arith)

  pub part_before : (n from : ℕ) → from + n ≤ at → take n (drop from (bytes_overwritten at new old)) ≡ take n (drop from old)
  part_before n from before =
      let front = take at old in
      let back = new ++ drop (at + length new) old in
      let split : at ≡ from + (at - from) = omega arith in
      let left = drop-append-le from front back (omega (arith, long)) in
      let part = take-append-le n (drop from front) back (omega (arith, long, length-drop from front)) in
      cc (left, part, split, drop-take from (at - from) old, take-take n (at - from) (drop from old) (omega arith))

  pub part_behind : (n from : ℕ) → at + length new ≤ from → take n (drop from (bytes_overwritten at new old)) ≡ take n (drop from old)
  part_behind n from behind =
      let front = take at old ++ new in
      cc (append_assoc (take at old) new (drop (at + length new) old), drop-append-drop (at + length new) old front from behind (omega (arith, long, length-append (take at old) new)))

-- a part in which all that is written lies
pub part_over : (n from at : ℕ) (new old : List ℕ) → at + length new ≤ n → from + n ≤ length old → take n (drop from (bytes_overwritten (from + at) new old)) ≡ bytes_overwritten at new (take n (drop from old))
part_over n from at new old room whole =
    let part = drop from old in
    let back = drop (from + at + length new) old in
    let rest = n - (at + length new) in
    let low : length (take at part) ≡ at = length-take-le at part (omega (arith, length-drop from old)) in
    let all : n ≡ length (take at part) + (length new + rest) = omega (arith, low) in
    let behind : from + (at + length new) ≡ from + at + length new = omega arith in
    let end : at + length new + rest ≡ n = omega arith in
    let left = drop-append-le from (take (from + at) old) (new ++ back) (omega (arith, length-take-le (from + at) old (omega arith))) in
    let front = take-append-add (take at part) (new ++ back) (length new + rest) in
    let past = drop-drop (at + length new) from old in
    cc (left, drop-take from at old, all, front, take-append-add new back rest, behind, past, end, drop-take (at + length new) rest part, take-take at n part (omega arith))
