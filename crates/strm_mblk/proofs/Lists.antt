-- Plain lists.
use Rattle.std.proofs.Common.{◌≡◌, ℕ, zero, suc, ◌+◌, ◌<◌, Bool, cond, List, [], ◌∷◌, ◌++◌, map, length, get_or, set, refl, arith, length-append, ◌≤◌, true, false, ltb, Option, Some, sym, subst, ap, if◌then◌else◌, ◌==◌, ◌-◌, take, drop, ◌∙◌, inl, inr, append_assoc}
use Rattle.std.specs.Prelude.{count_by, sum_by, slice_get, min}
use Rattle.std.specs.List.{flat_map}
use Rattle.std.proofs.lemmas.List.Sums.{sum_by-append}
use Rattle.std.specs.Option.{IfSome, unwrap_or}
use Rattle.std.proofs.lemmas.Option.{same_Some, none-some}
use Rattle.std.proofs.lemmas.Bool.Decides.{eqb_tells}
use Rattle.std.proofs.lemmas.Bool.{cases_lt}
use Rattle.std.proofs.lemmas.List.{append-nil, drop-drop, drop-take, drop_all, length-drop, nil_from_length, take-take, drop_at, drop_min, length-take-le, take-append-drop, take_at, take_min}
use Rattle.std.proofs.Math.Nat.{min_comm}
use Rattle.std.proofs.Math.Seq.{drop-append-add, drop-nil, take-append-add, take-nil}
use Rattle.strm_links.proofs.lists.Counting.{one_if, times-cons, times_here}
use Rattle.strm_data.specs.DataStore.{times}
use Rattle.strm_links.specs.Rows.{first}
use borrow.Rule.Slice.PartMut.{put_mid}
use Rattle.std.proofs.lemmas.Grind.{common_steps}

-- ==== numbers of a list that add up over its parts

-- a number of a list that adds up over its parts
pub record IsAdditive {X : Type 0} (m : List X → ℕ) : Type 0 where
  pub none : m [] ≡ 0
  pub both : (xs ys : List X) → m (xs ++ ys) ≡ m xs + m ys

pub length_adds : {X : Type 0} → IsAdditive (length {A = X})
length_adds = record { none = refl; both = length-append }

pub sum_adds : {X : Type 0} (f : X → ℕ) → IsAdditive (sum_by f)
sum_adds f = record { none = refl; both = sum_by-append f }

pub count_adds : {X : Type 0} (p : X → Bool) → IsAdditive (count_by p)
count_adds p = record { none = refl; both = λ xs ys. sum_by-append (λ x. cond (p x) 1 0) xs ys }

-- a test counts a lone item once or not at all
pub count_one : {X : Type 0} (p : X → Bool) (x : X) → count_by p (x ∷ []) ≡ one_if (p x)
count_one p x = omega arith

-- an element is replaced by another
pub flat_map-set_adds : {X Y : Type 0} {m : List Y → ℕ} → IsAdditive m → (f : X → List Y) (xs : List X) (i : ℕ) (y d : X) → i < length xs
    → m (flat_map f (set xs i y)) + m (f (get_or xs i d)) ≡ m (flat_map f xs) + m (f y)
flat_map-set_adds adds f [] i y d within = absurd (omega arith)
flat_map-set_adds adds f (x ∷ xs) zero y d within = grind (arith, common_steps)
flat_map-set_adds adds f (x ∷ xs) (suc i) y d within = grind (arith, common_steps, (flat_map-set_adds adds f xs i y d))

pub count_by-map : {X Y : Type 0} (p : Y → Bool) (f : X → Y) (xs : List X) → count_by p (map f xs) ≡ count_by (λ x. p (f x)) xs
count_by-map p f [] = refl
count_by-map p f (x ∷ xs) = grind (arith, common_steps, (count_by-map p f xs), count_adds)

-- ==== numbers in lists: at which places they are, and how often

-- a number at a place of a list is counted in it
pub times_at : (n : ℕ) (ns : List ℕ) (k : ℕ) → slice_get ns k ≡ Some n → 0 < times n ns
times_at n [] k is = absurd (none-some n is)
times_at n (x ∷ ns) zero is = omega (arith, times_here n x ns (same_Some x n is))
times_at n (x ∷ ns) (suc k) is = omega (arith, times-cons n x ns, times_at n ns k is)

-- a list that begins with h has it at place 0
pub at_first : (ns : List ℕ) {h : ℕ} → first ns ≡ Some h → slice_get ns 0 ≡ Some h
at_first [] {h} is = absurd (none-some h is)
at_first (n ∷ ns) is = is

-- and it has one
pub nonempty : {h : ℕ} (xs : List ℕ) → first xs ≡ Some h → 0 < length xs
nonempty {h} [] is = absurd (none-some h is)
nonempty (x ∷ xs) is = omega arith

-- a list is its first number and the others
pub first_rest : (xs : List ℕ) {n : ℕ} → first xs ≡ Some n → xs ≡ n ∷ drop 1 xs
first_rest [] {n} is = absurd (none-some n is)
first_rest (x ∷ xs) {n} is = ap (λ y. y ∷ xs) (same_Some x n is)

-- the first numbers of a list, place by place
pub slice_get-take : {X : Type 0} (n i : ℕ) (xs : List X) → i < n → slice_get (take n xs) i ≡ slice_get xs i
slice_get-take zero i xs inside = absurd (omega (arith, inside))
slice_get-take (suc n) i [] inside = refl
slice_get-take (suc n) zero (x ∷ xs) inside = refl
slice_get-take (suc n) (suc i) (x ∷ xs) inside = slice_get-take n i xs (omega (arith, inside))

-- ---- how often

-- at most one
pub one_most : (b : Bool) → (if b then 1 else 0) ≤ 1
one_most true = omega arith
one_most false = omega arith

-- what is counted is in range
pub in_range : (n k : ℕ) → 0 < (if ltb n k then 1 else 0) → n < k
in_range n k some = grind (arith, common_steps)

-- a list without the first place of a number
abbrev pub less : ℕ → List ℕ → List ℕ
less n [] = []
less n (x ∷ xs) = if x == n then xs else x ∷ less n xs

-- what a test counts there
count_less : (p : ℕ → Bool) (n : ℕ) (xs : List ℕ) → 0 < times n xs → count_by p (less n xs) + one_if (p n) ≡ count_by p xs
count_less p n [] some = absurd (omega arith)
count_less p n (x ∷ xs) some = grind (arith, common_steps, (count_less p n xs), eqb_tells, count_adds, count_one, one_if, times-cons)

-- a list that counts no number is empty
none_stands : (xs : List ℕ) → ((n : ℕ) → times n xs ≡ 0) → xs ≡ []
none_stands [] none = refl
none_stands (x ∷ xs) none = absurd (omega (arith, none x, times_here x x xs refl))

-- two lists with the same numbers, in whatever order, count alike
pub count_same : (p : ℕ → Bool) (xs ys : List ℕ) → ((n : ℕ) → times n xs ≡ times n ys) → count_by p xs ≡ count_by p ys
count_same p [] ys same = ap (count_by p) (sym (none_stands ys (λ n. sym (same n))))
count_same p (x ∷ xs) ys same =
    let here : 0 < times x ys = omega (arith, same x, times_here x x xs refl) in
    let rest : (n : ℕ) → times n xs ≡ times n (less x ys) =
    λ n. omega (arith, same n, times-cons n x xs, count_less (λ k. k == n) x ys here) in
    omega (arith, (count_adds p).both (x ∷ []) xs, count_same p xs (less x ys) rest, count_less p x ys here, count_one p x)

-- a number that is there is below n, so what is read in its place is
pub below : {o : Option ℕ} (d : ℕ) {k : ℕ} (n : ℕ) → o ≡ Some k → IfSome o (λ x. x < n) → unwrap_or o d < n
below d n is some = subst (λ (p : Option ℕ). IfSome p (λ x. x < n) → unwrap_or p d < n) (sym is) (λ low. low) some

-- ==== parts of a list, and a part put instead of another

-- a list from a place on
pub drop_from : {X : Type 0} (xs : List X) (k : ℕ) (x : X) → slice_get xs k ≡ Some x → drop k xs ≡ x ∷ drop (k + 1) xs
drop_from [] k x is = absurd (none-some x is)
drop_from (y ∷ xs) zero x is = ap (λ z. z ∷ xs) (same_Some y x is)
drop_from (y ∷ xs) (suc k) x is = grind (arith, common_steps, (drop_from xs k x is))

-- a part of a part of a list, as a part of the list
pub take-part : {X : Type 0} (n at len from : ℕ) (xs : List X) → n ≤ len - min at len → take n (drop (from + min at len) xs) ≡ take n (drop at (take len (drop from xs)))
take-part n at len from xs few =
    elim (cases_lt len at) [
      | inl past ↦
          let none : n ≡ 0 = omega arith in
          (λ i. take (none i) (drop (from + min at len) xs)) ∙ (λ i. take (sym none i) (drop at (take len (drop from xs))))
      | inr within ↦
          let here : min at len ≡ at = omega arith in
          let more : at + (len - at) ≡ len = omega arith in
          ap (λ k. take n (drop (from + k) xs)) here ∙ ap (take n) (sym (drop-drop at from xs))
          ∙ sym (ap (λ k. take n (drop at (take k (drop from xs)))) (sym more) ∙ ap (take n) (drop-take at (len - at) (drop from xs)) ∙ take-take n (len - at) (drop at (drop from xs)) (omega arith))
    ]

-- two lists, one after the other, without their first elements
pub drop-append : {X : Type 0} (n : ℕ) (xs ys : List X) → drop n (xs ++ ys) ≡ drop n xs ++ drop (n - length xs) ys
drop-append zero xs ys = ap (λ k. xs ++ drop k ys) (let e : 0 ≡ 0 - length xs = omega arith in e)
drop-append (suc n) [] ys = ap (λ k. drop k ys) (let e : suc n ≡ suc n - 0 = omega arith in e)
drop-append (suc n) (x ∷ xs) ys = drop-append n xs ys ∙ ap (λ k. drop n xs ++ drop k ys) (let e : n - length xs ≡ suc n - length (x ∷ xs) = omega arith in e)

-- a list whose part from a place on is another
pub put_rest : {X : Type 0} (a : ℕ) (xs ys : List X) → put_mid a (length xs - a) xs ys ≡ take a xs ++ ys
put_rest a xs ys = grind (arith, common_steps, drop_all, length-drop, append-nil)

-- the first items of one list before the rest of another, and one item more
pub filled_more : {X : Type 0} (ps xs : List X) (d : ℕ) (p : X) → slice_get ps d ≡ Some p → d < length xs → set (take d ps ++ drop d xs) d p ≡ take (d + 1) ps ++ drop (d + 1) xs
filled_more [] xs d p is within = absurd (none-some p is)
filled_more (q ∷ ps) [] d p is within = absurd (omega (arith, within))
filled_more (q ∷ ps) (x ∷ xs) zero p is within = ap (λ y. y ∷ xs) (sym (same_Some q p is))
filled_more (q ∷ ps) (x ∷ xs) (suc d) p is within =
    let next : suc (d + 1) ≡ suc d + 1 = omega arith in
    ap (λ ys. q ∷ ys) (filled_more ps xs d p is (omega (arith, within))) ∙ ap (λ n. take n (q ∷ ps) ++ drop n (x ∷ xs)) next

-- an item behind the first n
pub got_behind : {X : Type 0} (xs : List X) (n d : ℕ) → slice_get (drop n xs) d ≡ slice_get xs (n + d)
got_behind [] zero d = refl
got_behind [] (suc n) d = refl
got_behind (x ∷ xs) zero d = let same : d ≡ 0 + d = omega arith in ap (slice_get (x ∷ xs)) same
got_behind (x ∷ xs) (suc n) d = let next : suc (n + d) ≡ suc n + d = omega arith in got_behind xs n d ∙ ap (slice_get (x ∷ xs)) next

-- a list of one item
pub one_item : {X : Type 0} (xs : List X) {x : X} → slice_get xs 0 ≡ Some x → length xs ≡ 1 → xs ≡ x ∷ []
one_item [] is long = absurd (omega (arith, long))
one_item (y ∷ ys) {x} is long = ap (λ zs. y ∷ zs) (nil_from_length ys (omega (arith, long))) ∙ ap (λ z. z ∷ []) (same_Some y x is)

-- ==== lists laid over the front of another, as far as there is room for them; and laid there piece by piece

-- a list once another is laid over its front
abbrev pub overlaid : {X : Type 0} → List X → List X → List X
overlaid ps xs = take (length xs) ps ++ drop (length ps) xs

-- nothing laid over a list leaves it
pub overlaid-nil : {X : Type 0} (xs : List X) → overlaid [] xs ≡ xs
overlaid-nil xs = ap (λ ys. ys ++ xs) (take-nil (length xs))

-- two lists, one after the other
pub overlaid-append : {X : Type 0} (ps qs xs : List X) → overlaid (ps ++ qs) xs ≡ take (length xs) ps ++ overlaid qs (drop (length ps) xs)
overlaid-append [] qs xs = ap (λ ys. ys ++ overlaid qs xs) (sym (take-nil (length xs)))
overlaid-append (p ∷ ps) qs [] = drop-nil (length ((p ∷ ps) ++ qs)) ∙ sym (ap (overlaid qs) (drop-nil (length (p ∷ ps))) ∙ drop-nil (length qs))
overlaid-append (p ∷ ps) qs (x ∷ xs) = ap (λ ys. p ∷ ys) (overlaid-append ps qs xs)

-- the first n of one list are laid there
pub overlaid_more : {X : Type 0} (ps qs xs : List X) {n : ℕ} → n ≡ min (length xs) (length ps) → take n ps ++ overlaid qs (drop n xs) ≡ overlaid (ps ++ qs) xs
overlaid_more ps qs xs is = grind (arith, common_steps, min_comm, take_min, drop_min, overlaid-append)

-- and the first n of one list alone
pub overlaid_min : {X : Type 0} (ps xs : List X) {n : ℕ} → n ≡ min (length xs) (length ps) → take n ps ++ drop n xs ≡ overlaid ps xs
overlaid_min ps xs is = grind (arith, common_steps, overlaid-nil, overlaid_more, append-nil)

-- the first `done` of a list, which was `old`, are laid there, and what `rest` lays over the others is what `all` lays
-- over what it was
pub record IsLaid {X : Type 0} (all rest old now : List X) (done : ℕ) : Type 0 where
  pub within : done ≤ length now
  pub list : take done now ++ overlaid rest (drop done now) ≡ overlaid all old
  pub count : done + min (length now - done) (length rest) ≡ min (length old) (length all)

-- nothing is laid there at first
pub laid_start : {X : Type 0} (all xs : List X) → IsLaid all all xs xs 0
laid_start all xs =
    let same : length xs - 0 ≡ length xs = omega arith in
    record { within = omega arith; list = refl; count = omega (arith, ap (λ n. min n (length all)) same) }

-- a piece of the rest is laid there
pub laid_on : {X : Type 0} {all : List X} (ps rest : List X) {old now new : List X} {done n : ℕ} → IsLaid all (ps ++ rest) old now done → n ≡ min (length (drop done now)) (length ps) → new ≡ take n ps ++ drop n (drop done now)
    → IsLaid all rest old (take done now ++ new) (done + n)
laid_on ps rest {now} {new} {done} {n} laid count is =
    let xs = drop done now in
    let front = take done now in
    let long : length front ≡ done = length-take-le done now laid.within in
    let few : length (take n ps) ≡ n = length-take-le n ps (omega (arith, count)) in
    let many : length new ≡ n + (length xs - n) = ap length is ∙ length-append (take n ps) (drop n xs) ∙ (λ i. few i + length-drop n xs i) in
    record {
      within = omega (arith, count, length-append front new, many, long);
      list =
          (λ i. take (sym long i + n) (front ++ new) ++ overlaid rest (drop (sym long i + n) (front ++ new)))
          ∙ (λ i. take-append-add front new n i ++ overlaid rest (drop-append-add front new n i))
          ∙ (λ i. (front ++ take n (is i)) ++ overlaid rest (drop n (is i)))
          ∙ (λ i. (front ++ take_at (take n ps) (drop n xs) n few i) ++ overlaid rest (drop_at (take n ps) (drop n xs) n few i))
          ∙ append_assoc front (take n ps) (overlaid rest (drop n xs))
          ∙ ap (λ ys. front ++ ys) (overlaid_more ps rest xs count)
          ∙ laid.list;
      count = omega (arith, count, length-append front new, many, long, laid.count, length-append ps rest, length-drop done now);
    }

-- all is laid there
pub laid_all : {X : Type 0} {all rest old now : List X} {done : ℕ} → rest ≡ [] → IsLaid all rest old now done → (done ≡ min (length old) (length all)) × (now ≡ take done all ++ drop done old)
laid_all none laid = grind (arith, common_steps, take-append-drop, overlaid-nil, overlaid_min)

-- where there is no more room, nothing more is laid there
pub laid_full : {X : Type 0} {all rest old now : List X} {done : ℕ} → done ≡ length now → IsLaid all rest old now done → IsLaid all [] old now done
laid_full {rest} {now} {done} full laid =
    let past : drop done now ≡ [] = drop_all done now (omega (arith, full)) in
    let nothing : overlaid rest [] ≡ [] = drop-nil (length rest) in
    record {
      within = laid.within;
      list = ap (λ xs. take done now ++ overlaid [] xs) past ∙ sym (ap (λ xs. take done now ++ overlaid rest xs) past ∙ ap (λ xs. take done now ++ xs) nothing) ∙ laid.list;
      count = omega (arith, full, laid.count);
    }
