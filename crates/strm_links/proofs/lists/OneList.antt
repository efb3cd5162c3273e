-- One list of node numbers: what it has, the neighbours of a node, and what joins and leaves. Callers cite these lemmas too.
use Rattle.std.proofs.Common.{◌≡◌, ◌≢◌, ◌⊎◌, ℕ, zero, suc, ◌+◌, ◌<◌, ◌≤◌, true, false, ◌||◌, ◌==◌, List, [], ◌∷◌, ◌++◌, length, drop, take, get_or, Option, Some, None, IsSome, IfSome, is_none, if◌then◌else◌, refl, sym, ap, ◌∙◌, subst, inl, inr, arith, add-one}
use Rattle.std.proofs.lemmas.Bool.{cases_Bool, cond-true, cond-false, eq-eqb, ne_eqb, eqb-true, eqb-false, or_cases, or_parts, or_from, or_left, or_right, false≢true, false_from_ne_true, true_from_ne_false}
use Rattle.std.proofs.lemmas.Bool.Decides.{nat_tests}
use Rattle.std.proofs.lemmas.List.{append-nil, length-append}
use Rattle.std.proofs.lemmas.List.Folds.{list_any-append}
use Rattle.std.proofs.lemmas.Option.{none-some, same_Some}
use Rattle.std.specs.List.{All, slice_get}
use Rattle.strm_links.specs.Rows.{is_some_of, has, IsApart, first_or, last_or, first, last, after, before_from, before, without, put_before}

-- ---- an option

-- if the test says so, the option is the number
pub some_of : (k : ℕ) (o : Option ℕ) → is_some_of k o ≡ true → o ≡ Some k
some_of k None is = absurd (false≢true is)
some_of k (Some x) is = ap Some (eqb-true x k is)

-- and the other way round
pub is_some_of-same : (k : ℕ) (o : Option ℕ) → o ≡ Some k → is_some_of k o ≡ true
is_some_of-same k o is = ap (is_some_of k) is ∙ eq-eqb k k refl

-- an option that is some holds a number
pub number_of : (o : Option ℕ) → IsSome o → (k : ℕ) × (o ≡ Some k)
number_of None some = absurd (false≢true some)
number_of (Some k) some = (k, refl)

-- what holds for the number in an option, if there is one
pub IfSome-from : (o : Option ℕ) (P : ℕ → Type 0) → ((k : ℕ) → o ≡ Some k → P k) → IfSome o P
IfSome-from None P each = tt
IfSome-from (Some k) P each = each k refl

-- ---- membership

-- the head is in the list
pub has_head : (x k : ℕ) (xs : List ℕ) → x ≡ k → has k (x ∷ xs) ≡ true
has_head x k xs same = or_left _ _ (eq-eqb x k same)

-- a node of the rest is in the list
pub has_tail : (x k : ℕ) (xs : List ℕ) → has k xs ≡ true → has k (x ∷ xs) ≡ true
has_tail x k xs there = or_right _ _ there

-- a node of the list is its head or in the rest
pub has_cases : (x k : ℕ) (xs : List ℕ) → has k (x ∷ xs) ≡ true → (x ≡ k) ⊎ (has k xs ≡ true)
has_cases x k xs found = elim (or_cases _ _ found) [ inl here ↦ inl (eqb-true x k here) | inr there ↦ inr there ]

-- a node that is not in the list is neither its head nor in the rest
pub absent_parts : (x k : ℕ) (xs : List ℕ) → has k (x ∷ xs) ≡ false → (x ≢ k) × (has k xs ≡ false)
absent_parts x k xs absent = let parts = or_parts _ _ absent in (eqb-false x k parts.0, parts.1)

-- and the other way round
pub absent_from : (x k : ℕ) (xs : List ℕ) → x ≢ k → has k xs ≡ false → has k (x ∷ xs) ≡ false
absent_from x k xs other absent = or_from _ _ (ne_eqb x k other) absent

-- a node in a list differs from one that is not
pub differ : (x k : ℕ) (xs : List ℕ) → has x xs ≡ false → has k xs ≡ true → x ≢ k
differ x k xs absent there same = false≢true (sym absent ∙ ap (λ j. has j xs) same ∙ there)

-- two lists together have what either has
pub has-append : (k : ℕ) (xs ys : List ℕ) → has k (xs ++ ys) ≡ (has k xs || has k ys)
has-append k xs ys = list_any-append (λ x. x == k) xs ys

-- a node of the first is in both together
pub has_left : (k : ℕ) (xs ys : List ℕ) → has k xs ≡ true → has k (xs ++ ys) ≡ true
has_left k xs ys there = has-append k xs ys ∙ or_left _ _ there

-- a node of the second is in both together
pub has_right : (k : ℕ) (xs ys : List ℕ) → has k ys ≡ true → has k (xs ++ ys) ≡ true
has_right k xs ys there = has-append k xs ys ∙ or_right _ _ there

-- a node put between two lists leaves what was there
pub has-around : (k n : ℕ) (pre post : List ℕ) → n ≢ k → has k (pre ++ n ∷ post) ≡ has k (pre ++ post)
has-around k n pre post other = grind (arith, nat_tests, has-append k pre (n ∷ post), has-append k pre post)

-- a node that is not in two lists together is in neither
pub absent_both : (k : ℕ) (xs ys : List ℕ) → has k (xs ++ ys) ≡ false → (has k xs ≡ false) × (has k ys ≡ false)
absent_both k xs ys absent = or_parts _ _ (sym (has-append k xs ys) ∙ absent)

-- what holds for each item holds for a node of the list
pub All-has : (P : ℕ → Type 0) (xs : List ℕ) (k : ℕ) → All P xs → has k xs ≡ true → P k
All-has P [] k all found = absurd (false≢true found)
All-has P (x ∷ xs) k all found = grind (arith, nat_tests, all 0 x, All-has P xs k (λ i d within. all (suc i) d (omega arith)))

-- the item at a place is in the list
pub has_at : (xs : List ℕ) (i d : ℕ) → i < length xs → has (get_or xs i d) xs ≡ true
has_at [] i d within = absurd (omega arith)
has_at (x ∷ xs) zero d within = has_head x x xs refl
has_at (x ∷ xs) (suc i) d within = has_tail x _ xs (has_at xs i d (omega arith))

-- ---- no node twice

-- neither list has a node twice, and no node is in both
pub record ApartParts (xs ys : List ℕ) : Type 0 where
  pub left : IsApart xs
  pub right : IsApart ys
  pub cross : (k : ℕ) → has k xs ≡ true → has k ys ≡ false

-- a list with no node twice is two such parts
pub IsApart-parts : (xs ys : List ℕ) → IsApart (xs ++ ys) → ApartParts xs ys
IsApart-parts [] ys apart = record { left = tt; right = apart; cross = λ k nowhere. absurd (false≢true nowhere) }
IsApart-parts (x ∷ xs) ys apart =
    let rest = IsApart-parts xs ys apart.1 in
    let off = absent_both x xs ys apart.0 in
    record {
      left = (off.0, rest.left);
      right = rest.right;
      cross = λ k found. grind (arith, nat_tests, off.1, rest.cross k);
    }

-- two such parts are a list with no node twice
pub IsApart-append : (xs ys : List ℕ) → ApartParts xs ys → IsApart (xs ++ ys)
IsApart-append [] ys parts = parts.right
IsApart-append (x ∷ xs) ys parts =
    let rest = IsApart-append xs ys (record { left = parts.left.1; right = parts.right; cross = λ k there. parts.cross k (has_tail x k xs there) }) in
    grind (arith, nat_tests, has-append x xs ys, parts.cross x, rest)

-- no node is in the list twice after a new one joins
pub IsApart-insert : (pre post : List ℕ) (n : ℕ) → IsApart (pre ++ post) → has n (pre ++ post) ≡ false → IsApart (pre ++ n ∷ post)
IsApart-insert pre post n apart absent =
    let parts = IsApart-parts pre post apart in
    let off = absent_both n pre post absent in
    IsApart-append pre (n ∷ post)
    (record { left = parts.left; right = (off.1, parts.right); cross = λ k there. absent_from n k post (differ n k pre off.0 there) (parts.cross k there) })

-- no node is in the list twice after one leaves
pub IsApart-remove : (pre post : List ℕ) (n : ℕ) → IsApart (pre ++ n ∷ post) → IsApart (pre ++ post)
IsApart-remove pre post n apart =
    let parts = IsApart-parts pre (n ∷ post) apart in
    IsApart-append pre post (record { left = parts.left; right = parts.right.1; cross = λ k there. (absent_parts n k post (parts.cross k there)).1 })

-- a node at a place is nowhere else in the list
pub absent_around : (pre post : List ℕ) (n : ℕ) → IsApart (pre ++ n ∷ post) → (has n pre ≡ false) × (has n post ≡ false)
absent_around pre post n apart =
    let parts = IsApart-parts pre (n ∷ post) apart in
    (false_from_ne_true _ (λ there. false≢true (sym (parts.cross n there) ∙ has_head n n post refl)), parts.right.0)

-- ---- a list that is split at a node

-- the part before a node
abbrev pub upto : ℕ → List ℕ → List ℕ
upto n [] = []
upto n (x ∷ xs) = if x == n then [] else x ∷ upto n xs

-- the part after a node
abbrev pub beyond : ℕ → List ℕ → List ℕ
beyond n [] = []
beyond n (x ∷ xs) = if x == n then xs else beyond n xs

-- a list that has a node is the part before it, the node and the part after it
pub split_at : (n : ℕ) (xs : List ℕ) → has n xs ≡ true → xs ≡ upto n xs ++ n ∷ beyond n xs
split_at n [] found = absurd (false≢true found)
split_at n (x ∷ xs) found = grind (arith, nat_tests, split_at n xs)

-- a node is not in the part before it
pub absent_upto : (n : ℕ) (xs : List ℕ) → has n (upto n xs) ≡ false
absent_upto n [] = refl
absent_upto n (x ∷ xs) = grind (arith, nat_tests, absent_upto n xs)

-- the next node is the first of the part after it
pub after-at : (pre post : List ℕ) (n : ℕ) → has n pre ≡ false → after n (pre ++ n ∷ post) ≡ first post
after-at [] post n absent = grind (arith, nat_tests)
after-at (x ∷ pre) post n absent = grind (arith, nat_tests, after-at pre post n)

before_from-at : (ahead : Option ℕ) (pre post : List ℕ) (n : ℕ) → has n pre ≡ false → before_from ahead n (pre ++ n ∷ post) ≡ last_or ahead pre
before_from-at ahead [] post n absent = grind (arith, nat_tests)
before_from-at ahead (x ∷ pre) post n absent = grind (arith, nat_tests, before_from-at (Some x) pre post n)

-- the previous node is the last of the part before it
pub before-at : (pre post : List ℕ) (n : ℕ) → has n pre ≡ false → before n (pre ++ n ∷ post) ≡ last pre
before-at pre post n absent = before_from-at None pre post n absent

-- a node that is not in the list takes nothing away
pub without-absent : (n : ℕ) (xs : List ℕ) → has n xs ≡ false → without n xs ≡ xs
without-absent n [] absent = refl
without-absent n (x ∷ xs) absent = grind (arith, nat_tests, without-absent n xs)

-- without the node the two parts are left
pub without-at : (pre post : List ℕ) (n : ℕ) → has n pre ≡ false → has n post ≡ false → without n (pre ++ n ∷ post) ≡ pre ++ post
without-at [] post n absent behind = grind (arith, nat_tests, without-absent n post)
without-at (x ∷ pre) post n absent behind = grind (arith, nat_tests, without-at pre post n)

-- a list that lacks `at` stays as it is
pub put_before-absent : (at n : ℕ) (xs : List ℕ) → has at xs ≡ false → put_before at n xs ≡ xs
put_before-absent at n [] absent = refl
put_before-absent at n (x ∷ xs) absent = grind (arith, nat_tests, put_before-absent at n xs)

-- a node put before `at` is between the two parts
pub put_before-at : (pre post : List ℕ) (at n : ℕ) → has at pre ≡ false → put_before at n (pre ++ at ∷ post) ≡ pre ++ n ∷ at ∷ post
put_before-at [] post at n absent = grind (arith, nat_tests)
put_before-at (x ∷ pre) post at n absent = grind (arith, nat_tests, put_before-at pre post at n)

-- ---- the ends of a list

-- the front is a node of the list
pub first_has : (xs : List ℕ) (k : ℕ) → is_some_of k (first xs) ≡ true → has k xs ≡ true
first_has [] k is = absurd (false≢true is)
first_has (x ∷ xs) k is = has_head x k xs (eqb-true x k is)

-- a node that is not in the list is not the front
pub first_off : (xs : List ℕ) (k : ℕ) → has k xs ≡ false → is_some_of k (first xs) ≡ false
first_off [] k absent = refl
first_off (x ∷ xs) k absent = ne_eqb x k (absent_parts x k xs absent).0

last_or_off : (b : Option ℕ) (xs : List ℕ) (k : ℕ) → is_some_of k b ≡ false → has k xs ≡ false → is_some_of k (last_or b xs) ≡ false
last_or_off b [] k off absent = off
last_or_off b (x ∷ xs) k off absent = grind (arith, nat_tests, last_or_off (Some x) xs k)

-- a node that is not in the list is not the back
pub last_off : (xs : List ℕ) (k : ℕ) → has k xs ≡ false → is_some_of k (last xs) ≡ false
last_off xs k absent = last_or_off None xs k refl absent

-- the back is a node of the list
pub last_has : (xs : List ℕ) (k : ℕ) → is_some_of k (last xs) ≡ true → has k xs ≡ true
last_has xs k is = true_from_ne_false _ (λ absent. false≢true (sym (last_off xs k absent) ∙ is))

-- the front and the back of two lists together
pub first_or-append : (b : Option ℕ) (xs ys : List ℕ) → first_or b (xs ++ ys) ≡ first_or (first_or b ys) xs
first_or-append b [] ys = refl
first_or-append b (x ∷ xs) ys = refl

pub last_or-append : (b : Option ℕ) (xs ys : List ℕ) → last_or b (xs ++ ys) ≡ last_or (last_or b xs) ys
last_or-append b [] ys = refl
last_or-append b (x ∷ xs) ys = last_or-append (Some x) xs ys

-- a list with a node has a back
pub last_some : (x : ℕ) (xs : List ℕ) → is_none (last_or (Some x) xs) ≡ false
last_some x [] = refl
last_some x (y ∷ ys) = last_some y ys

-- the front of a list after the part that follows `pre` has changed
pub first_joined : (pre rest now : List ℕ) → first (pre ++ now) ≡ (if is_none (last pre) then first now else first (pre ++ rest))
first_joined [] rest now = refl
first_joined (x ∷ xs) rest now = sym (cond-false _ _ _ (last_some x xs))

-- the back of a list after the part before `post` has changed
pub last_joined : (post rest now : List ℕ) → last (now ++ post) ≡ (if is_none (first post) then last now else last (rest ++ post))
last_joined [] rest now = ap last (append-nil now)
last_joined (y ∷ ys) rest now = last_or-append None now (y ∷ ys) ∙ sym (last_or-append None rest (y ∷ ys))

-- a list is its front and the rest
pub first_split : (n : ℕ) (xs : List ℕ) → first xs ≡ Some n → n ∷ drop 1 xs ≡ xs
first_split n [] is = absurd (none-some n is)
first_split n (x ∷ xs) is = grind (arith, is)

-- the first node alone
pub first_alone : (n : ℕ) (xs : List ℕ) → first xs ≡ Some n → take 1 xs ≡ n ∷ []
first_alone n [] is = absurd (none-some n is)
first_alone n (x ∷ xs) is = grind (arith, is)

-- ---- a list by its places

-- the front is at place 0
pub first-get : (xs : List ℕ) → first xs ≡ slice_get xs 0
first-get [] = refl
first-get (x ∷ xs) = refl

-- the node at a place is in the list
pub has_get : (xs : List ℕ) (i n : ℕ) → slice_get xs i ≡ Some n → has n xs ≡ true
has_get [] i n is = absurd (none-some n is)
has_get (x ∷ xs) zero n is = has_head x n xs (same_Some x n is)
has_get (x ∷ xs) (suc i) n is = has_tail x n xs (has_get xs i n is)

after_suc : (xs : List ℕ) (i n : ℕ) → IsApart xs → slice_get xs i ≡ Some n → after n xs ≡ slice_get xs (suc i)
after_suc [] i n apart is = refl
after_suc (x ∷ xs) zero n apart is = cond-true _ _ _ (eq-eqb x n (same_Some x n is)) ∙ first-get xs
after_suc (x ∷ xs) (suc i) n apart is = cond-false _ _ _ (ne_eqb x n (differ x n xs apart.0 (has_get xs i n is))) ∙ after_suc xs i n apart.1 is

-- the node after the one at a place is at the next place
pub after-get : (xs : List ℕ) (i n : ℕ) → IsApart xs → slice_get xs i ≡ Some n → after n xs ≡ slice_get xs (i + 1)
after-get xs i n apart is = rw add-one (after_suc xs i n apart is)

-- ---- what is in a changed list

-- the list without n has all its other nodes
pub has-without : (k n : ℕ) (xs : List ℕ) → has k (without n xs) ≡ (if n == k then false else has k xs)
has-without k n [] = grind (arith, nat_tests)
has-without k n (x ∷ xs) = grind (arith, nat_tests, has-without k n xs)

-- the list with n at its back has n and what it had
pub has-push_back : (k n : ℕ) (xs : List ℕ) → has k (xs ++ n ∷ []) ≡ ((n == k) || has k xs)
has-push_back k n xs = grind (arith, nat_tests, has-append k xs (n ∷ []))

-- the list with n before `at` has n and what it had
pub has-put_before : (k at n : ℕ) (xs : List ℕ) → has at xs ≡ true → has k (put_before at n xs) ≡ ((n == k) || has k xs)
has-put_before k at n [] there = absurd (false≢true there)
has-put_before k at n (x ∷ xs) there = grind (arith, nat_tests, has-put_before k at n xs)

-- ---- how many nodes there can be

-- a list is its front and what it has without that
pub first-without : (n : ℕ) (xs : List ℕ) → IsApart xs → first xs ≡ Some n → xs ≡ n ∷ without n xs
first-without n [] apart is = absurd (none-some n is)
first-without n (x ∷ xs) apart is =
    subst (λ j. x ∷ xs ≡ j ∷ without j (x ∷ xs)) (same_Some x n is) (ap (λ ys. x ∷ ys) (sym (without-at [] xs x refl apart.0)))

-- a list of numbers below n, none of them twice, has at most n of them
pub length_below : (n : ℕ) (xs : List ℕ) → IsApart xs → ((k : ℕ) → has k xs ≡ true → k < n) → length xs ≤ n
length_below zero [] apart below = omega arith
length_below zero (x ∷ xs) apart below = absurd (omega (arith, below x (has_head x x xs refl)))
length_below (suc n) xs apart below =
    elim (cases_Bool (has n xs)) [
      | inl there ↦
          let pre = upto n xs in
          let post = beyond n xs in
          let is = split_at n xs there in
          let apart_rest = subst IsApart is apart in
          let off = absent_around pre post n apart_rest in
          let absent = has-append n pre post ∙ or_from _ _ off.0 off.1 in
          let fewer = length_below n (pre ++ post) (IsApart-remove pre post n apart_rest)
          (λ k found.
          let other : n ≢ k = differ n k (pre ++ post) absent found in
          omega (arith, below k (ap (has k) is ∙ has-around k n pre post other ∙ found))) in
          omega (arith, fewer, ap length is, length-append pre post, length-append pre (n ∷ post))
      | inr absent ↦ omega (arith, length_below n xs apart (λ k found. let other : n ≢ k = differ n k xs absent found in omega (arith, below k found)))
    ]
