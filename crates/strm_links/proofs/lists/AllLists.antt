-- All lists together: which list holds a node, and what a change does to all of them. Callers cite these lemmas too.
use Rattle.std.proofs.Common.{◌≡◌, ◌≢◌, ℕ, zero, suc, ◌<◌, Bool, true, false, ◌||◌, ◌==◌, List, [], ◌∷◌, ◌++◌, map, length, get_or, set, replicate, Option, Some, None, if◌then◌else◌, refl, sym, ap, ◌∙◌, inl, inr, arith, get_or-set_same, get_or-set_other, length-set}
use Rattle.std.proofs.lemmas.Bool.{cases_eq, cases_lt, cond-true, cond-false, eq-eqb, ne_eqb, lt-ltb, le-ltb, false≢true}
use Rattle.std.proofs.lemmas.Bool.Decides.{nat_tests}
use Rattle.std.proofs.lemmas.List.{length-map, get_or_past, get_or-replicate, length-replicate}
use Rattle.std.proofs.lemmas.List.Sums.{position_or_len_is, fails_before_first}
use Rattle.std.proofs.lemmas.List.Quantifiers.{position-Some}
use Rattle.std.proofs.lemmas.Option.{none-some}
use Rattle.std.specs.List.{All, concat, position_or_len}
use Rattle.strm_links.specs.Rows.{Rows, has, IsApart, is_some_of, without, put_before, list_at, holder, linked_nodes}
use Rattle.strm_links.proofs.lists.OneList.{All-has, has_left, has_right, has-append, has-without, without-absent, put_before-absent, IsApart-parts}

-- ---- which list holds a node

-- the holder of a node is the one list that has it
pub holder_is : (k : ℕ) (rows : Rows) (o : Option ℕ) → ((l : ℕ) → l < length rows.lists → has k (list_at l rows) ≡ is_some_of l o) → ((l : ℕ) → o ≡ Some l → l < length rows.lists) → holder k rows ≡ o
holder_is k rows None each within =
    let none : position_or_len (has k) rows.lists ≡ length rows.lists =
    position_or_len_is (has k) rows.lists (length rows.lists) [] (omega arith) each (λ past. absurd (omega arith)) in
    rw none (cond-false _ _ _ (le-ltb (length rows.lists) (length rows.lists) (omega arith)))
holder_is k rows (Some l) each within =
    let inside : l < length rows.lists = within l refl in
    let at : position_or_len (has k) rows.lists ≡ l =
    position_or_len_is (has k) rows.lists l [] (omega arith) (λ m below. each m (omega arith) ∙ ne_eqb l m (λ same. absurd (omega (arith, same)))) (λ _. each l inside ∙ eq-eqb l l refl) in
    rw at (cond-true _ _ _ (lt-ltb l (length rows.lists) inside))

-- empty lists hold no node
pub holder-empty : (nodes n k : ℕ) → holder k (record { nodes = nodes; lists = replicate n [] }) ≡ None
holder-empty nodes n k =
    holder_is k (record { nodes = nodes; lists = replicate n [] }) None
    (λ l within. ap (has k) (get_or-replicate n l [] [] (omega (arith, within, length-replicate {A = List ℕ} n []))))
    (λ l is. absurd (none-some l is))

-- the list that holds a node has it
pub holder_has : (k l : ℕ) (rows : Rows) → holder k rows ≡ Some l → (l < length rows.lists) × (has k (list_at l rows) ≡ true)
holder_has k l rows is = let found = position-Some (has k) rows.lists l [] is in (found.0, found.1)

-- no list has a node that none holds
pub holder_none : (k l : ℕ) (rows : Rows) → holder k rows ≡ None → has k (list_at l rows) ≡ false
holder_none k l rows is =
    elim (cases_lt l (length rows.lists)) [
      | inl within ↦ fails_before_first (has k) rows.lists l [] (grind (arith, nat_tests, is))
      | inr past ↦ ap (has k) (get_or_past rows.lists l [] past)
    ]

-- ---- no node twice

-- a node of one list is in all lists together
pub has_linked : (k l : ℕ) (lists : List (List ℕ)) → has k (get_or lists l []) ≡ true → has k (concat lists) ≡ true
has_linked k l [] found = absurd (false≢true found)
has_linked k zero (xs ∷ lists) found = has_left k xs (concat lists) found
has_linked k (suc l) (xs ∷ lists) found = has_right k xs (concat lists) (has_linked k l lists found)

-- what holds for each node of all lists together holds for a node of one list
pub All-listed : (P : ℕ → Type 0) (k l : ℕ) (lists : List (List ℕ)) → All P (concat lists) → has k (get_or lists l []) ≡ true → P k
All-listed P k l lists all found = All-has P (concat lists) k all (has_linked k l lists found)

-- if no node is in all lists together twice, none is in one list twice
pub IsApart-list_at : (l : ℕ) (lists : List (List ℕ)) → IsApart (concat lists) → IsApart (get_or lists l [])
IsApart-list_at l [] apart = tt
IsApart-list_at zero (xs ∷ lists) apart = (IsApart-parts xs (concat lists) apart).left
IsApart-list_at (suc l) (xs ∷ lists) apart = IsApart-list_at l lists (IsApart-parts xs (concat lists) apart).right

-- and none is in two lists
pub same_list : (k l m : ℕ) (lists : List (List ℕ)) → IsApart (concat lists) → has k (get_or lists l []) ≡ true → has k (get_or lists m []) ≡ true → l ≡ m
same_list k l m [] apart here there = absurd (false≢true here)
same_list k zero zero (xs ∷ lists) apart here there = refl
same_list k zero (suc m) (xs ∷ lists) apart here there = grind (arith, (IsApart-parts xs (concat lists) apart).cross k, has_linked k m lists)
same_list k (suc l) zero (xs ∷ lists) apart here there = grind (arith, (IsApart-parts xs (concat lists) apart).cross k, has_linked k l lists)
same_list k (suc l) (suc m) (xs ∷ lists) apart here there = ap suc (same_list k l m lists (IsApart-parts xs (concat lists) apart).right here there)

-- a list has a node exactly if it holds it
pub has-holder : (k l : ℕ) (rows : Rows) → IsApart (linked_nodes rows) → has k (list_at l rows) ≡ is_some_of l (holder k rows)
has-holder k l rows apart =
    elim (holder k rows) as (λ o. holder k rows ≡ o → has k (list_at l rows) ≡ is_some_of l o) [
      | None ↦ λ is. holder_none k l rows is
      | Some m ↦ λ is. grind (arith, nat_tests, holder_has k m rows, same_list k m l rows.lists apart)
    ] refl

-- a node that one list holds is in no other
pub absent_elsewhere : (k l m : ℕ) (rows : Rows) → IsApart (linked_nodes rows) → holder k rows ≡ Some l → m ≢ l → has k (list_at m rows) ≡ false
absent_elsewhere k l m rows apart held other = has-holder k m rows apart ∙ ap (is_some_of m) held ∙ ne_eqb l m (λ same. other (sym same))

-- ---- the lists after a change

-- list l after the same change of every list
pub list_at-map : (f : List ℕ → List ℕ) (lists : List (List ℕ)) (l : ℕ) → f [] ≡ [] → get_or (map f lists) l [] ≡ f (get_or lists l [])
list_at-map f [] l nil = sym nil
list_at-map f (xs ∷ lists) zero nil = refl
list_at-map f (xs ∷ lists) (suc l) nil = list_at-map f lists l nil

-- a change that leaves every list as it is
map_same : (f : List ℕ → List ℕ) (lists : List (List ℕ)) → ((m : ℕ) → f (get_or lists m []) ≡ get_or lists m []) → map f lists ≡ lists
map_same f [] each = refl
map_same f (xs ∷ lists) each = λ i. each 0 i ∷ map_same f lists (λ m. each (suc m)) i

-- a change that leaves every list but l as it is changes list l alone
pub map-one : (f : List ℕ → List ℕ) (lists : List (List ℕ)) (l : ℕ) → ((m : ℕ) → m ≢ l → f (get_or lists m []) ≡ get_or lists m []) → map f lists ≡ set lists l (f (get_or lists l []))
map-one f [] l others = refl
map-one f (xs ∷ lists) zero others = ap (λ ys. f xs ∷ ys) (map_same f lists (λ m. others (suc m) (λ is. absurd (omega (arith, is)))))
map-one f (xs ∷ lists) (suc l) others =
    λ i. others 0 (λ is. absurd (omega (arith, is))) i ∷ map-one f lists l (λ m other. others (suc m) (λ is. other (omega (arith, is)))) i

module _ (rows : Rows) (apart : IsApart (linked_nodes rows)) where
  -- taking a node out of every list takes it out of the list that holds it
  pub map-without : (n l : ℕ) → holder n rows ≡ Some l → map (without n) rows.lists ≡ set rows.lists l (without n (list_at l rows))
  map-without n l held = map-one (without n) rows.lists l (λ m other. without-absent n (list_at m rows) (absent_elsewhere n l m rows apart held other))

  -- putting a node before `at` in every list puts it into the list that holds `at`
  pub map-put_before : (at n l : ℕ) → holder at rows ≡ Some l → map (put_before at n) rows.lists ≡ set rows.lists l (put_before at n (list_at l rows))
  map-put_before at n l held = map-one (put_before at n) rows.lists l (λ m other. put_before-absent at n (list_at m rows) (absent_elsewhere at l m rows apart held other))

  -- which list holds a node after a free one has joined list l
  pub holder-insert : (n l k : ℕ) (ys : List ℕ) → l < length rows.lists → holder n rows ≡ None → has k ys ≡ ((n == k) || has k (list_at l rows))
      → holder k (record rows { lists = set rows.lists l ys }) ≡ (if n == k then Some l else holder k rows)
  holder-insert n l k ys within free joined =
      holder_is k (record rows { lists = set rows.lists l ys }) _
      (λ m inside. grind (arith, nat_tests, get_or-set_same rows.lists l ys [] within, get_or-set_other rows.lists l m ys [], has-holder k m rows apart, has-holder k l rows apart))
      (λ m is. grind (arith, nat_tests, length-set rows.lists l ys, holder_has k m rows))

  -- list l holds the node that joined it
  pub holder-insert_here : (n l : ℕ) (ys : List ℕ) → l < length rows.lists → holder n rows ≡ None → has n ys ≡ ((n == n) || has n (list_at l rows)) → holder n (record rows { lists = set rows.lists l ys }) ≡ Some l
  holder-insert_here n l ys within free joined = holder-insert n l n ys within free joined ∙ cond-true _ _ _ (eq-eqb n n refl)

  -- every other node is held as before
  pub holder-insert_other : (n l k : ℕ) (ys : List ℕ) → l < length rows.lists → holder n rows ≡ None → has k ys ≡ ((n == k) || has k (list_at l rows)) → k ≢ n → holder k (record rows { lists = set rows.lists l ys }) ≡ holder k rows
  holder-insert_other n l k ys within free joined other = holder-insert n l k ys within free joined ∙ cond-false _ _ _ (ne_eqb n k (λ same. other (sym same)))

  -- which list holds a node after n has left
  pub holder-remove : (n k : ℕ) → holder k (record rows { lists = map (without n) rows.lists }) ≡ (if n == k then None else holder k rows)
  holder-remove n k =
      holder_is k (record rows { lists = map (without n) rows.lists }) _
      (λ m inside. grind (arith, nat_tests, list_at-map (without n) rows.lists m, has-without k n (list_at m rows), has-holder k m rows apart))
      (λ m is. grind (arith, nat_tests, length-map rows.lists (without n), holder_has k m rows))

  -- what list m has after one list has joined another: m is `from`, `to` or neither
  has_appended : (P : ℕ → Bool) (m k to from : ℕ) (joined : List ℕ) → m < length rows.lists → from < length rows.lists → false ≡ P from → has k joined ≡ P to → (m ≢ from → m ≢ to → has k (list_at m rows) ≡ P m)
      → has k (get_or (set (set rows.lists to joined) from []) m []) ≡ P m
  has_appended P m k to from joined inside from_within empty both others =
      elim (cases_eq m from) [
        | inl same ↦ grind (arith, get_or-set_same (set rows.lists to joined) from [] [], length-set rows.lists to joined)
        | inr not_from ↦
            grind (arith, get_or-set_other (set rows.lists to joined) from m [] [], get_or-set_same rows.lists to joined [], get_or-set_other rows.lists to m joined [], others, cases_eq m to)
      ]

  -- which list holds a node after one list has joined another
  pub holder-append : (to from k : ℕ) → to < length rows.lists → from < length rows.lists → to ≢ from
      → holder k (record rows { lists = set (set rows.lists to (list_at to rows ++ list_at from rows)) from [] }) ≡ (if is_some_of from (holder k rows) then Some to else holder k rows)
  holder-append to from k to_within from_within differ =
      let joined = list_at to rows ++ list_at from rows in
      let after : ℕ → Bool = λ j. is_some_of j (if is_some_of from (holder k rows) then Some to else holder k rows) in
      let long : length (set (set rows.lists to joined) from []) ≡ length rows.lists = length-set (set rows.lists to joined) from [] ∙ length-set rows.lists to joined in
      holder_is k (record rows { lists = set (set rows.lists to joined) from [] }) _
      (λ m inside. has_appended after m k to from joined (omega (arith, long, inside)) from_within
      (grind (arith, nat_tests, differ))
      (grind (arith, nat_tests, has-append k (list_at to rows) (list_at from rows), has-holder k from rows apart, has-holder k to rows apart))
      (λ not_from not_to. grind (arith, nat_tests, not_from, not_to, has-holder k m rows apart)))
      (λ m is. grind (arith, nat_tests, long, to_within, holder_has k m rows))
